-- The laws of this crate.

pub mod Permutations
pub mod Ages
pub mod Sorting
pub mod Inserting
pub mod Placing
