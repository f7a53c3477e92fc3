-- The laws of this crate, in the order in which they build on each other.
pub mod Neighbours
pub mod Written
pub mod Keeping
pub mod Theorems
