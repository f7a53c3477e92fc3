-- The laws of this crate, in the order in which they build on each other.
pub mod Table
pub mod Rule
pub mod Laws
pub mod Runs
pub mod Folds
pub mod Examples
