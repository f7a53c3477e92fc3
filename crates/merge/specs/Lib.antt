-- The definitions of this crate, in the order in which they build on each other.
pub mod Words
pub mod Terms
pub mod Merge
pub mod Searching
