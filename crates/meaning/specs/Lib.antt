-- The definitions of this crate, in the order in which they build on each other.
pub mod Satisfies
pub mod Written
pub mod Index
pub mod Listing
