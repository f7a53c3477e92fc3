-- The laws of this crate, in the order in which they build on each other.
pub mod Deciding
pub mod Lists
pub mod Agree
pub mod Some
pub mod Occurrences
pub mod Operators
pub mod Distances
