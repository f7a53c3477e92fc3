-- The definitions of this crate, in the order in which they build on each other.
pub mod Docid
pub mod Doclist
pub mod Checking
pub mod Marked
pub mod Spots
