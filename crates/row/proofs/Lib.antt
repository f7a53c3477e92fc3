-- The laws of this crate, in the order in which they build on each other.
pub mod Bodies
pub mod Rows
pub mod Candidates
