-- The definitions of this crate, in the order in which they build on each other.

pub mod Search
pub mod Checking
pub mod Lending
pub mod Marked
