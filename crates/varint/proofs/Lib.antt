-- The laws of this crate, in the order in which they build on each other.
pub mod Steps
pub mod Laws
pub mod Writing
pub mod Examples
