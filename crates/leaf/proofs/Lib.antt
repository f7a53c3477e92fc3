-- The laws of this crate, in the order in which they build on each other.
pub mod Words
pub mod Orders
pub mod Heads
pub mod Rest
pub mod Walking
pub mod Laws
pub mod Checks
pub mod Once
pub mod Nine
pub mod Leaves
