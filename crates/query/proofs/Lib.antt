-- The laws of this crate, in the order in which they build on each other.
pub mod Front
pub mod Sound
pub mod Complete
pub mod Nodes
pub mod Bounds
pub mod Places
pub mod Codes
pub mod Steps
pub mod Operands
pub mod Whole
pub mod Accepting
pub mod Examples
