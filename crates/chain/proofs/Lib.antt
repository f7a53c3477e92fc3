-- The laws of this crate, in the order in which they build on each other.
pub mod Ends
pub mod Marks
pub mod Keys
pub mod Windows
pub mod Walks
pub mod Marking
pub mod Stepping
pub mod Nodes
pub mod Going
pub mod Chaining
pub mod Rooms
