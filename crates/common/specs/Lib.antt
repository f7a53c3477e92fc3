-- The definitions of this crate, in the order in which they build on each other.
pub mod Bounds
pub mod Pick
pub mod Bytes
pub mod Bits
pub mod Frame
pub mod Rooms
pub mod Refusals
pub mod Marked
