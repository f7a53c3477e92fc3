-- The laws of this crate, in the order in which they build on each other.
pub mod Cases
pub mod Numbers
pub mod Bits
pub mod Lists
pub mod Parts
pub mod Runs
pub mod Same
pub mod Members
pub mod Keyed
pub mod Rooms
pub mod Frames
pub mod Refusals
pub mod Marked
