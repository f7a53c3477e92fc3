-- The definitions of this crate, in the order in which they build on each other.
pub mod Groups
pub mod Arrays
pub mod Frames
pub mod Scanning
