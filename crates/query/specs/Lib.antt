-- The definitions of this crate, in the order in which they build on each other.
pub mod Tree
pub mod Grammar
pub mod Parsing
pub mod Levels
pub mod Reading
pub mod Marked
