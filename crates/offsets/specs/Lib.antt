-- The definitions of this crate, in the order in which they build on each other.
pub mod Cut
pub mod Names
