-- The definitions of this crate, in the order in which they build on each other.
pub mod Order
pub mod Numbers
pub mod Words
pub mod Entries
