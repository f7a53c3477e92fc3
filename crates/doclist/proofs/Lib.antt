-- The laws of this crate, in the order in which they build on each other.
pub mod Docids
pub mod Steps
pub mod Numbers
pub mod Walking
pub mod Content
pub mod Law
pub mod Unique
pub mod Entries
pub mod Places
pub mod Finding
pub mod Spots
pub mod Nine
pub mod Examples
