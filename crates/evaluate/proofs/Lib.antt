-- The laws of this crate, in the order in which they build on each other.
pub mod Postfix
pub mod Running
pub mod Cuts
pub mod Needing
