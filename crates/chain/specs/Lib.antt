-- The definitions of this crate, in the order in which they build on each other.
pub mod Chains
pub mod Keys
pub mod Reaching
pub mod Going
