-- The laws of this crate, in the order in which they build on each other.
pub mod Every
pub mod Ordered
pub mod Taken
pub mod Merging
pub mod Prefixes
pub mod Stored
pub mod Counting
pub mod Capping
pub mod Putting
pub mod Adding
pub mod Stepping
pub mod Merges
pub mod Order
pub mod Corollaries
