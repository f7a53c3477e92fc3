-- The laws of this crate, in the order in which they build on each other.
pub mod Indexes
pub mod Order
pub mod Searches
pub mod Shapes
pub mod Checks
pub mod Corollaries
pub mod Lending
pub mod Examples
