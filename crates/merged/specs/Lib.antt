-- The definitions of this crate, in the order in which they build on each other.
pub mod Merged
pub mod Totals
pub mod Lending
pub mod Grouping
