-- The laws of this crate, in the order in which they build on each other.
pub mod Finding
pub mod Once
pub mod Living
pub mod Accepting
pub mod Searches
pub mod Indexes
pub mod Rising
pub mod Sums
pub mod Totals
pub mod Written
pub mod Kept
pub mod Making
pub mod Grouping
