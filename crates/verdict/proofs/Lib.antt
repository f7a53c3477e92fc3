-- The laws of this crate.

pub mod Runs
pub mod Shown
pub mod Kept
pub mod Sharing
pub mod Counting
pub mod Searching
pub mod Order
pub mod Sheets
pub mod Corollaries
