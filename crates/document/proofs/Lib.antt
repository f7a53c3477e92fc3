-- The laws of this crate, in the order in which they build on each other.
pub mod Distinct
pub mod Places
pub mod Weight
pub mod Terms
pub mod Only
pub mod Size
pub mod Reading
pub mod Examples
