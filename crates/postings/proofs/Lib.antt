-- The laws of this crate, in the order in which they build on each other.
pub mod Fitting
pub mod Storing
pub mod Closing
pub mod Growing
pub mod Stretching
pub mod Choosing
pub mod Firsts
pub mod Once
pub mod Merging
pub mod Capping
pub mod Counting
pub mod Standing
pub mod Turning
pub mod Going
