-- The laws of this crate, in the order in which they build on each other.
pub mod Rooms
pub mod Below
pub mod Lacking
pub mod Evaluating
pub mod Reaching
pub mod Passing
pub mod RowLaws
pub mod Progress
pub mod Going
pub mod Running
