-- The laws of this crate, in the order in which they build on each other.
pub mod Cuts
pub mod CutSteps
pub mod NameLaws
pub mod NameSteps
