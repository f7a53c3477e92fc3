-- The laws of this crate, in the order in which they build on each other.
pub mod Stretches
pub mod Phrases
pub mod Runs
pub mod RunSteps
pub mod TokenLaws
pub mod Places
pub mod Numbers
pub mod WordLaws
pub mod PhraseSteps
pub mod LexSteps
pub mod Nodes
pub mod Packing
pub mod TokenNodes
pub mod Examples
