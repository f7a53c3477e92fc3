-- The laws of this crate, in the order in which they build on each other.
pub mod Ordering
pub mod Numbers
pub mod Seeking
pub mod WordLaws
pub mod EntryLaws
