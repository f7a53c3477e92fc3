-- The laws of this crate, in the order in which they build on each other.
pub mod RowRuns
pub mod Inserting
pub mod Gathering
pub mod Lists
pub mod TermLaws
pub mod Answering
pub mod RowWords
pub mod RowLists
pub mod Sorting
pub mod LeafLaw
pub mod LeafWriting
pub mod Rules
pub mod Written
