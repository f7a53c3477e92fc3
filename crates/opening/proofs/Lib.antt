-- The laws of this crate, in the order in which they build on each other.
pub mod Masks
pub mod Nodes
pub mod Firsts
pub mod Seeking
pub mod Choosing
pub mod Framing
pub mod Taking
pub mod Starting
pub mod Words
pub mod Leading
pub mod Walks
pub mod Alone
pub mod Room
pub mod Collecting
pub mod Standing
