-- The laws of this crate, in the order in which they build on each other.
pub mod Bodies
pub mod Each
pub mod Framing
pub mod Docids
pub mod Rows
pub mod Moving
pub mod Blocks
pub mod Others
pub mod Scanning
pub mod Passing
pub mod Few
