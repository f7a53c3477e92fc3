-- The definitions of this crate, in the order in which they build on each other.
pub mod Token
pub mod Tokens
pub mod Lexing
pub mod Filling
pub mod Looking
