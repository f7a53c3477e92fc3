-- The definitions of this crate.

pub mod Age
pub mod Order
