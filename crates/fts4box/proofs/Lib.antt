-- The laws of this crate.
pub mod Sheets
pub mod Certificate
