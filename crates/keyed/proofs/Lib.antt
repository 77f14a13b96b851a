-- The laws of `keyed`.
pub mod Suites
pub mod Blocks
