-- The laws of `frames`.
pub mod Endings
pub mod Sessions
