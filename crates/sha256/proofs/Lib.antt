-- The laws of `sha256`, and FIPS 180-4's example.
pub mod Examples
pub mod Schedule
pub mod Blocks
pub mod Endings
pub mod Digests
