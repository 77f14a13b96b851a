-- The definitions that the contracts of `sha256` cite.
pub mod Sha256
pub mod Midstate
