-- The definitions that the contracts of `keyed` cite; Values has what a suite must show of its functions.
pub mod Keyed
pub mod Functions
pub mod Values
pub mod Sha2
pub mod Suites
pub mod Held
pub mod Seeds
