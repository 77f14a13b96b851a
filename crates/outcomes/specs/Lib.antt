-- The definitions of `outcomes`.
pub mod Conditions
pub mod Outcome
pub mod Refused
