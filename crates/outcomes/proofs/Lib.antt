-- The laws of `outcomes`.
pub mod Outcomes
