-- The laws of `lines`.
pub mod Runs
pub mod Contents
pub mod Answers
pub mod Decimals
pub mod Buffers
