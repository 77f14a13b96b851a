-- The laws of `signatures`.
pub mod Recomputed
pub mod Signed
