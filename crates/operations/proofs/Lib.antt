-- The laws of the operations.
pub mod Types
pub mod Checks
pub mod Makes
pub mod Signs
