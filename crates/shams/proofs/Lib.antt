-- Why each sham breaks a promise.
pub mod Checks
pub mod Histories
pub mod Breaks
