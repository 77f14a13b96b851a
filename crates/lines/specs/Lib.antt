-- The definitions of `lines`.
pub mod Lines
pub mod Decimal
pub mod Steps
pub mod Reading
