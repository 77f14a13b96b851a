-- The laws of `records`.
pub mod Made
pub mod Read
