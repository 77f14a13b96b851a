-- The definitions of `lists`.
pub mod Lists
pub mod Bytes
pub mod Loops
pub mod Fronts
