-- The definitions of `frames`.
pub mod Frames
pub mod Buffers
