-- Wrong operations, and a suite at which they are caught.
pub mod ToyValues
pub mod Toy
pub mod Checks
pub mod Histories
