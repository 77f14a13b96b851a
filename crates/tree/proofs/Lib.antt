-- The laws by which `tree` puts nodes together, over any suite.
pub mod Joins
pub mod Rounds
pub mod Bounds
pub mod Parts
