-- The root to which a signature leads, as the code gets at it.
pub mod Recomputed
