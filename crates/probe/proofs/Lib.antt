-- The laws that the proofs of `probe` cite.
pub mod Named
