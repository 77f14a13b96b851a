-- The contracts of `tree` cite RFC 8391's definitions; this names the leaves of a whole key.
pub mod Keys
