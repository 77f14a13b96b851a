-- The definitions that the contracts of `onetime` cite beside RFC 8391's.
pub mod Secrets
