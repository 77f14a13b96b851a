-- The definitions of `rfc8391`: what hashes is over a hash suite.
pub mod Suite
pub mod Address
pub mod Wots
pub mod Xmss
pub mod House
pub mod Formats
pub mod Table
