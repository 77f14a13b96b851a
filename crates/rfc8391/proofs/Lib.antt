-- The laws of `rfc8391`, over any suite.
pub mod Values
pub mod Digits
pub mod Chains
pub mod Ltrees
pub mod Trees
pub mod Honest
pub mod Formats
pub mod Accepted
pub mod Table
