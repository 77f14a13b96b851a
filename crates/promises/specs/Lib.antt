-- What is promised, in the customer's words.
pub mod Checking
pub mod Making
pub mod Signing
pub mod Table
pub mod History
pub mod Kept
pub mod Call
