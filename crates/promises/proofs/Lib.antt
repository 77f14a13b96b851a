-- The laws behind the promises.
pub mod Checking
pub mod Making
pub mod Marking
pub mod Signing
pub mod Honest
pub mod Phases
pub mod Calls
pub mod Steps
pub mod Story
pub mod Restarts
pub mod Pairs
