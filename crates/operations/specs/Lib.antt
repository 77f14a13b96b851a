-- What the operations answer.
pub mod Decisions
pub mod Check
pub mod Make
pub mod Sign
