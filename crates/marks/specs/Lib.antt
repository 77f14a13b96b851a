-- The definitions of `marks`.
pub mod Page
pub mod Decisions
pub mod Marking
pub mod Shown
pub mod Table
