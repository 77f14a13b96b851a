-- The laws of `marks`.
pub mod Ordered
pub mod Tests
pub mod Marks
pub mod Bytes
pub mod Pages
pub mod Counting
pub mod Answers
pub mod Marking
pub mod Table
