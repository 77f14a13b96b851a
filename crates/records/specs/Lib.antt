-- The secret record, and what is made of it.
pub mod Records
pub mod Keys
pub mod Contents
