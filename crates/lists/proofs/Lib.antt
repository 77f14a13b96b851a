-- The laws of `lists`.
pub mod Tabs
pub mod Everywhere
pub mod Flats
pub mod Turns
pub mod Filling
pub mod Replacing
pub mod Written
pub mod Numbers
pub mod Methods
pub mod Fronts
