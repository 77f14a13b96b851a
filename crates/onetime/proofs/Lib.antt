-- The laws by which `onetime` puts digits and chains together, over any suite.
pub mod Digits
pub mod Ends
