pub mod Weigh
pub mod Equivalence
pub mod Tested
