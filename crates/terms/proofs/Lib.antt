pub mod Shaping
pub mod Parsing
pub mod Forests
pub mod Gates
