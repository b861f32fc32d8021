pub mod Gate
pub mod Term
pub mod Flat
pub mod Shape
pub mod Parse
