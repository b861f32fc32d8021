pub mod Chip
pub mod Laws
