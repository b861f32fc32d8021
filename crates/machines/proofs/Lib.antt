pub mod Counts
pub mod Operands
pub mod Writing
