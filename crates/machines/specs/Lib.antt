pub mod Operation
pub mod Machine
pub mod Wires
pub mod Kept
pub mod Listing
pub mod Composed
pub mod Laws
