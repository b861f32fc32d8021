pub mod Tariff
pub mod Prices
pub mod Money
pub mod Noise
pub mod Charges
