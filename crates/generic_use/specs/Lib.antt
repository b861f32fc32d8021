pub mod Lists
pub mod Preparing
pub mod Rates
