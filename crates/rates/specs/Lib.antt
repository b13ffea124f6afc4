pub mod Rates
pub mod Nearest
