pub mod Fractions
pub mod Order
pub mod Columns
pub mod Nearest
