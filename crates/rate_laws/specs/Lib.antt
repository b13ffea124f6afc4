pub mod Cells
pub mod Writes
pub mod Example
