pub mod Lines
pub mod Printout
pub mod Cases
