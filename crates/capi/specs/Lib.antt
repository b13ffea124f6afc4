pub mod State
pub mod Round
pub mod Exports
