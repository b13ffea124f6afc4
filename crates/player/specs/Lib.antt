pub mod Play
pub mod Private
