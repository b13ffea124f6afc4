pub mod Count
pub mod Cycle
pub mod Kept
pub mod Laws
pub mod Steps
pub mod Wait
