pub mod Count
pub mod Cycle
pub mod Quick
pub mod Calls
pub mod Cause
pub mod Laws
pub mod Private
