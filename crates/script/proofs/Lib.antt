pub mod Laws
pub mod Writes
pub mod Numbers
pub mod Commands
pub mod Items
pub mod Slices
pub mod Parts
