pub mod Laws
pub mod Ranges
pub mod ReceiveErrors
pub mod Edges
pub mod Facts
pub mod Causes
