pub mod Typed
pub mod Decoded
pub mod Arrays
pub mod Example
