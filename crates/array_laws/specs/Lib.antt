pub mod Typed
pub mod Arrays
