pub mod Line
pub mod Recovery
pub mod Corollaries
pub mod Outside
pub mod Layers
pub mod NearMisses
