pub mod Translate
pub mod Laws
pub mod Recovery
pub mod Example
