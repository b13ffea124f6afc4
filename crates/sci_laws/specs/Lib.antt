pub mod Translate
pub mod Laws
pub mod Recovery
pub mod Facts
pub mod Example
