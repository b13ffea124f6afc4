pub mod Fits
pub mod Copy
pub mod Answers
pub mod Round
