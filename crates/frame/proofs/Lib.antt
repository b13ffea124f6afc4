pub mod Choose
pub mod Truth
pub mod Laws
pub mod Words
pub mod Shifts
pub mod Facts
