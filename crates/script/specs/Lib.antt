pub mod Number
pub mod Encode
pub mod Command
pub mod Items
pub mod Write
pub mod RoundTrip
pub mod Cases
