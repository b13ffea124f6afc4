pub mod Due
pub mod Sender
pub mod Receiver
pub mod Valid
pub mod Cause
pub mod Private
