pub mod Pins
