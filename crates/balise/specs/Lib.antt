pub mod Codes
pub mod Directions
pub mod Faults
pub mod Headers
