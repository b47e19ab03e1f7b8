pub mod Readings
pub mod StripLaws
pub mod StripWords
pub mod Strips
pub mod Writing
