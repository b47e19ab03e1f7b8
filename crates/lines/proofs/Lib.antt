pub mod Examples
pub mod Laws
pub mod Putting
pub mod StripSizes
pub mod StripWords
pub mod Strips
