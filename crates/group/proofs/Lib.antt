pub mod Closings
pub mod Directions
pub mod Laws
pub mod Questions
pub mod Storings
pub mod Visits
