pub mod Drafts
pub mod Layouts
pub mod RoundTrip
pub mod Writing
