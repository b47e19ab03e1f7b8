pub mod Events
pub mod Panels
pub mod Records
pub mod Times
