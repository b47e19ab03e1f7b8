pub mod Faults
pub mod Logs
