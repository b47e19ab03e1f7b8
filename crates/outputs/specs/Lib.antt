pub mod Maintenance
pub mod Recorders
pub mod Valves
