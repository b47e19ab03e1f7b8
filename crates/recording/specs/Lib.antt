pub mod Lines
pub mod Recorders
