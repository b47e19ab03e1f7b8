pub mod Fields
pub mod Packets
pub mod Turns
