pub mod Heard
pub mod Law
pub mod Reads
pub mod Said
pub mod Steps
pub mod Texts
