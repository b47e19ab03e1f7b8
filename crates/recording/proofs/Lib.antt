pub mod Appending
pub mod Texts
pub mod Words
