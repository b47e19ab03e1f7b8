pub mod GroupLaws
pub mod Groups
pub mod Printed
pub mod Receiving
