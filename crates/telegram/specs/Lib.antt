pub mod Bits
pub mod Forms
pub mod Headers
pub mod Lists
pub mod Packets
pub mod Telegrams
