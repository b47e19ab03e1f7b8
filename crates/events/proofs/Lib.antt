pub mod Going
pub mod Laws
pub mod Pairs
pub mod Speeds
