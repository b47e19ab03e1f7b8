pub mod Cursors
pub mod Faults
pub mod Hexes
pub mod Legal
pub mod Parts
pub mod Pairs
