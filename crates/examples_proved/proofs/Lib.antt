pub mod Backwards
pub mod Ahead
pub mod Transfer
