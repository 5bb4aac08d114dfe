pub mod Nearest
pub mod Way
