pub mod Stops
pub mod Asked
