pub mod Words
pub mod Degrees
pub mod Ahead
pub mod Shown
pub mod Load
