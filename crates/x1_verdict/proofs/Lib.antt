pub mod Checks
pub mod Starts
pub mod Tracks
pub mod Passing
