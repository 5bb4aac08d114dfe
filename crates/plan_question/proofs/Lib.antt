pub mod Reading
pub mod Told
pub mod Ways
pub mod Fits
