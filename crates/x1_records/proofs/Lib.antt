pub mod Reading
pub mod Whole
