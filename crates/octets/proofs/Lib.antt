pub mod Reading
pub mod Signs
pub mod Sizes
