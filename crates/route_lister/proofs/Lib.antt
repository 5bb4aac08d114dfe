pub mod Stores
pub mod Marking
pub mod By
pub mod Turn
pub mod Opening
pub mod Whole
pub mod Course
