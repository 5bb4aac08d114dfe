pub mod Narrow
pub mod Questions
