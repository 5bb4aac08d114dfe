pub mod Facts
pub mod Walk
pub mod Checks
pub mod Steps
pub mod Orders
pub mod Questions
