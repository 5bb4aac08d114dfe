pub mod Sums
pub mod Stretches
pub mod Questions
pub mod Ranges
pub mod Alike
