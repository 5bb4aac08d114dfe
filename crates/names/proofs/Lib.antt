pub mod Cases
pub mod Counts
pub mod Names
pub mod Spelling
pub mod Written
