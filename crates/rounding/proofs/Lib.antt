pub mod Wholes
pub mod Quotients
pub mod Rounding
pub mod Sizes
pub mod Ends
pub mod Steps
pub mod Answers
