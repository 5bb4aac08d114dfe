pub mod Reasons
pub mod Answers
pub mod Facts
pub mod Verdicts
pub mod Walk
pub mod Order
