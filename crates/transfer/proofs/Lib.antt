pub mod Answers
pub mod Taking
pub mod Laying
pub mod Finished
