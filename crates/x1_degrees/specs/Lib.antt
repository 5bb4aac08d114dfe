pub mod Results
pub mod Questions
pub mod Answers
pub mod inner
