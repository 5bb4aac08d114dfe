pub mod Results
pub mod Facts
pub mod Obeys
pub mod Questions
pub mod Answers
pub mod inner
