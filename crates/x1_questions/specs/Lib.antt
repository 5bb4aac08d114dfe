pub mod Results
pub mod Stretch
pub mod Questions
pub mod Answers
pub mod Coordinate
pub mod inner
