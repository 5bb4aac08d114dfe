pub mod Results
pub mod Lies
pub mod Ways
pub mod Ahead
pub mod Seen
pub mod Asked
pub mod inner
