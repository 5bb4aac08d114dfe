pub mod Numbers
pub mod Ahead
pub mod Laid
pub mod Ways
pub mod Stored
