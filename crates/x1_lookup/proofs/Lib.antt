pub mod Search
pub mod Rising
pub mod Lookup
pub mod Ones
pub mod Present
