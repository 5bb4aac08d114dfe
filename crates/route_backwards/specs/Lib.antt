pub mod Backwards
pub mod Calls
