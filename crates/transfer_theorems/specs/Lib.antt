pub mod Runs
pub mod Checks
pub mod Sent
