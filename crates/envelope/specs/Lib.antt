pub mod Seal
pub mod Header
