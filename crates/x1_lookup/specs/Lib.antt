pub mod Lookup
pub mod Presence
pub mod inner
