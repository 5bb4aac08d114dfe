pub mod Turned
pub mod Reading
pub mod Backwards
pub mod Engines
pub mod Planned
