pub mod Places
pub mod Sections
pub mod Told
pub mod TableFails
pub mod Tells
