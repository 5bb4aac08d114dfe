pub mod Objects
pub mod Ways
pub mod Links
pub mod Read
pub mod inner
