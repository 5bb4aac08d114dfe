pub mod Ways
pub mod Places
pub mod Read
pub mod EndsLaws
