pub mod Results
pub mod Places
pub mod Groups
pub mod Layout
pub mod Facts
pub mod Records
pub mod Obeys
pub mod inner
