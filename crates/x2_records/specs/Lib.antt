pub mod Places
pub mod Rows
pub mod Tables
pub mod Records
