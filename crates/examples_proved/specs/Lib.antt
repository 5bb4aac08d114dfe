pub mod Table
pub mod Judged
