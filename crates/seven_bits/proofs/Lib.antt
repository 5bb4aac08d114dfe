pub mod Groups
pub mod Reading
pub mod Forms
pub mod Examples
