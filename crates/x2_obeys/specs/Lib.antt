pub mod Fields
pub mod Links
