pub mod Values
pub mod Tables
pub mod Fields
pub mod Links
