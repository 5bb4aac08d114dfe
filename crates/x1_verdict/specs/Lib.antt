pub mod Fields
pub mod Agreement
pub mod Facts
pub mod inner
