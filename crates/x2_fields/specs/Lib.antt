pub mod Fields
pub mod Agreement
pub mod inner
