pub mod Links
pub mod inner
