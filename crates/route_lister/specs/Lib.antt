pub mod Answered
pub mod Listing
pub mod inner
