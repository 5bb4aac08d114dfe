pub mod Listing
pub mod OneList
pub mod Links
pub mod Listed
pub mod Range
pub mod Asked
pub mod Base
