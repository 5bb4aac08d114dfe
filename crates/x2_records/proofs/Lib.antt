pub mod Whole
pub mod Ties
pub mod Linked
