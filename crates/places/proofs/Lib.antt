pub mod Lists
pub mod X1
pub mod X2
pub mod Pair
pub mod Questions
