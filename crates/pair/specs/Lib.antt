pub mod Pair
pub mod inner
