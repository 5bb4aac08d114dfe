pub mod Legal
pub mod Walks
pub mod All
pub mod Lent
pub mod Range
pub mod inner
