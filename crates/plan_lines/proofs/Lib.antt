pub mod Examples
pub mod Fronts
pub mod Lent
pub mod Offsets
pub mod Says
pub mod Spaced
pub mod Stores
pub mod WordsIn
