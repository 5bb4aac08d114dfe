pub mod Equal
pub mod Words
pub mod Among
pub mod Listed
