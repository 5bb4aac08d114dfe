pub mod Obeys
pub mod Numbers
pub mod Whole
pub mod Plain
pub mod Speaks
pub mod Base
