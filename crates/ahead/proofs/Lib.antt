pub mod Legs
pub mod LieList
pub mod Looking
pub mod Answering
