pub mod Faults
pub mod Says
pub mod Asked
pub mod Base
pub mod Heights
pub mod Degrees
