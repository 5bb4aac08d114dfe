pub mod Obeys
pub mod Faults
pub mod Says
pub mod Base
