pub mod Asked
pub mod Base
