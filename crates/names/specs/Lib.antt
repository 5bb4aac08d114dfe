pub mod Base
pub mod Cases
pub mod Names
pub mod Written
