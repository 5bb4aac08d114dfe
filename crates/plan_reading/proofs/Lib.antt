pub mod Cases
pub mod Lines
pub mod After
pub mod TextLines
