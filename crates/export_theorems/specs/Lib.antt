pub mod TakenApart
pub mod Fit
pub mod Ahead
pub mod Load
