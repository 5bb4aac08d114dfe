pub mod Leads
pub mod Exactly
pub mod Legal
pub mod Ends
pub mod Range
pub mod Answered
pub mod Ways
