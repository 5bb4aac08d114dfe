pub mod Rooms
pub mod Runs
pub mod Forms
pub mod Which
pub mod Sent
