pub mod Standing
pub mod Agreed
pub mod ReadPlan
pub mod PassedOver
