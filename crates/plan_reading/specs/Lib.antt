pub mod Reading
pub mod ReadPlan
