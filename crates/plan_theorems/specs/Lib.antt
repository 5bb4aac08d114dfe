pub mod Agree
pub mod PlanRoutes
