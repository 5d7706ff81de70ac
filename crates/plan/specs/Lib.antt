pub mod Sizes
pub mod Plan
pub mod PlanRules
pub mod PlanArrays
