pub mod PlanTable
