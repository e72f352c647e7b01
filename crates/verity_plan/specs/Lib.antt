pub mod Settings
pub mod CheckedSettings
pub mod Plans
pub mod PlanCounts
pub mod PlanLaws
pub mod PlanFields
