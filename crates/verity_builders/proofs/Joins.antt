pub mod JoinMemory
pub mod JoinDigests
pub mod JoinInOrder
pub mod PlanOfJoin
