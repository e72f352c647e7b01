pub mod PartEnds
pub mod PartMemory
pub mod PartLevels
pub mod PartsInOrder
pub mod PartInWhole
pub mod PlanOfPart
pub mod WrittenInAnyOrder
