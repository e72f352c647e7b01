mod Trees
mod Files
mod Parts
mod Joins
pub mod FilePlans
pub mod PartCalls
pub mod TreeCalls
