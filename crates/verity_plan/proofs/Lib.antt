pub mod CountLemmas
mod DefinitionExamples
pub mod FanLemmas
pub mod FitLemmas
pub mod IndexLemmas
pub mod LeastLemmas
pub mod LimitLemmas
pub mod PlaceLemmas
pub mod PlanLemmas
