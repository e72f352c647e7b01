pub mod AnswerLemmas
pub mod BuildingLemmas
mod BuildingLoopLemmas
mod JoinCallLemmas
mod KeptBlockLemmas
mod LongestPaths
mod LoopEndLemmas
pub mod ParameterLemmas
mod PartCallLemmas
mod PartsLoopLemmas
mod PathLengthLemmas
mod ReadBackLemmas
pub mod ReadLemmas
pub mod StatusLemmas
pub mod SuperblockLemmas
mod TrustedBlockLemmas
