pub mod DescriptorLemmas
mod FieldLemmas
pub mod NameLemmas
mod PadLemmas
pub mod ReadLemmas
pub mod SuperblockLemmas
pub mod TextLemmas
