mod FilledBuffers
pub mod KnownLemmas
mod Padded
