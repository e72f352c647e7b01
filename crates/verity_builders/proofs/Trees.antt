pub mod MemoryLengths
pub mod TreeMemory
