pub mod Causes
mod Chains
pub mod Named
pub mod Numerals
pub mod Prefixes
mod WordLists
