pub mod Feeding
pub mod FileTrees
pub mod Parts
pub mod PartsBuiltAgain
pub mod Steps
