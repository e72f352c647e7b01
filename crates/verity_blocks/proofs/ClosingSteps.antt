pub mod Climbing
pub mod Advancing
pub mod Asking
