-- The settings that a command line's options give.
pub mod Settings
