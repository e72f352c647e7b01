pub mod Words
pub mod Options
pub mod Openers
pub mod Runs
pub mod Texts
pub mod Faults
pub mod Program
pub mod OutputFiles
