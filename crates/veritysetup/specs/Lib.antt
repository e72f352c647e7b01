pub mod Words
pub mod Options
pub mod Faults
pub mod Runs
pub mod Texts
pub mod Program
