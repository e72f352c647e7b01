-- What is printed: lines and messages; and the writers that they go to.
pub mod Lines
pub mod Messages
pub mod TextChanges
