-- What is printed: reports and messages.
pub mod Messages
pub mod Reports
pub mod TextChanges
pub mod ReportSteps
