pub mod AcceptedLemmas
mod ChoiceLemmas
pub mod ChosenPlanLemmas
pub mod FormattedLemmas
mod InputLemmas
mod LineLemmas
mod PrintedOptionLemmas
mod ReportLemmas
mod ResumedLemmas
mod SameVerdictLemmas
pub mod SettingsLemmas
