-- From the texts of a line's options to settings.
pub mod OptionTexts
pub mod Choices
pub mod Settings
pub mod Uuids
pub mod PrintedOptions
