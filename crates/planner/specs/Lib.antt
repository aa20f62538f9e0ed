pub mod Choices
pub mod Settings
pub mod Berths
pub mod Plans
pub mod Searches
