pub mod Checks
pub mod Lists
pub mod Draws
pub mod Meetings
pub mod Masks
pub mod Factors
