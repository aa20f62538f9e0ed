pub mod Visits
pub mod Pairs
pub mod Starts
