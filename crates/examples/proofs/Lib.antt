pub mod Ticks
pub mod Peaks
