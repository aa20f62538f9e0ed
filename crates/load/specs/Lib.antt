pub mod Ratings
pub mod Kinds
pub mod Amps
pub mod Phases
pub mod Inrush
