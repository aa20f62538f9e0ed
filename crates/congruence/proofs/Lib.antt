pub mod Euclid
pub mod Links
pub mod Meetings
pub mod Multiples
pub mod Merges
pub mod Passes
pub mod Firsts
pub mod Verdicts
