pub mod Places
pub mod Meetings
pub mod Peaks
