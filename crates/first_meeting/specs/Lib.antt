pub mod Records
pub mod Meetings
