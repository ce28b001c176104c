pub mod Records
pub mod Changes
