mod Places
mod Ranks
pub mod Marks
