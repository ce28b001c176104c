pub mod Overs
pub mod Letters
mod Writers
