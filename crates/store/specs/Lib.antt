pub mod Limits
pub mod Lists
pub mod Answers
pub mod Rows
pub mod Walks
