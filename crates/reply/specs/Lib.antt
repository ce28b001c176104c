pub mod Replies
pub mod Written
pub mod Writers
