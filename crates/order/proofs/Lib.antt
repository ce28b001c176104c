pub mod Searches
mod Ranks
mod KeyLaws
