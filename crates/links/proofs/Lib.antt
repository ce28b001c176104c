pub mod Paths
pub mod Sums
pub mod Tables
pub mod Pools
pub mod Cleared
