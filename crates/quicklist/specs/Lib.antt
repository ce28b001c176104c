pub mod Chains
pub mod LinkProps
pub mod Tables
pub mod Props
pub mod Store
pub mod Laws
pub mod Changes
