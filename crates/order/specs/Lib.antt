pub mod Keys
pub mod Orders
pub mod KeyLaws
