pub mod Nodes
pub mod Books
