pub mod Sets
pub mod Numbers
pub mod Sizes
pub mod Stops
