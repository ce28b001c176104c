pub mod Entry
pub mod Reading
pub mod Laws
pub mod Widths
