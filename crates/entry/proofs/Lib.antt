mod Bytes
mod Forms
pub mod Laws
mod Decoding
mod Widths
