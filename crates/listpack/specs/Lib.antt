pub mod Layout
pub mod Places
pub mod Packs
pub mod Changes
pub mod Laws
