pub use Rattle.wire.specs.Texts
pub mod Reading
pub mod Laws
pub mod Steps
