pub use Rattle.wire.specs.Texts
pub mod Grammar
pub mod Answers
pub mod Laws
pub mod Steps
