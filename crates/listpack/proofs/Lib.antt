mod Codec
pub mod Sizes
mod Contents
mod Spots
mod Splices
mod Exchanges
mod Answers
pub mod PackLaws
