pub mod ListLaws
pub mod RowLaws
pub mod RankLaws
pub mod SpotLaws
mod Steps
