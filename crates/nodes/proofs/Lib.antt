pub mod NodeLaws
pub mod BookLaws
