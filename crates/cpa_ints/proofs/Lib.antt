pub mod QuotientLaws
pub mod Promotion
