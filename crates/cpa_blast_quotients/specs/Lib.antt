pub mod Dividers
pub mod Quotients
pub mod Meanings
pub mod lemmas
pub mod Laws
