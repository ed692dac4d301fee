pub mod Gates
pub mod Plans
pub mod Nets
pub mod Clauses
pub mod Meanings
pub mod Tables
pub mod lemmas
pub mod Laws
