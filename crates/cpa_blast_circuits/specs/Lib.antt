pub mod Answers
pub mod Reads
pub mod Circuits
pub mod Meanings
pub mod lemmas
pub mod Laws
