pub mod Texts
pub mod Sound
pub mod Laws
pub mod lemmas
