pub mod Weights
pub mod Formulas
pub mod lemmas
pub mod Laws
