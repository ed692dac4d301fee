pub mod Forms
pub mod lemmas
