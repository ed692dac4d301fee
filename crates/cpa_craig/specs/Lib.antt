pub mod Craigs
pub mod Refining
pub mod Walks
pub mod lemmas
