pub mod Due
pub mod Kinds
pub mod Laws
pub mod Reading
