pub mod Sizes
pub mod Alike
pub mod Layouts
pub mod Laws
pub mod lemmas
