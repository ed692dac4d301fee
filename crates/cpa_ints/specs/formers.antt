-- How lists and boxes of this crate are built from parts, for recursion over trees that hold them.
pub mod boxed
pub mod seq
