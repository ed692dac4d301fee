pub mod Postfix
pub mod Rows
