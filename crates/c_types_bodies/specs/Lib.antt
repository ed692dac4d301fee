pub mod States
pub mod Grown
pub mod Views
pub mod Bodies
