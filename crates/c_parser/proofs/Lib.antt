pub mod Steadies
pub mod Arms
pub mod Ahead
pub mod Behind
pub mod Whole
pub mod SeenItems
