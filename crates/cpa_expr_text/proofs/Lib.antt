pub mod Arms
pub mod Behind
pub mod Counting
pub mod Cuts
pub mod Forms
pub mod Nodes
pub mod Tables
pub mod WideNumbers
