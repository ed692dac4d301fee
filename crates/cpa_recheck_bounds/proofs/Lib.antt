pub mod Followed
pub mod Said
pub mod Settled
pub mod Exactly
pub mod Stood
pub mod Tables
