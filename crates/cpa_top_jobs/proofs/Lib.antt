pub mod Benches
pub mod Configurations
pub mod Ends
pub mod Numbers
pub mod Places
pub mod Rechecks
pub mod Stages
pub mod Taking
