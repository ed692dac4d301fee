pub mod Benches
pub mod CustomaryWords
pub mod TakenWords
