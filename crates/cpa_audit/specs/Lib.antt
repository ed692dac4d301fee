pub mod LeastBad
pub mod Cuts
