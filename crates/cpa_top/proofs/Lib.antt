pub mod Answering
pub mod Findings
pub mod Headline
pub mod Measurements
