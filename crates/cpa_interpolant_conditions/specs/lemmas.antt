-- Lemmas on the definitions, which the laws' proofs cite. No definition that a contract cites
-- stands here.
pub mod Chains
pub mod Lists
pub mod Bits
pub mod Asking
