-- Lemmas on the definitions, which the laws of Laws.antt cite. No definition that a contract cites
-- stands here.
pub mod Places
pub mod Standing
pub mod Covers
pub mod Asking
pub mod Breaking
pub mod SpotLaws
