-- Lemmas on the definitions, which the laws of src/laws.rt and lemmas of other crates cite. No
-- definition that a contract cites stands here.
pub mod Ascending
pub mod Counted
pub mod Lists
pub mod Parts
pub mod Stacks
pub mod Tiling
pub mod Trees
pub mod EdgesSound
pub mod StandingLaws
