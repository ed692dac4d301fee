-- Lemmas on the definitions, which the laws of Laws.antt and lemmas of other crates cite. No
-- definition that a contract cites stands here.
pub mod Meetings
pub mod Deciding
pub mod Ends
pub mod Overflows
pub mod Shapes
pub mod OwnTests
pub mod TrapValues
pub mod OverValues
pub mod Typing
pub mod Writes
pub mod Standing
