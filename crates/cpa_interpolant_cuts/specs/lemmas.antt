-- Lemmas on the definitions, which the law's proof cites. No definition that a contract cites
-- stands here.
pub mod Moves
pub mod Steps
pub mod Inside
pub mod Wholes
pub mod Apart
pub mod Digits
pub mod Meet
pub mod Asked
pub mod Sharing
pub mod Next
pub mod Typing
pub mod Through
