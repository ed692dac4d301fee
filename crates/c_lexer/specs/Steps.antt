-- Steps of the code: what its private functions compute, one by one. Nothing here is promised to
-- a caller, whose words are in the other files of this folder.
pub mod Pieces
pub mod ReadingConstants
pub mod Reading
