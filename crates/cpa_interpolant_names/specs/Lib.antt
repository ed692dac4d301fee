pub mod Meetings
pub mod lemmas
pub mod Laws
