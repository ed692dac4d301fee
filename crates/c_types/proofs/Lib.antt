pub mod Law
pub mod Steps
pub mod Entries
pub mod Listed
pub mod Checked
pub mod Next
pub mod Numbers
