mod Turns
mod Sums
mod Additions
