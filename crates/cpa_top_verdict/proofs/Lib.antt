mod Picks
mod Safe
mod Verdicts
