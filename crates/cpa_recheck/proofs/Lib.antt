mod Asked
mod Stacked
mod Broken
mod Shown
