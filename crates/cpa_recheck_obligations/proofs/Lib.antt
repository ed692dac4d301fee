mod Passing
mod Entering
