mod Readers
mod Steadies
mod Arms
mod Productions
mod Climbing
mod Tight
