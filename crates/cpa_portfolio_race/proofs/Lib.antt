mod Agreeing
mod Halving
mod Sending
