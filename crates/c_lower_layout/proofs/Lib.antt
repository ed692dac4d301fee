mod DeclaredCells
mod Measured
mod Rests
mod TakenCells
mod LaidOut
