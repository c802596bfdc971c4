mod Sums
mod Places
mod Turns
