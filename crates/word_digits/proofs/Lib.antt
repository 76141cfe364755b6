mod Lookup
mod Fours
