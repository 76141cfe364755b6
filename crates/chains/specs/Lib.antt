-- Addition-subtraction chains: steps, their bytes, the values at the positions, soundness, counts, the largest size, records.
pub mod Steps
pub mod Values
pub mod Sound
pub mod Counts
pub mod Largest
pub mod Records
