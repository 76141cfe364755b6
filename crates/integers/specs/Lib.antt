pub mod Positional
pub mod Bits
pub mod Signed
pub mod Tabulate
