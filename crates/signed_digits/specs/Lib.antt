-- Signed digit strings, over the width of the non-adjacent form. Definitions only: the theorems are in proofs/.
pub mod Strings
pub mod Form
pub mod Naf
pub mod Weight
pub mod Modified
pub mod Bytes
