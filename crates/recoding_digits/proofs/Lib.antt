pub mod Triple
pub mod SpreadBits
pub mod TopByte
pub mod Parts
