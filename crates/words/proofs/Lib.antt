pub mod Carry
mod Halves
mod Down
