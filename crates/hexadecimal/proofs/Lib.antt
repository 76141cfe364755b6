pub mod Value
