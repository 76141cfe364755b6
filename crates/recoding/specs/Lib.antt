pub mod Recode
