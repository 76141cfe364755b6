pub mod CleanWide
