pub mod ReadBackWide
