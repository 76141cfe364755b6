pub mod RecodeWide
