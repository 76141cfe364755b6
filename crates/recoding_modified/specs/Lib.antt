pub mod RecodeModified
