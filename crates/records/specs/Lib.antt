pub mod Recording
