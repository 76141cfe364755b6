pub mod Form
pub mod Internal
