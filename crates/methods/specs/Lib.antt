-- docs/RULES.md, "Methods": the steps that each method gives for a number e above zero. A method has a file here.
pub mod Widths
pub mod PartialPlan
pub mod Tables
pub mod OddMultiples
pub mod DigitSteps
pub mod Binary
pub mod FixedWindows
pub mod SlidingWindows
pub mod NonAdjacentForm
pub mod WideNaf
pub mod ModifiedNaf
pub mod Method
pub mod Forecast
pub mod Largest
