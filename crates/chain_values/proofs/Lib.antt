mod Limits
mod Sizes
