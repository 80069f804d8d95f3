pub mod Comparing
mod Calculating
pub mod Likeness
mod LikePatterns
pub mod NumberKeys
mod Operators
mod Quotes
