mod Tokens
mod Quotes
pub mod Stopping
pub mod Outcomes
pub mod Places
pub mod Lists
pub mod Opening
