pub mod Longest
pub mod Heads
pub mod First
pub mod Words
pub mod Inverse
pub mod Tokens
pub mod Onward
