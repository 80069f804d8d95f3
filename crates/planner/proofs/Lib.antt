pub mod Explained
pub mod Plans
mod Least
