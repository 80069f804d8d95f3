pub mod Views
pub mod Walked
