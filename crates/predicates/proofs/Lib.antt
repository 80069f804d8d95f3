pub mod Few
pub mod FormedBlocks
pub mod Naming
pub mod Saying
