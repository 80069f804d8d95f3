pub mod Decisions
pub mod Texts
pub mod Reading
pub mod Faults
pub mod Writing
pub mod Files
pub mod Verdicts
pub mod Passing
mod Few
mod PathsThere
pub mod PlansSpelled
pub mod Examples
