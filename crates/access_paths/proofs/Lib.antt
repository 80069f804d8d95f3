mod Early
mod Bounding
mod Matching
mod Chaining
mod Pushing
mod Opening
mod Costing
mod Rooms
mod Reading
pub mod Saying
