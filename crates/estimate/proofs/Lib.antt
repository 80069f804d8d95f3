mod EitherOf
mod Drawing
mod OwnIndex
mod Known
pub mod Places
pub mod Saying
mod Left
pub mod Members
mod Sizes
