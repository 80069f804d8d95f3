pub mod Handing
pub mod Comparing
pub mod AccessRule
pub mod JoinRule
pub mod SortRule
pub mod Listed
pub mod FirstBelow
