pub mod NumberLists
pub mod TextLists
pub mod WordFlags
pub mod NullFlags
pub mod LaneFlags
pub mod RestOfWords
pub mod Orders
pub mod TextOrders
pub mod Rows
pub mod Scans
pub mod Extended
mod Lookups
