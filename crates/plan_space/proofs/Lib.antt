mod Sets
mod Linking
mod Linked
mod Following
pub mod Listing
pub mod Sides
mod Ways
mod PathsOnce
mod Items
mod Adding
mod Walking
mod Opening
pub mod Deciding
pub mod Lists
pub mod PathItems
pub mod Merging
mod Looping
mod Facts
mod Plans
