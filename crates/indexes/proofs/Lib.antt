mod KeyOrder
mod PagedValues
mod Levels
mod Ranges
mod Entries
mod Parts
mod Gathered
mod KeyStretches
mod IndexCounting
mod SortedRows
mod FirstRepeated
mod MergedRows
mod Weaving
mod Carried
mod Rows
pub mod KeyCells
pub mod Placing
pub mod DistinctKeys
pub mod Runs
pub mod Clustered
pub mod Counted
pub mod FirstRepeats
