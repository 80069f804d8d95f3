pub mod Views
pub mod Columns
pub mod Searching
pub mod Sources
pub mod Blocks
pub mod ResolvedColumns
pub mod SourceFaults
pub mod Refused
mod FoundColumns
pub mod LeafParts
mod Operators
mod FunctionScan
mod Grouping
mod Groups
mod BlockLimits
mod Keys
