pub mod Sorts
pub mod PackedRows
pub mod SortedLists
pub mod KeyedRows
pub mod Singles
pub mod RowKeyed
pub mod PutBack
pub mod PlaceKeysWritten
pub mod Bits
pub mod KeyRanks
pub mod SortedPlaces
mod Counted
mod Spread
