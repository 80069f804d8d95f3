mod RowsOneByOne
mod DistinctOnce
