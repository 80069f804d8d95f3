pub mod Lines
pub mod Rows
pub mod Faults
pub mod RowAt
pub mod Batches
pub mod SeenUnits
