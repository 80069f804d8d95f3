pub use Rattle.definitions.specs.Estimates.Paths
pub mod Bounds
pub mod Matches
pub mod Scans
pub mod Found
pub mod Listing
pub mod Views
