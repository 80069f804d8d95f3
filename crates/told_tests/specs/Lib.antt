pub mod LateTests
pub mod RunScans
pub mod ToldTests
pub mod UnitSets
