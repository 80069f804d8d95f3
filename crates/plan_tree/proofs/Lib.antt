pub mod Tests
pub mod Views
pub mod Mapped
pub mod Placing
