-- Worked examples of the definitions. No claim rests on them.
pub mod Texts
pub mod Tables
pub mod Queries
pub mod Binding
pub mod Plans
pub mod Estimates
pub mod BoundJoins
pub mod Certificates
