-- Worked examples of running plans. No claim rests on them.
pub mod TwoTables
pub mod NestedBlocks
pub mod MatchedKeys
pub mod WrongSteps
