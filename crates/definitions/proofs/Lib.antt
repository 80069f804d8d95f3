pub mod Lexing
pub mod Alike
pub mod Grammar
pub mod Moving
mod Levels
pub mod Readings
pub mod ReadTokens
mod ReadLists
mod Keeping
pub mod Loading
pub mod Ranking
pub mod KeyRanks
mod IndexRuns
mod IndexParts
mod KeyCounts
pub mod StatisticBounds
pub mod Repeats
pub mod Counting
pub mod Changes
pub mod FileLoads
pub mod RecordsExist
mod Quoting
pub mod TextExamples
mod TableExamples
pub mod PlanTheory
pub mod QueryTheory
pub mod BindingTheory
pub mod EstimateTheory
pub mod CertificateTheory
pub mod WrittenParts
pub mod WrittenTexts
