pub mod Lemmas
pub mod NoRaise
pub mod SubqueryRows
pub mod EqualValues
pub mod TypedValues
pub mod GroupClasses
pub mod SomeOutcome
pub mod WorkedQueries
