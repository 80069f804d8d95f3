-- What is found of a column among the terms of a condition is what the condition says of it.
use Rattle.std.proofs.Common.{◌≡◌, ◌∙◌, ap, List, Option}
use Rattle.std.specs.Prelude.{option_and_then}
use Rattle.definitions.specs.Plans.Order.{BlockColumn}
use Rattle.definitions.specs.Queries.BoundBlock.{Condition}
use Rattle.definitions.specs.Estimates.Paths.{ColumnTerm, column_term}
use Rattle.predicates.specs.Terms.{SidedTerm, first_term, terms_of}
use Rattle.predicates.proofs.Saying.{first_is_term}
use Rattle.access_paths.specs.Bounds.{bound_by, sargable_term}

module _ (column : BlockColumn) (c : Condition) (terms : List SidedTerm) (found : Option ColumnTerm) (are : terms ≡ terms_of c) (is : found ≡ first_term column terms) where
  said : found ≡ column_term column c
  said = is ∙ ap (first_term column) are ∙ first_is_term column c

  pub bound_is : option_and_then (bound_by column.table) found ≡ sargable_term column c
  bound_is = ap (option_and_then (bound_by column.table)) said
