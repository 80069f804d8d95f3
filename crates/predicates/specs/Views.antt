-- What the terms of this crate stand for.
use Rattle.std.specs.Prelude.{List, ◌++◌, option_map}
use Rattle.definitions.specs.Estimates.Paths.{ColumnTerm}
use Rattle.query_tree.specs.Bound.{column_of}
use Rattle.predicates.specs.Columns.{term_of}
use Rattle.predicates.specs.Membership as m
use Rattle.predicates.specs.Terms as spec
use Rattle.predicates.specs.Terms.{listed}
use Rattle.predicates.specs.declared.column_term.SidedTerm.{SidedTerm}
use Rattle.predicates.specs.declared.column_term.ColumnTerms.{ColumnTerms}
use Rattle.predicates.specs.declared.membership.Membership.{Membership}

abbrev pub term_in : SidedTerm → ColumnTerm
term_in x = term_of x.term

abbrev pub sided_term_of : SidedTerm → spec.SidedTerm
sided_term_of x = record { column = column_of x.column; scale = x.scale; term = term_in x }

abbrev pub terms_in : ColumnTerms → List spec.SidedTerm
terms_in x = listed (option_map sided_term_of x.left) ++ listed (option_map sided_term_of x.right)

abbrev pub membership_of : Membership → m.Membership
membership_of x = record { column = column_of x.column; scale = x.scale; negated = x.negated; block = x.block }
