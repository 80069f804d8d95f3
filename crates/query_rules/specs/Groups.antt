-- The columns of GROUP BY, and where they bind other columns.
use Rattle.std.specs.Prelude.{Bool, List, [], if◌then◌else◌, map}
use Rattle.definitions.specs.Lists.{AnyOf}
use Rattle.definitions.specs.Statement as t
use Rattle.definitions.specs.Table.{Database}
use Rattle.definitions.specs.Plans.Order.{BlockColumn}
use Rattle.definitions.specs.Binding.Scopes.{Scopes, resolve}
use Rattle.definitions.specs.Binding.BoundForm.{own_column}
use Rattle.definitions.specs.Binding.Faults.{IsNotOwn}
use Rattle.query_rules.specs.Judging.{ClauseKind, InShown}

abbrev pub own_columns : Scopes → List t.ColumnReference → List BlockColumn
own_columns scopes = map (λ reference. own_column (resolve scopes reference))

abbrev pub SomeNotOwn : Database → Scopes → List t.ColumnReference → Type 0
SomeNotOwn db scopes = AnyOf (λ reference. IsNotOwn db scopes (resolve scopes reference))

-- where result columns and HAVING stand: if the block is grouped, only its columns of GROUP BY may
abbrev pub shown_in : Bool → List BlockColumn → ClauseKind
shown_in grouped columns = InShown grouped (if grouped then columns else [])
