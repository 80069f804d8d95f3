-- The limits of a block, and its asterisk.
use Rattle.std.specs.Prelude.{◌<◌, ◌≤◌, ◌≡◌, ◌≢◌, Bool, true, length}
use Rattle.definitions.specs.Lists.{AnyOf}
use Rattle.definitions.specs.Limits.{most_conjuncts, most_items, most_group_columns}
use Rattle.definitions.specs.Statement as t
use Rattle.definitions.specs.Statement.{Asterisk}
use Rattle.definitions.specs.Binding.Parts.{condition_values}
use Rattle.definitions.specs.Binding.Faults.{conjunct_count, item_count, list_of, where_of, group_by_of}

pub record IsWithinLimits (grouped : Bool) (query : t.QuerySpecification) : Type 0 where
  pub items : item_count (list_of query) ≤ most_items
  pub groups : length (group_by_of query) ≤ most_group_columns
  pub conjuncts : AnyOf (λ e. most_conjuncts < conjunct_count e) (condition_values (where_of query)) → ⊥
  pub no_star : grouped ≡ true → list_of query ≢ Asterisk
