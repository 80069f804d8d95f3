-- A bound condition has no more conjuncts than are counted in its tree.
use Rattle.std.proofs.Common.{◌≤◌, ◌<◌, lit≤, length, arith}
use Rattle.std.proofs.lemmas.List.{length-append}
use Rattle.definitions.specs.Limits.{most_conjuncts}
use Rattle.definitions.specs.Table.{Database}
use Rattle.definitions.specs.Statement as t
use Rattle.definitions.specs.Statement.{Expr, LineOperands}
use Rattle.definitions.specs.Binding.Scopes.{Scopes}
use Rattle.definitions.specs.Binding.BoundForm.{Next, after, bound_condition, bound_parts, bound_option}
use Rattle.definitions.specs.Binding.Faults.{conjunct_count, operands_count}
use Rattle.definitions.specs.Binding.Parts.{condition_values}
use Rattle.definitions.specs.Queries.Conjuncts.{conjuncts_of, conjuncts_of_parts, conjuncts_of_option}
use Rattle.std.specs.List.{AllByRecursion}

module _ (db : Database) (scopes : Scopes) where
  mutual
    of_expr : (e : Expr) (next : Next) → length (conjuncts_of (bound_condition db scopes next e)) ≤ conjunct_count e
    of_expr (t.Line first t.NoOperand) next = lit≤ tt
    of_expr (t.Line first (t.Operand t.And e others)) next =
        let x = of_expr first next in
        let y = of_operands (t.Operand t.And e others) (after db scopes first next) in
        omega (arith, x, y, length-append (conjuncts_of (bound_condition db scopes next first)) (conjuncts_of_parts (bound_parts db scopes (after db scopes first next) (t.Operand t.And e others))))
    of_expr (t.Line first (t.Operand t.Or e others)) next = lit≤ tt
    of_expr (t.Line first (t.Operand t.Plus e others)) next = lit≤ tt
    of_expr (t.Line first (t.Operand t.Minus e others)) next = lit≤ tt
    of_expr (t.Line first (t.Operand t.Times e others)) next = lit≤ tt
    of_expr (t.Line first (t.Operand t.Divided e others)) next = lit≤ tt
    of_expr (t.Not e) next = lit≤ tt
    of_expr (t.Compare op left right) next = lit≤ tt
    of_expr (t.CompareAll op quantifier e query) next = lit≤ tt
    of_expr (t.IsNull negated e) next = lit≤ tt
    of_expr (t.Between negated e low high) next = lit≤ tt
    of_expr (t.Like negated e pattern) next = lit≤ tt
    of_expr (t.InList negated e members) next = lit≤ tt
    of_expr (t.InQuery negated e query) next = lit≤ tt
    of_expr (t.Exists query) next = lit≤ tt
    of_expr (t.Scalar query) next = lit≤ tt
    of_expr (t.Function function distinct argument) next = lit≤ tt
    of_expr t.CountRows next = lit≤ tt
    of_expr (t.Column reference) next = lit≤ tt
    of_expr (t.Numeral units digits scale) next = lit≤ tt
    of_expr (t.String codes) next = lit≤ tt
    of_expr (t.Signed minus e) next = lit≤ tt

    of_operands : (others : LineOperands) (next : Next) → length (conjuncts_of_parts (bound_parts db scopes next others)) ≤ operands_count others
    of_operands t.NoOperand next = lit≤ tt
    of_operands (t.Operand operator e others) next =
        let x = of_expr e next in
        let y = of_operands others (after db scopes e next) in
        omega (arith, x, y, length-append (conjuncts_of (bound_condition db scopes next e)) (conjuncts_of_parts (bound_parts db scopes (after db scopes e next) others)))

  pub few_conjuncts : (c : t.SearchClause) (next : Next) → AllByRecursion (λ e. most_conjuncts < conjunct_count e → ⊥) (condition_values c)
      → length (conjuncts_of_option (bound_option db scopes next c)) ≤ most_conjuncts
  few_conjuncts t.Absent next h = lit≤ tt
  few_conjuncts (t.Present e) next h = let x = of_expr e next in let own = h.0 in omega (arith, x, own)
