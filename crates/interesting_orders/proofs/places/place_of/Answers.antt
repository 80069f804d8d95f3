use Rattle.std.proofs.Common.{◌≡◌, ◌∙◌, sym, ℕ, ◌+◌, ◌<◌, ◌≤◌, ◌⊎◌, inl, inr, subst, map, arith}
use Rattle.std.proofs.lemmas.Bool.{cases_lt}
use Rattle.std.proofs.lemmas.List.{get_or-map}
use Rattle.query_tree.specs.Bound.{column_of}
use Rattle.interesting_orders.specs.Labels.{column_at, no_column}
use Rattle.interesting_orders.proofs.places.place_of.Goals as goal

pub columns-preserved : goal.columns-preserved
columns-preserved c = λ i h same. by_place i h same (cases_lt i c.columns.place)
  where
    by_place : (i : ℕ) → i < c.columns.place + 1 → column_at (map column_of c.args.columns.now) i ≡ column_of c.args.column → (i < c.columns.place) ⊎ (c.columns.place ≤ i) → ⊥
    by_place i h same (inl lt) = c.columns.invariant i lt same
    by_place i h same (inr ge) =
        let here : i ≡ c.columns.place = omega (arith, h, ge) in
        let there = subst (λ k. column_at (map column_of c.args.columns.now) k ≡ column_of c.args.column) here same in
        let yes = c.are_equal.ensures.1 (sym (get_or-map column_of c.args.columns.now c.columns.place _ no_column c.columns-test.true) ∙ there) in
        absurd cc
