-- One combination after another.
use Rattle.std.proofs.Common.{◌≡◌, ◌∙◌, sym, ap, ap₂, subst, List, [], ◌∷◌, ◌++◌, Bool, true, false, cond, map, Result, Ok, Err, arith}
use Rattle.std.specs.Prelude.{filter, flat_map, Contains, IsPermutation, get_or}
use Rattle.std.proofs.lemmas.Grind.{flat_map-append}
use Rattle.std.proofs.lemmas.List.{append-nil, map-append}
use Rattle.std.proofs.lemmas.List.Elements.{filter-append, Contains-append_left, Contains-append_right}
use Rattle.std.proofs.lemmas.List.Sorted.{IsPermutation-map}
use Rattle.definitions.specs.Value.{Value, Null}
use Rattle.definitions.specs.Table.{Row}
use Rattle.definitions.specs.Arithmetic.{Raise, Meaning, Is, Raises}
use Rattle.definitions.specs.Queries.BoundBlock.{Block}
use Rattle.definitions.specs.Queries.Conjuncts.{late_conjuncts}
use Rattle.definitions.specs.Queries.Evaluation.{Combination, column_values}
use Rattle.definitions.specs.Queries.Combinations.{Context, at, all_hold, raises_of, raises_of_late}
use Rattle.definitions.specs.Queries.Answer.{block_answer}
use Rattle.definitions_answers.specs.Plain.{row_in, row_raises_in, late_raises, kept_of, column_raises, rows_of}
use Rattle.definitions_answers.specs.Told.{TellsRows}
use Rattle.definitions_answers.specs.Taking.{Found, Late, Column, Values, Says, Tells, RowTells, with_row, with_more, OneMoreIsTold, AllAreTold}
use Rattle.definitions_answers.proofs.Plain.{plain_told}

module _ (context : Context) (b : Block) (done : List Combination) (c : Combination) where
  abbrev more : List Combination
  more = done ++ c ∷ []

  abbrev late_at : Combination → List Raise
  late_at = raises_of_late context (late_conjuncts b)

  late_more : late_raises context b more ≡ late_raises context b done ++ (late_at c ++ [])
  late_more = flat_map-append late_at done (c ∷ [])

  quiet_more : late_raises context b done ≡ [] → late_at c ≡ [] → late_raises context b more ≡ []
  quiet_more e q = late_more ∙ ap₂ (λ rs qs. rs ++ (qs ++ [])) e q

  late_before : (r : Raise) → Contains (late_raises context b done) r → Contains (late_raises context b more) r
  late_before r h = subst (λ rs. Contains rs r) (sym late_more) (Contains-append_left (late_raises context b done) (late_at c ++ []) r h)

  late_now : (r : Raise) → Contains (late_at c) r → Contains (late_raises context b more) r
  late_now r h = subst (λ rs. Contains rs r) (sym late_more) (Contains-append_right (late_raises context b done) (late_at c ++ []) r (Contains-append_left (late_at c) [] r h))

  kept_is : (t : Bool) → all_hold context (late_conjuncts b) c ≡ t → kept_of context b more ≡ kept_of context b done ++ cond t (c ∷ []) []
  kept_is t e = filter-append (all_hold context (late_conjuncts b)) done (c ∷ []) ∙ ap (λ u. kept_of context b done ++ cond u (c ∷ []) []) e

  kept_same : all_hold context (late_conjuncts b) c ≡ false → kept_of context b more ≡ kept_of context b done
  kept_same e = kept_is false e ∙ append-nil (kept_of context b done)

  abbrev row_at : Combination → Row
  row_at d = row_in (at context d) b.items

  abbrev raises_at : Combination → List Raise
  raises_at d = row_raises_in (at context d) b.items

  rows_more : all_hold context (late_conjuncts b) c ≡ true → rows_of context b more ≡ rows_of context b done ++ row_at c ∷ []
  rows_more e = ap (map row_at) (kept_is true e) ∙ map-append row_at (kept_of context b done) (c ∷ [])

  columns_more : all_hold context (late_conjuncts b) c ≡ true → column_raises context b more ≡ column_raises context b done ++ (raises_at c ++ [])
  columns_more e = ap (flat_map raises_at) (kept_is true e) ∙ flat_map-append raises_at (kept_of context b done) (c ∷ [])

  columns_same : all_hold context (late_conjuncts b) c ≡ false → column_raises context b more ≡ column_raises context b done
  columns_same e = ap (flat_map raises_at) (kept_same e)

  columns_before : (t : Bool) → all_hold context (late_conjuncts b) c ≡ t → (r : Raise) → Contains (column_raises context b done) r → Contains (column_raises context b more) r
  columns_before true e r h = subst (λ rs. Contains rs r) (sym (columns_more e)) (Contains-append_left (column_raises context b done) (raises_at c ++ []) r h)
  columns_before false e r h = subst (λ rs. Contains rs r) (sym (columns_same e)) h

  one_row : (row : Result Value Raise) (values : List Value) → Tells context b done (Values values) → late_at c ≡ [] → all_hold context (late_conjuncts b) c ≡ true → RowTells (at context c) b.items row
      → Tells context b more (with_row row (Values values))
  one_row (Ok v) values h q e told = (
    quiet_more h.0 q,
    columns_more e ∙ ap₂ (λ rs qs. rs ++ (qs ++ [])) h.1 told.0,
    ap₂ (λ vs w. vs ++ w ∷ []) h.2 told.1 ∙ sym (ap column_values (rows_more e) ∙ map-append (λ (row : Row). get_or row 0 Null) (rows_of context b done) (row_at c ∷ [])),
  )
  one_row (Err r) values h q e told =
      (quiet_more h.0 q, subst (λ rs. Contains rs r) (sym (columns_more e)) (Contains-append_right (column_raises context b done) (raises_at c ++ []) r (Contains-append_left (raises_at c) [] r told)))

  one_more : (found : Found) (late : Result Bool Raise) (row : Result Value Raise) → Tells context b done found → Says context b c late → RowTells (at context c) b.items row → Tells context b more (with_more late row found)
  one_more (Late r) late row h says told = late_before r h
  one_more (Column r) (Err e) row h says told = late_now e says
  one_more (Values values) (Err e) row h says told = late_now e says
  one_more (Column r) (Ok true) row h says told = (quiet_more h.0 says.0, columns_before true (sym says.1) r h.1)
  one_more (Column r) (Ok false) row h says told = (quiet_more h.0 says.0, columns_before false (sym says.1) r h.1)
  one_more (Values values) (Ok true) row h says told = one_row row values h says.0 (sym says.1) told
  one_more (Values values) (Ok false) row h says told =
      (quiet_more h.0 says.0, columns_same (sym says.1) ∙ h.1, h.2 ∙ sym (ap (λ cs. column_values (map row_at cs)) (kept_same (sym says.1))))

pub one_more_is_told : OneMoreIsTold
one_more_is_told context b done c found late row h says told = one_more context b done c found late row h says told

raise_told : (m : Meaning (List Row)) (r : Raise) → Contains (raises_of m) r → TellsRows m (Err r)
raise_told (Is rows) r h = absurd (omega (arith, h.1))
raise_told (Raises q qs) r h = h

pub all_are_told : AllAreTold
all_are_told context b all (Late r) plain arranged h = raise_told (block_answer context b) r ((plain_told context b all plain arranged).late r h)
all_are_told context b all (Column r) plain arranged h = raise_told (block_answer context b) r ((plain_told context b all plain arranged).column h.0 r h.1)
all_are_told context b all (Values values) plain arranged h =
    let (bag, is, same) = (plain_told context b all plain arranged).rows h.0 h.1 in
    subst (λ m. TellsRows m (Ok values)) (sym is) (subst (IsPermutation (column_values bag)) (sym h.2) (IsPermutation-map (λ (row : Row). get_or row 0 Null) bag (rows_of context b all) same))
