-- The values of a column in some rows, and of these the first ones of pages.
use Rattle.std.proofs.Common.{◌≡◌, ◌∙◌, sym, ap, ℕ, zero, suc, ◌+◌, ◌*◌, ◌/◌, ◌%◌, ◌<◌, ◌≤◌, List, [], ◌∷◌, ◌++◌, length, map, get_or, inl, inr, arith}
use Rattle.std.specs.Prelude.{min, ◌⊎◌}
use Rattle.std.proofs.lemmas.Nat.{div-add-mod'}
use Rattle.std.proofs.lemmas.Bool.{cases_lt}
use Rattle.std.proofs.Math.Nat.{mul-le-mul_right}
use Rattle.std.specs.List.{AllByRecursion, range_with_len}
use Rattle.std.specs.Int.{div_ceil}
use Rattle.std.proofs.lemmas.List.{get_or-map, length-map, get_or_default}
use Rattle.std.proofs.lemmas.List.FromFn.{get_or-map-range_with_len, length-map-range_with_len, map-range_with_len_more, fill_by_all}
use Rattle.definitions.specs.Value.{Value, Null, SqlType}
use Rattle.columns.specs.Cells.{CellList}
use Rattle.columns.specs.Starts.{value_in, IsHeld}
use Rattle.indexes.specs.Keys.{gathered}

abbrev pub every_value : CellList → List ℕ → ℕ → ℕ → Value
every_value column rows step place = value_in column (get_or rows (place * step) 0)

abbrev pub taken : CellList → List ℕ → ℕ → ℕ → CellList
taken column rows step count = record column { values = map (every_value column rows step) (range_with_len 0 count) }

pub nothing_taken : (c column : CellList) (rows : List ℕ) (step : ℕ) → c ≡ record { type = column.type; values = [] } → c ≡ taken column rows step 0
nothing_taken c column rows step e = e

pub one_taken : (c c' column : CellList) (rows : List ℕ) (step count row : ℕ) → c ≡ taken column rows step count → row ≡ get_or rows (count * step) row → count * step < length rows
    → c' ≡ record c { values = c.values ++ value_in column row ∷ [] } → c' ≡ taken column rows step (count + 1)
one_taken c c' column rows step count row e i h f =
    let own : row ≡ get_or rows (count * step) 0 = i ∙ get_or_default rows (count * step) row 0 h in
    rw (f, e) (ap (λ vs. record column { values = vs }) (ap (λ v. map (every_value column rows step) (range_with_len 0 count) ++ v ∷ []) (ap (value_in column) own) ∙ sym (map-range_with_len_more (every_value column rows step) 0 count count (omega arith))))

pub held_more : (type : SqlType) (values : List Value) (v : Value) → AllByRecursion (IsHeld type) values → IsHeld type v → AllByRecursion (IsHeld type) (values ++ v ∷ [])
held_more type [] v all h = (h, tt)
held_more type (x ∷ xs) v (first, rest) h = (first, held_more type xs v rest h)

pub held_at : (c : CellList) (row : ℕ) → AllByRecursion (IsHeld c.type) c.values → IsHeld c.type (value_in c row)
held_at c row all = at c.values row all
  where
    at : (values : List Value) (row : ℕ) → AllByRecursion (IsHeld c.type) values → IsHeld c.type (get_or values row Null)
    at [] row all = tt
    at (v ∷ vs) zero (first, rest) = first
    at (v ∷ vs) (suc row) (first, rest) = at vs row rest

pub all_taken : (c column : CellList) (rows : List ℕ) → c ≡ taken column rows 1 (div_ceil (length rows) 1) → c ≡ gathered rows column
all_taken c column rows e =
    let n : div_ceil (length rows) 1 ≡ length rows = omega arith in
    e ∙ ap (λ k. taken column rows 1 k) n ∙ ap (λ vs. record column { values = vs }) (sym (fill_by_all (every_value column rows 1) (map (value_in column) rows) (length rows) Null (length-map rows (value_in column)) each))
  where
    each : (k : ℕ) → k < length rows → get_or (map (value_in column) rows) k Null ≡ every_value column rows 1 k
    each k h = let e : k * 1 ≡ k = omega arith in get_or-map (value_in column) rows k 0 Null h ∙ ap (λ j. value_in column (get_or rows j 0)) (sym e)

module _ (column values heads : CellList) (rows : List ℕ) (e : values ≡ gathered rows column) (h : heads ≡ taken column rows 256 (div_ceil (length rows) 256)) where
  pub counted : length values.values ≡ length rows
  counted = ap (λ (c : CellList). length c.values) e ∙ length-map rows (value_in column)

  pub pages_counted : length heads.values ≡ div_ceil (length values.values) 256
  pages_counted = ap (λ (c : CellList). length c.values) h ∙ length-map-range_with_len (every_value column rows 256) 0 _ ∙ ap (λ k. div_ceil k 256) (sym counted)

  pub heads_read : (page : ℕ) → page * 256 < length values.values → value_in heads page ≡ value_in values (page * 256)
  heads_read page l =
      let k : page * 256 < length rows = omega (arith, l, counted) in
      ap (λ (c : CellList). value_in c page) h ∙ get_or-map-range_with_len (every_value column rows 256) 0 _ page page Null (omega (arith, k)) (omega arith)
      ∙ sym (ap (λ (c : CellList). value_in c (page * 256)) e ∙ get_or-map (value_in column) rows (page * 256) 0 Null k)

-- places of pages are places of rows
pub in_rows : (place step n : ℕ) → 0 < step → place < n / step + min 1 (n % step) → place * step < n
in_rows place step n h l =
    let e = div-add-mod' n step in
    of (cases_lt place (n / step))
  where
    of : (place < n / step) ⊎ (n / step ≤ place) → place * step < n
    of (inl k) = let m : (place + 1) * step ≤ n / step * step = mul-le-mul_right step (omega (arith, k)) in let e = div-add-mod' n step in let s : (place + 1) * step ≡ place * step + step = omega arith in omega (arith, h, m, e, s)
    of (inr k) = let i : place ≡ n / step = omega (arith, k, l) in let e = div-add-mod' n step in rw i (omega (arith, e, l, k))
