-- The index of a table on a column alone, found by going through its indexes; and the bounds of its range.
use Rattle.std.proofs.Common.{◌≡◌, ◌∙◌, refl, sym, ap, ℕ, zero, suc, ◌+◌, ◌^◌, ◌<◌, ◌≤◌, Bool, true, false, cond, List, [], ◌∷◌, Option, Some, None, length, drop, arith, lit<}
use Rattle.std.specs.Prelude.{ℤ, pos, negsuc, nat_abs, slice_get, option_map, find, IfSome}
use Rattle.std.specs.List.{AllByRecursion}
use Rattle.std.proofs.lemmas.Int.{ints}
use Rattle.std.proofs.lemmas.List.{drop_all}
use Rattle.std.proofs.Math.Nat.{pow-le-pow_right}
use Rattle.definitions.specs.Value.{SqlType, Smallint, Integer, Numeric, Char, IsType, IsInRange}
use Rattle.definitions.specs.Table as spec
use Rattle.definitions.specs.Table.{Column, KeyRange, Index, Table, is_on, index_on}
use Rattle.definitions.specs.Invariant.{IsTable, IsIndex, IsRange, type_at}
use Rattle.indexes.specs.Meaning.{index_statistics_of, key_range_of}
use Rattle.indexes.specs.declared.statistics.IndexStatistics.{IndexStatistics}
use Rattle.indexes.specs.declared.statistics.KeyRange as stored
use Rattle.estimate.specs.Ranges.{IsBounded}

-- ---- the search

from_place : (test : Index → Bool) (indexes : List Index) (i : ℕ) (x : Index) → slice_get indexes i ≡ Some x → find test (drop i indexes) ≡ cond (test x) (Some x) (find test (drop (i + 1) indexes))
from_place test [] i x e = absurd cc
from_place test (y ∷ indexes) zero x e = let same : y ≡ x = cc in rw same refl
from_place test (y ∷ indexes) (suc i) x e = let next : suc i + 1 ≡ suc (i + 1) = omega arith in rw next (from_place test indexes i x e)

pub found : (columns : List ℕ) (indexes : List Index) (i : ℕ) (x : Index) → slice_get indexes i ≡ Some x → find (is_on columns) (drop i indexes) ≡ index_on indexes columns → is_on columns x ≡ true
    → index_on indexes columns ≡ Some x
found columns indexes i x e left test = sym left ∙ from_place (is_on columns) indexes i x e ∙ ap (λ b. cond b (Some x) (find (is_on columns) (drop (i + 1) indexes))) test

pub passed : (columns : List ℕ) (indexes : List Index) (i : ℕ) (x : Index) → slice_get indexes i ≡ Some x → find (is_on columns) (drop i indexes) ≡ index_on indexes columns → is_on columns x ≡ false
    → find (is_on columns) (drop (i + 1) indexes) ≡ index_on indexes columns
passed columns indexes i x e left test = sym (sym left ∙ from_place (is_on columns) indexes i x e ∙ ap (λ b. cond b (Some x) (find (is_on columns) (drop (i + 1) indexes))) test)

pub not_found : (columns : List ℕ) (indexes : List Index) (i : ℕ) → length indexes ≤ i → find (is_on columns) (drop i indexes) ≡ index_on indexes columns → index_on indexes columns ≡ None
not_found columns indexes i h left = sym left ∙ ap (find (is_on columns)) (drop_all i indexes h)

-- ---- the range

all_at : {X : Type 0} (P : X → Type 0) (xs : List X) (i : ℕ) (x : X) → AllByRecursion P xs → slice_get xs i ≡ Some x → P x
all_at P [] i x h e = absurd cc
all_at P (y ∷ xs) zero x h e = let same : y ≡ x = cc in rw (← same) h.0
all_at P (y ∷ xs) (suc i) x h e = all_at P xs i x h.1 e

in_range : (type : SqlType) (u : ℤ) → IsType type → IsInRange type u → nat_abs u < 10 ^ 18
in_range Smallint (pos m) t h = let a = h.1 in omega (arith, ints, a)
in_range Smallint (negsuc m) t h = let a = h.0 in omega (arith, ints, a)
in_range Integer (pos m) t h = let a = h.1 in omega (arith, ints, a)
in_range Integer (negsuc m) t h = let a = h.0 in omega (arith, ints, a)
in_range (Numeric p s) u t h = let most : 10 ^ p ≤ 10 ^ 18 = pow-le-pow_right {n = 10} (lit< tt) t.1 in omega (arith, h, most)
in_range (Char n) u t h = absurd h

types_at : (columns : List Column) (numbers : List ℕ) (type : SqlType) → AllByRecursion (λ (c : Column). IsType c.type) columns → type_at columns numbers ≡ Some type → IsType type
types_at columns [] type h e = absurd cc
types_at columns (number ∷ numbers) type h e = of_column (slice_get columns number) refl e
  where
    of_column : (c : Option Column) → slice_get columns number ≡ c → option_map (λ (c : Column). c.type) c ≡ Some type → IsType type
    of_column None d e = absurd cc
    of_column (Some c) d e = let same : c.type ≡ type = cc in rw (← same) (all_at (λ (c : Column). IsType c.type) columns number c h d)

range_bounded : (type : Option SqlType) (o : Option KeyRange) (range : KeyRange) → ((t : SqlType) → type ≡ Some t → IsType t) → IsRange type o → o ≡ Some range → IsBounded range
range_bounded type None range t h e = absurd cc
range_bounded None (Some r) range t h e = absurd h
range_bounded (Some type) (Some r) range t h e =
    let same : r ≡ range = cc in
    rw (← same) (in_range type r.low (t type refl) h.1, in_range type r.high (t type refl) h.2)

pub index_bounded : (t : Table) (i : ℕ) (x : Index) (range : KeyRange) → IsTable t → slice_get t.indexes i ≡ Some x → x.statistics.range ≡ Some range → IsBounded range
index_bounded t i x range valid e r =
    let index : IsIndex t x = all_at (IsIndex t) t.indexes i x valid.each_index e in
    range_bounded (type_at t.columns x.columns) x.statistics.range range (λ type s. types_at t.columns x.columns type valid.types s) index.range r

pub statistics_bounded : (t : Table) (i : ℕ) (x : Index) (statistics : IndexStatistics) → IsTable t → slice_get t.indexes i ≡ Some x → index_statistics_of statistics ≡ x.statistics
    → IfSome statistics.range (λ range. IsBounded (key_range_of range))
statistics_bounded t i x statistics valid e f = of_range statistics.range (ap (λ (g : spec.IndexStatistics). g.range) f)
  where
    of_range : (o : Option stored.KeyRange) → option_map key_range_of o ≡ x.statistics.range → IfSome o (λ range. IsBounded (key_range_of range))
    of_range None h = tt
    of_range (Some range) h = index_bounded t i x (key_range_of range) valid e (sym h)
