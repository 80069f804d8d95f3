-- What tests of rows are of, variant by variant.
use Rattle.std.proofs.Common.{◌≡◌, ◌∙◌, sym, ap, subst, ℕ, zero, suc, ◌<◌, List, [], ◌∷◌, ◌++◌, Global, Vec, length, map, get_or, arith}
use Rattle.std.specs.List.{AllByRecursion}
use Rattle.definitions.proofs.Repeats.{all_append}
use Rattle.definitions.specs.Queries.BoundBlock as b
use Rattle.query_tree.specs.Bound.{condition_of, conditions}
use Rattle.filters.specs.Comparisons.{AreComparisonsOf}
use Rattle.filters.specs.Compiled.{condition_layer, condition_of_filter, condition_of_test, joined, parts_layer, parts_of_test, IsCompiled, IsPart, IsScanOf, IsTest}
use Rattle.filters.specs.declared.comparison.Comparisons.{Comparisons}
use Rattle.filters.specs.declared.compiled_filter.CompiledFilter.{CompiledFilter}
use Rattle.filters.specs.declared.compiled_part.CompiledPart.{CompiledPart}
use Rattle.filters.specs.declared.compiled_part.Scan.TheVariants as s
use Rattle.filters.specs.declared.row_test.RowTest.{RowTest}
use Rattle.filters.specs.declared.row_test.RowTest as c
use Rattle.filters.specs.declared.row_test.RowTest.TheViews as cv
use Rattle.filters.specs.declared.row_test.RowTest.TheVariants as cw
use Rattle.filters.specs.declared.row_test.RowTest.TheOpen as co
use Rattle.filters.specs.declared.row_test.RowTest.TheFolds as cfolds
use Rattle.filters.specs.JoinFilters.{IsEarly, IsEarlyPart}
use Rattle.filters.specs.Sources.{BlockSource}
use Rattle.filters.proofs.Parts.{as_part}

pub of_part : (p : _) → condition_of_test (c.Part p) ≡ condition_of p.condition.now
of_part p = ap condition_of_test (sym (cw.rolls-Part p)) ∙ cfolds.fold-roll-RowTest b.Condition condition_layer (co.Part p)

pub of_all : (xs : _) → condition_of_test (cv.All xs) ≡ b.And (conditions (map condition_of_test xs.items))
of_all xs = ap condition_of_test (sym (cw.rolls-All xs)) ∙ cfolds.fold-roll-RowTest b.Condition condition_layer (co.All xs)

pub of_any : (xs : _) → condition_of_test (cv.Any xs) ≡ b.Or (conditions (map condition_of_test xs.items))
of_any xs = ap condition_of_test (sym (cw.rolls-Any xs)) ∙ cfolds.fold-roll-RowTest b.Condition condition_layer (co.Any xs)

pub parts_of_part : (p : _) → parts_of_test (c.Part p) ≡ p ∷ []
parts_of_part p = ap parts_of_test (sym (cw.rolls-Part p)) ∙ cfolds.fold-roll-RowTest (List CompiledPart) parts_layer (co.Part p)

pub parts_of_all : (xs : _) → parts_of_test (cv.All xs) ≡ joined (map parts_of_test xs.items)
parts_of_all xs = ap parts_of_test (sym (cw.rolls-All xs)) ∙ cfolds.fold-roll-RowTest (List CompiledPart) parts_layer (co.All xs)

pub parts_of_any : (xs : _) → parts_of_test (cv.Any xs) ≡ joined (map parts_of_test xs.items)
parts_of_any xs = ap parts_of_test (sym (cw.rolls-Any xs)) ∙ cfolds.fold-roll-RowTest (List CompiledPart) parts_layer (co.Any xs)

-- ---- what holds of all parts

module _ (table : ℕ) where
  abbrev IsHeld : List CompiledPart → Type 0
  IsHeld = AllByRecursion (IsPart table)

  split : (xs ys : List CompiledPart) → IsHeld (xs ++ ys) → IsHeld xs × IsHeld ys
  split [] ys all = (tt, all)
  split (x ∷ xs) ys all = let rest = split xs ys all.1 in ((all.0, rest.0), rest.1)

  -- a test at its place is one where its parts are
  pub test_at : (xs : List RowTest) (i : ℕ) (x : RowTest) → IsHeld (joined (map parts_of_test xs)) → i < length xs → x ≡ get_or xs i x → IsTest table x
  test_at [] i x all h e = absurd (omega (arith, h))
  test_at (y ∷ ys) zero x all h e = subst (IsTest table) (sym e) (split (parts_of_test y) (joined (map parts_of_test ys)) all).0
  test_at (y ∷ ys) (suc i) x all h e = test_at ys i x (split (parts_of_test y) (joined (map parts_of_test ys)) all).1 (omega (arith, h)) e

  pub all_parts : (xs : List RowTest) → AllByRecursion (IsTest table) xs → IsHeld (joined (map parts_of_test xs))
  all_parts [] all = tt
  all_parts (x ∷ xs) all = all_append (IsPart table) (parts_of_test x) (joined (map parts_of_test xs)) all.0 (all_parts xs all.1)

  -- the part that a test is
  pub part_held : (test : RowTest) (p : CompiledPart) → test ≡ c.Part p → IsTest table test → IsPart table p
  part_held test p e is = let own : IsHeld (p ∷ []) = subst IsHeld (ap parts_of_test e ∙ parts_of_part p) is in own.0

  pub all_tested : (xs : Vec RowTest Global) → AllByRecursion (IsTest table) xs.items → IsTest table (cv.All xs)
  all_tested xs all = subst IsHeld (sym (parts_of_all xs)) (all_parts xs.items all)

  pub any_tested : (xs : Vec RowTest Global) → AllByRecursion (IsTest table) xs.items → IsTest table (cv.Any xs)
  any_tested xs all = subst IsHeld (sym (parts_of_any xs)) (all_parts xs.items all)

  pub in_all : (test : RowTest) (xs : _) (ys : List RowTest) (i : ℕ) (x : RowTest) → test ≡ cv.All xs → ys ≡ xs.items → IsTest table test → i < length ys → x ≡ get_or ys i x → IsTest table x
  in_all test xs ys i x same items is h e = test_at ys i x (subst IsHeld (ap parts_of_test same ∙ parts_of_all xs ∙ ap (λ zs. joined (map parts_of_test zs)) (sym items)) is) h e

  pub in_any : (test : RowTest) (xs : _) (ys : List RowTest) (i : ℕ) (x : RowTest) → test ≡ cv.Any xs → ys ≡ xs.items → IsTest table test → i < length ys → x ≡ get_or ys i x → IsTest table x
  in_any test xs ys i x same items is h e = test_at ys i x (subst IsHeld (ap parts_of_test same ∙ parts_of_any xs ∙ ap (λ zs. joined (map parts_of_test zs)) (sym items)) is) h e

  -- ---- the test of a conjunct

  pub test_early : (source : BlockSource) (f : CompiledFilter) → IsCompiled table f → IsEarly source (condition_of_filter f) → IsEarlyPart source (condition_of_test f.test)
  test_early source f is early = subst (IsEarlyPart source) (sym is.same) (as_part source (condition_of_filter f) early)

  pub part_compares : (f : CompiledFilter) (p : CompiledPart) (comparisons : Comparisons) → f.test ≡ c.Part p → p.scan ≡ s.Compared comparisons → IsCompiled table f → AreComparisonsOf table (condition_of_filter f) comparisons
  part_compares f p comparisons e scan is =
      let same : condition_of p.condition.now ≡ condition_of_filter f = sym (ap condition_of_test e ∙ of_part p) ∙ is.same in
      let own : IsScanOf table (condition_of p.condition.now) (s.Compared comparisons) = subst (IsScanOf table (condition_of p.condition.now)) scan (part_held f.test p e is.tested) in
      subst (λ condition. AreComparisonsOf table condition comparisons) same own
