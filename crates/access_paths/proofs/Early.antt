-- How an early conjunct matches a column, and a late one doesn't.
use Rattle.std.proofs.Common.{◌≡◌, ◌∙◌, refl, sym, ap, subst, ℕ, suc, ◌+◌, ◌-◌, ◌<◌, ◌≤◌, List, [], ◌∷◌, ◌++◌, Option, Some, None, if◌then◌else◌, Bool, true, false, length, map, get_or, arith}
use Rattle.std.specs.Prelude.{not, slice_get, option_map, filter_map}
use Rattle.std.specs.List.{range_with_len}
use Rattle.std.proofs.lemmas.List.{length-map}
use Rattle.std.proofs.lemmas.List.Elements.{filter_map-append}
use Rattle.std.proofs.lemmas.Option.{slice_get-map, slice_get-get_or}
use Rattle.definitions.specs.Table.{Database}
use Rattle.definitions.specs.Plans.Order.{BlockColumn}
use Rattle.definitions.specs.Queries.BoundBlock.{Condition, Block}
use Rattle.definitions.specs.Queries.Conjuncts.{conjuncts, is_late}
use Rattle.definitions.specs.Estimates.PlanConjuncts.{plan_conjuncts}
use Rattle.estimate.specs.PlanConjuncts.{condition_of_conjunct, conjunct_of}
use Rattle.estimate.specs.declared.plan_conjunct.PlanConjunct.{PlanConjunct}
use Rattle.access_paths.specs.Bounds.{SargableTerm, sargable_term}
use Rattle.access_paths.specs.Matches.{Match, match_at, early_bound}

mapped_at : {X Z : Type 0} (f : X → Z) (xs : List X) (zs : List Z) (i : ℕ) (x : X) → map f xs ≡ zs → i < length xs → x ≡ get_or xs i x → slice_get zs i ≡ Some (f x)
mapped_at f xs zs i x e h r = ap (λ l. slice_get l i) (sym e) ∙ slice_get-map f xs i ∙ ap (option_map f) (slice_get-get_or xs i x h ∙ ap Some (sym r))

-- the conjuncts of an estimate, by number
module _ (db : Database) (block : Block) (items : List PlanConjunct) (i : ℕ) (x : PlanConjunct)
    (exact : map conjunct_of items ≡ plan_conjuncts db block) (told : map condition_of_conjunct items ≡ conjuncts block) (h : i < length items) (r : x ≡ get_or items i x) where
  pub condition_at : slice_get (conjuncts block) i ≡ Some (condition_of_conjunct x)
  condition_at = mapped_at condition_of_conjunct items (conjuncts block) i x told h r

module _ (block : Block) (column : BlockColumn) (number : ℕ) (c : Condition) (at : slice_get (conjuncts block) number ≡ Some c) where
  abbrev pub match_of : Option SargableTerm → Option Match
  match_of = option_map (λ (b : SargableTerm). record { conjunct = number; equals = b.equals; required_outer = b.required_outer })

  by_test : (late early : Bool) → is_late c ≡ late → early ≡ not late → early_bound column c ≡ (if early then sargable_term column c else None)
  by_test true early e f = rw (e, f) refl
  by_test false early e f = rw (e, f) refl

  pub late_matches_none : (early : Bool) → early ≡ not (is_late c) → early ≡ false → match_at block column number ≡ None
  late_matches_none early e f =
      rw at (ap match_of (by_test (is_late c) early refl e ∙ ap (λ b. if b then sargable_term column c else None) f))

  pub early_matches : (early : Bool) → early ≡ not (is_late c) → early ≡ true → match_at block column number ≡ match_of (sargable_term column c)
  early_matches early e f =
      rw at (ap match_of (by_test (is_late c) early refl e ∙ ap (λ b. if b then sargable_term column c else None) f))

-- ---- all numbers

-- those from one on, of so many
abbrev pub matches_from : Block → BlockColumn → ℕ → ℕ → List Match
matches_from block column number count = filter_map (match_at block column) (range_with_len number (count - number))

pub next_matches : (block : Block) (column : BlockColumn) (number count : ℕ) → number < count
    → matches_from block column number count ≡ filter_map (match_at block column) (number ∷ []) ++ matches_from block column (number + 1) count
next_matches block column number count h =
    let e : count - number ≡ suc (count - (number + 1)) = omega arith in
    ap (λ n. filter_map (match_at block column) (range_with_len number n)) e
    ∙ filter_map-append (match_at block column) (number ∷ []) (range_with_len (number + 1) (count - (number + 1)))

pub no_more_matches : (block : Block) (column : BlockColumn) (number count : ℕ) → count ≤ number → matches_from block column number count ≡ []
no_more_matches block column number count h = let e : count - number ≡ 0 = omega arith in ap (λ n. filter_map (match_at block column) (range_with_len number n)) e

nothing_more : {X : Type 0} (xs : List X) → xs ++ [] ≡ xs
nothing_more [] = refl
nothing_more (x ∷ xs) = ap (λ ys. x ∷ ys) (nothing_more xs)

again : {X : Type 0} (xs ys zs : List X) → (xs ++ ys) ++ zs ≡ xs ++ (ys ++ zs)
again [] ys zs = refl
again (x ∷ xs) ys zs = ap (λ l. x ∷ l) (again xs ys zs)

pub next_pushed : (block : Block) (column : BlockColumn) (number count : ℕ) (old new all : List Match) → number < count → new ≡ old ++ filter_map (match_at block column) (number ∷ [])
    → old ++ matches_from block column number count ≡ all → new ++ matches_from block column (number + 1) count ≡ all
next_pushed block column number count old new all h e before =
    ap (λ ms. ms ++ matches_from block column (number + 1) count) e
    ∙ again old (filter_map (match_at block column) (number ∷ [])) (matches_from block column (number + 1) count)
    ∙ ap (λ ms. old ++ ms) (sym (next_matches block column number count h)) ∙ before

pub all_pushed : (block : Block) (column : BlockColumn) (number count : ℕ) (found all : List Match) → count ≤ number → found ++ matches_from block column number count ≡ all → found ≡ all
all_pushed block column number count found all h e = sym (nothing_more found) ∙ ap (λ ms. found ++ ms) (sym (no_more_matches block column number count h)) ∙ e

pub same_count : (block : Block) (items : List PlanConjunct) (i : ℕ) → map condition_of_conjunct items ≡ conjuncts block → i < length (conjuncts block) → i < length items
same_count block items i e h = subst (λ n. i < n) (sym (sym (length-map items condition_of_conjunct) ∙ ap length e)) h
