-- The matches of a column, and the chains of an index, where the rows of a set of tables are known.
use Rattle.std.proofs.Common.{◌≡◌, ◌∙◌, refl, ap, ℕ, List, [], ◌∷◌, Bool, true, false, Option, Some, None, if◌then◌else◌, length, map}
use Rattle.std.specs.Prelude.{not, ◌&&◌, filter, filter_map, option_map, option_and_then, unwrap_or, slice_get}
use Rattle.std.specs.List.{range_with_len}
use Rattle.definitions.specs.Plans.TableSet.{TableSet}
use Rattle.definitions.specs.Plans.Order.{BlockColumn}
use Rattle.definitions.specs.Queries.BoundBlock.{Condition, Block}
use Rattle.definitions.specs.Queries.Conjuncts.{conjuncts, is_late}
use Rattle.definitions.specs.Estimates.BlockTables.{is_within}
use Rattle.definitions.specs.Estimates.Paths.{is_range, is_equality, says, equals_at, matches_at, matching}
use Rattle.access_paths.specs.Bounds.{SargableTerm, sargable_term}
use Rattle.access_paths.specs.Matches.{Match, early_bound, match_at, column_matches}
use Rattle.access_paths.proofs.Bounding.{is_met, is_met_by_equals, equals_as_bound, matches_as_bound}

-- ---- one column

module _ (tables : TableSet) where
  abbrev pub is_open : Match → Bool
  is_open m = is_within m.required_outer tables

  -- what holds of a match that a number has or has not
  abbrev pub met : Option Match → Bool
  met None = false
  met (Some m) = is_open m

  abbrev pub met_by_equals : Option Match → Bool
  met_by_equals None = false
  met_by_equals (Some m) = m.equals && is_open m

  module _ (block : Block) (column : BlockColumn) where
    abbrev numbered_match : ℕ → Option SargableTerm → Option Match
    numbered_match number = option_map (λ (b : SargableTerm). record { conjunct = number; equals = b.equals; required_outer = b.required_outer })

    of_bound : (number : ℕ) (b : Option SargableTerm) → (is_met tables b ≡ met (numbered_match number b)) × (is_met_by_equals tables b ≡ met_by_equals (numbered_match number b))
    of_bound number None = (refl, refl)
    of_bound number (Some b) = (refl, refl)

    by_late : (number : ℕ) (c : Condition) (late : Bool)
        → ((not late && says (is_range tables column.table) column c) ≡ met (numbered_match number (if late then None else sargable_term column c)))
        × ((not late && says (is_equality tables column.table) column c) ≡ met_by_equals (numbered_match number (if late then None else sargable_term column c)))
    by_late number c true = (refl, refl)
    by_late number c false =
        (matches_as_bound tables column c ∙ (of_bound number (sargable_term column c)).0, equals_as_bound tables column c ∙ (of_bound number (sargable_term column c)).1)

    by_condition : (number : ℕ) (o : Option Condition)
        → (unwrap_or (option_map (λ c. not (is_late c) && says (is_range tables column.table) column c) o) false ≡ met (numbered_match number (option_and_then (early_bound column) o)))
        × (unwrap_or (option_map (λ c. not (is_late c) && says (is_equality tables column.table) column c) o) false ≡ met_by_equals (numbered_match number (option_and_then (early_bound column) o)))
    by_condition number None = (refl, refl)
    by_condition number (Some c) = by_late number c (is_late c)

    pub matches_as_met : (number : ℕ) → matches_at block tables column number ≡ met (match_at block column number)
    matches_as_met number = (by_condition number (slice_get (conjuncts block) number)).0

    pub equals_as_met : (number : ℕ) → equals_at block tables column number ≡ met_by_equals (match_at block column number)
    equals_as_met number = (by_condition number (slice_get (conjuncts block) number)).1

    -- a match tells its own number
    abbrev pub IsOwn : ℕ → Option Match → Type 0
    IsOwn number None = Rattle.std.specs.Prelude.⊤
    IsOwn number (Some m) = m.conjunct ≡ number

    own_number : (number : ℕ) → IsOwn number (match_at block column number)
    own_number number = of (option_and_then (early_bound column) (slice_get (conjuncts block) number))
      where
        of : (b : Option SargableTerm) → IsOwn number (numbered_match number b)
        of None = tt
        of (Some b) = refl

    abbrev AreFiltered : List ℕ → Type 0
    AreFiltered numbers = filter (matches_at block tables column) numbers ≡ map (λ (m : Match). m.conjunct) (filter is_open (filter_map (match_at block column) numbers))

    kept : (number : ℕ) (numbers : List ℕ) (m : Match) (b : Bool) → is_open m ≡ b → m.conjunct ≡ number → AreFiltered numbers
        → (if b then number ∷ filter (matches_at block tables column) numbers else filter (matches_at block tables column) numbers)
        ≡ map (λ (m : Match). m.conjunct) (filter is_open (m ∷ filter_map (match_at block column) numbers))
    kept number numbers m true e o rest = rw (e, o) (ap (λ l. number ∷ l) rest)
    kept number numbers m false e o rest = rw e rest

    by_match : (number : ℕ) (numbers : List ℕ) (o : Option Match) → match_at block column number ≡ o → IsOwn number (match_at block column number) → AreFiltered numbers → AreFiltered (number ∷ numbers)
    by_match number numbers None e own rest = let test : matches_at block tables column number ≡ false = matches_as_met number ∙ ap met e in rw (test, e) rest
    by_match number numbers (Some m) e own rest =
        let test : matches_at block tables column number ≡ is_open m = matches_as_met number ∙ ap met e in
        let same : m.conjunct ≡ number = rw e at own in
        rw (test, e) (kept number numbers m (is_open m) refl same rest)

    filtered : (numbers : List ℕ) → AreFiltered numbers
    filtered [] = refl
    filtered (number ∷ numbers) = by_match number numbers (match_at block column number) refl (own_number number) (filtered numbers)

    pub matching_as_matches : matching block tables column ≡ map (λ (m : Match). m.conjunct) (filter is_open (column_matches block column))
    matching_as_matches = filtered (range_with_len 0 (length (conjuncts block)))
