-- The chains of an index, where the rows of a set of tables are known.
use Rattle.std.proofs.Common.{◌≡◌, ◌∙◌, refl, sym, ap, ap₂, subst, ℕ, suc, ◌<◌, List, [], ◌∷◌, ◌++◌, Bool, true, false, nat_eq, Option, Some, None, if◌then◌else◌, length, map, arith}
use Rattle.std.specs.Prelude.{◌&&◌, filter, filter_map, flat_map, option_map, option_and_then, slice_get}
use Rattle.std.specs.List.{AllByRecursion, range_with_len}
use Rattle.std.proofs.lemmas.Bool.Decides.{nat_tests}
use Rattle.std.proofs.lemmas.List.Elements.{filter-append}
use Rattle.std.proofs.lemmas.Option.{slice_get_within}
use Rattle.definitions.specs.Plans.TableSet.{TableSet}
use Rattle.definitions.specs.Plans.Order.{BlockColumn}
use Rattle.definitions.specs.Queries.BoundBlock.{Condition, Block}
use Rattle.definitions.specs.Queries.Conjuncts.{conjuncts}
use Rattle.definitions.specs.Estimates.BlockTables.{is_within}
use Rattle.definitions.specs.Estimates.Paths.{equals_at, matching_lists}
use Rattle.definitions.specs.Estimates.PathCost.{equals_each}
use Rattle.definitions.proofs.EstimateTheory.Tests.{eq_of, left_of, right_of}
use Rattle.access_paths.specs.Bounds.{SargableTerm}
use Rattle.access_paths.specs.Matches.{Match, IndexMatch, early_bound, match_at, column_matches, only_match, before, chains_from, with_column, index_matches}
use Rattle.access_paths.proofs.Bounding.{same_tests, or_within}
use Rattle.access_paths.proofs.Matching.{is_open, met_by_equals, equals_as_met, matching_as_matches}
use Rattle.access_paths.proofs.Rooms.{joined}

-- ---- each match is that of its conjunct

module _ (block : Block) (column : BlockColumn) where
  abbrev pub IsMatchOf : Match → Type 0
  IsMatchOf m = match_at block column m.conjunct ≡ Some m

  abbrev numbered_match : ℕ → Option SargableTerm → Option Match
  numbered_match number = option_map (λ (b : SargableTerm). record { conjunct = number; equals = b.equals; required_outer = b.required_outer })

  its_number : (number : ℕ) (b : Option SargableTerm) (m : Match) → numbered_match number b ≡ Some m → m.conjunct ≡ number
  its_number number None m e = absurd cc
  its_number number (Some b) m e = cc

  one_of : (number : ℕ) (o : Option Match) (rest : List Match) → match_at block column number ≡ o → ((m : Match) → o ≡ Some m → m.conjunct ≡ number) → AllByRecursion IsMatchOf rest
      → (numbers : List ℕ) → filter_map (match_at block column) numbers ≡ rest → AllByRecursion IsMatchOf (filter_map (match_at block column) (number ∷ numbers))
  one_of number None rest e own all numbers r = rw e (rw r all)
  one_of number (Some m) rest e own all numbers r = let same : m.conjunct ≡ number = own m refl in rw e (subst (λ n. match_at block column n ≡ Some m) (sym same) e, rw r all)

  all_of : (numbers : List ℕ) → AllByRecursion IsMatchOf (filter_map (match_at block column) numbers)
  all_of [] = tt
  all_of (number ∷ numbers) =
      one_of number (match_at block column number) (filter_map (match_at block column) numbers) refl
      (its_number number (option_and_then (early_bound column) (slice_get (conjuncts block) number))) (all_of numbers) numbers refl

  pub are_matches : AllByRecursion IsMatchOf (column_matches block column)
  are_matches = all_of (range_with_len 0 (length (conjuncts block)))

  pub equals_of : (tables : TableSet) (m : Match) → IsMatchOf m → is_open tables m ≡ true → equals_at block tables column m.conjunct ≡ m.equals
  equals_of tables m is h = equals_as_met tables block column m.conjunct ∙ ap (met_by_equals tables) is ∙ ap (λ b. m.equals && b) h ∙ with_true m.equals
    where
      with_true : (x : Bool) → (x && true) ≡ x
      with_true true = refl
      with_true false = refl

  -- its conjunct is one of the block
  pub match_within : (m : Match) → IsMatchOf m → m.conjunct < length (conjuncts block)
  match_within m is = of (slice_get (conjuncts block) m.conjunct) refl is
    where
      of : (o : Option Condition) → slice_get (conjuncts block) m.conjunct ≡ o → numbered_match m.conjunct (option_and_then (early_bound column) o) ≡ Some m → m.conjunct < length (conjuncts block)
      of None e h = absurd cc
      of (Some c) e h = slice_get_within (conjuncts block) m.conjunct c e

-- ---- which chains are open

abbrev pub conjuncts_in : IndexMatch → List ℕ
conjuncts_in c = c.conjuncts

module _ (tables : TableSet) where
  abbrev pub is_open_chain : IndexMatch → Bool
  is_open_chain c = is_within c.required_outer tables

  open_before : (m : Match) (c : IndexMatch) → is_open_chain (before m c) ≡ (is_open tables m && is_open_chain c)
  open_before m c = or_within m.required_outer c.required_outer tables

  open_after : (m : Match) (others : List IndexMatch) → is_open tables m ≡ true
      → map conjuncts_in (filter is_open_chain (map (before m) others)) ≡ map (λ numbers. m.conjunct ∷ numbers) (map conjuncts_in (filter is_open_chain others))
  open_after m [] h = refl
  open_after m (c ∷ cs) h = by_test (is_open_chain c) refl (open_after m cs h)
    where
      by_test : (b : Bool) → is_open_chain c ≡ b → map conjuncts_in (filter is_open_chain (map (before m) cs)) ≡ map (λ numbers. m.conjunct ∷ numbers) (map conjuncts_in (filter is_open_chain cs))
          → map conjuncts_in (filter is_open_chain (map (before m) (c ∷ cs))) ≡ map (λ numbers. m.conjunct ∷ numbers) (map conjuncts_in (filter is_open_chain (c ∷ cs)))
      by_test true e rest = let test : is_open_chain (before m c) ≡ true = open_before m c ∙ ap (λ b. b && is_open_chain c) h ∙ e in rw (test, e) (ap (λ l. (m.conjunct ∷ c.conjuncts) ∷ l) rest)
      by_test false e rest = let test : is_open_chain (before m c) ≡ false = open_before m c ∙ ap (λ b. b && is_open_chain c) h ∙ e in rw (test, e) rest

  closed_after : (m : Match) (others : List IndexMatch) → is_open tables m ≡ false → filter is_open_chain (map (before m) others) ≡ []
  closed_after m [] h = refl
  closed_after m (c ∷ cs) h = let test : is_open_chain (before m c) ≡ false = open_before m c ∙ ap (λ b. b && is_open_chain c) h in rw test (closed_after m cs h)

  module _ (block : Block) (column : BlockColumn) (lists : List (List ℕ)) (others : List IndexMatch) (same : lists ≡ map conjuncts_in (filter is_open_chain others)) where
    -- what a conjunct gives, and what its match gives
    abbrev lists_from : ℕ → List (List ℕ)
    lists_from conjunct = (conjunct ∷ []) ∷ (if equals_at block tables column conjunct then map (λ numbers. conjunct ∷ numbers) lists else [])

    of_open : (m : Match) (equals : Bool) → m.equals ≡ equals → is_open tables m ≡ true → equals_at block tables column m.conjunct ≡ m.equals
        → lists_from m.conjunct ≡ map conjuncts_in (filter is_open_chain (chains_from others m))
    of_open m true e h q =
        let test : is_open_chain (only_match m) ≡ true = h in
        let yes : equals_at block tables column m.conjunct ≡ true = q ∙ e in
        rw (yes, e, test) (ap (λ l. (m.conjunct ∷ []) ∷ l) (ap (map (λ numbers. m.conjunct ∷ numbers)) same ∙ sym (open_after m others h)))
    of_open m false e h q =
        let test : is_open_chain (only_match m) ≡ true = h in
        let no' : equals_at block tables column m.conjunct ≡ false = q ∙ e in
        rw (no', e, test) refl

    of_closed : (m : Match) (equals : Bool) → m.equals ≡ equals → is_open tables m ≡ false → filter is_open_chain (chains_from others m) ≡ []
    of_closed m true e h = let test : is_open_chain (only_match m) ≡ false = h in rw (e, test) (closed_after m others h)
    of_closed m false e h = let test : is_open_chain (only_match m) ≡ false = h in rw (e, test) refl

    map-append : (xs ys : List IndexMatch) → map conjuncts_in (xs ++ ys) ≡ map conjuncts_in xs ++ map conjuncts_in ys
    map-append [] ys = refl
    map-append (x ∷ xs) ys = ap (λ l. x.conjuncts ∷ l) (map-append xs ys)

    kept : (m : Match) (ms : List Match) (is_known : Bool) → is_open tables m ≡ is_known
        → flat_map lists_from (map (λ (m : Match). m.conjunct) (filter (is_open tables) (m ∷ ms)))
        ≡ flat_map lists_from (map (λ (m : Match). m.conjunct) (if is_known then m ∷ filter (is_open tables) ms else filter (is_open tables) ms))
    kept m ms is_known e = ap (λ b. flat_map lists_from (map (λ (m : Match). m.conjunct) (if b then m ∷ filter (is_open tables) ms else filter (is_open tables) ms))) e

    one_more : (m : Match) (ms : List Match) (is_known : Bool) → is_open tables m ≡ is_known → IsMatchOf block column m
        → flat_map lists_from (map (λ (m : Match). m.conjunct) (filter (is_open tables) ms)) ≡ map conjuncts_in (filter is_open_chain (with_column others ms))
        → flat_map lists_from (map (λ (m : Match). m.conjunct) (filter (is_open tables) (m ∷ ms))) ≡ map conjuncts_in (filter is_open_chain (with_column others (m ∷ ms)))
    one_more m ms true e is rest =
        let split = ap (map conjuncts_in) (filter-append is_open_chain (chains_from others m) (with_column others ms)) ∙ map-append (filter is_open_chain (chains_from others m)) (filter is_open_chain (with_column others ms)) in
        kept m ms true e ∙ ap₂ (λ a b. a ++ b) (of_open m m.equals refl e (equals_of block column tables m is e)) rest ∙ sym split
    one_more m ms false e is rest =
        let split = filter-append is_open_chain (chains_from others m) (with_column others ms) in
        let none = ap (λ l. l ++ filter is_open_chain (with_column others ms)) (of_closed m m.equals refl e) in
        kept m ms false e ∙ rest ∙ ap (map conjuncts_in) (sym (split ∙ none))

    pub all_open : (ms : List Match) → AllByRecursion (IsMatchOf block column) ms
        → flat_map lists_from (map (λ (m : Match). m.conjunct) (filter (is_open tables) ms)) ≡ map conjuncts_in (filter is_open_chain (with_column others ms))
    all_open [] all = refl
    all_open (m ∷ ms) all = one_more m ms (is_open tables m) refl all.0 (all_open ms all.1)

  module _ (block : Block) (table : ℕ) where
    -- the lists of conjuncts that match an index are those of its open chains
    pub lists_as_chains : (numbers : List ℕ) → matching_lists block tables table numbers ≡ map conjuncts_in (filter is_open_chain (index_matches block table numbers))
    lists_as_chains [] = refl
    lists_as_chains (number ∷ numbers) =
        let column : BlockColumn = record { table = table; number = number } in
        let lists = matching_lists block tables table numbers in
        let others = index_matches block table numbers in
        let same = lists_as_chains numbers in
        ap (flat_map (λ conjunct. (conjunct ∷ []) ∷ (if equals_at block tables column conjunct then map (λ numbers. conjunct ∷ numbers) lists else []))) (matching_as_matches tables block column)
        ∙ all_open block column lists others same (column_matches block column) (are_matches block column)

-- ---- chains that equal all columns

where_true : {X : Type 0} (P : X → Type 0) (xs : List X) (b : Bool) → (b ≡ true → AllByRecursion P xs) → AllByRecursion P (if b then xs else [])
where_true P xs true f = f refl
where_true P xs false f = tt

pub test_of : (n m : ℕ) → n ≡ m → nat_eq n m ≡ true
test_of n m e = grind (arith, nat_tests, e)

next_test : (n m : ℕ) → nat_eq (suc n) (suc m) ≡ nat_eq n m
next_test n m = same_tests (nat_eq (suc n) (suc m)) (nat_eq n m) (λ h. let e = eq_of (suc n) (suc m) h in test_of n m (omega (arith, e))) (λ h. let e = eq_of n m h in test_of (suc n) (suc m) (omega (arith, e)))

module _ (tables : TableSet) (block : Block) (table : ℕ) where
  -- where it is open, it equals all columns exactly if it is as long as they are, and each of its conjuncts says what its column equals
  abbrev pub EqualsAll : List ℕ → IndexMatch → Type 0
  EqualsAll numbers c = is_open_chain tables c ≡ true → equals_each block tables table numbers c.conjuncts ≡ (c.equal && nat_eq (length c.conjuncts) (length numbers))

  abbrev column_of_number : ℕ → BlockColumn
  column_of_number number = record { table = table; number = number }

  none_left : (numbers : List ℕ) → equals_each block tables table numbers [] ≡ nat_eq 0 (length numbers)
  none_left [] = refl
  none_left (n ∷ ns) = sym (not_equal (length ns))
    where
      not_equal : (n : ℕ) → nat_eq 0 (suc n) ≡ false
      not_equal n = grind (arith, nat_tests)

  only_equals : (number : ℕ) (numbers : List ℕ) (m : Match) → IsMatchOf block (column_of_number number) m → EqualsAll (number ∷ numbers) (only_match m)
  only_equals number numbers m is h =
      ap₂ (λ a b. a && b) (equals_of block (column_of_number number) tables m is h) (none_left numbers ∙ sym (next_test 0 (length numbers)))

  before_equals : (number : ℕ) (numbers : List ℕ) (m : Match) → m.equals ≡ true → IsMatchOf block (column_of_number number) m
      → (others : List IndexMatch) → AllByRecursion (EqualsAll numbers) others → AllByRecursion (EqualsAll (number ∷ numbers)) (map (before m) others)
  before_equals number numbers m q is [] all = tt
  before_equals number numbers m q is (c ∷ cs) all = (first, before_equals number numbers m q is cs all.1)
    where
      first : EqualsAll (number ∷ numbers) (before m c)
      first h =
          let both : (is_open tables m && is_open_chain tables c) ≡ true = sym (or_within m.required_outer c.required_outer tables) ∙ h in
          let own : is_open tables m ≡ true = left_of (is_open tables m) (is_open_chain tables c) both in
          let rest : is_open_chain tables c ≡ true = right_of (is_open tables m) (is_open_chain tables c) both in
          ap₂ (λ a b. a && b) (equals_of block (column_of_number number) tables m is own ∙ q) (all.0 rest ∙ ap (λ b. c.equal && b) (sym (next_test (length c.conjuncts) (length numbers))))

  from_equals : (number : ℕ) (numbers : List ℕ) (m : Match) → IsMatchOf block (column_of_number number) m
      → (others : List IndexMatch) → AllByRecursion (EqualsAll numbers) others → AllByRecursion (EqualsAll (number ∷ numbers)) (chains_from others m)
  from_equals number numbers m is others all =
      (only_equals number numbers m is, where_true (EqualsAll (number ∷ numbers)) (map (before m) others) m.equals (λ q. before_equals number numbers m q is others all))

  column_equals : (number : ℕ) (numbers : List ℕ) (others : List IndexMatch) → AllByRecursion (EqualsAll numbers) others
      → (ms : List Match) → AllByRecursion (IsMatchOf block (column_of_number number)) ms → AllByRecursion (EqualsAll (number ∷ numbers)) (with_column others ms)
  column_equals number numbers others all [] are = tt
  column_equals number numbers others all (m ∷ ms) are =
      joined (EqualsAll (number ∷ numbers)) (chains_from others m) (with_column others ms) (from_equals number numbers m are.0 others all) (column_equals number numbers others all ms are.1)

  pub chains_equal : (numbers : List ℕ) → AllByRecursion (EqualsAll numbers) (index_matches block table numbers)
  chains_equal [] = tt
  chains_equal (number ∷ numbers) =
      column_equals number numbers (index_matches block table numbers) (chains_equal numbers) (column_matches block (column_of_number number)) (are_matches block (column_of_number number))

-- ---- their conjuncts are of the block

module _ (block : Block) (table : ℕ) where
  abbrev pub IsOfBlock : ℕ → Type 0
  IsOfBlock conjunct = conjunct < length (conjuncts block)

  abbrev pub IsChainOfBlock : IndexMatch → Type 0
  IsChainOfBlock c = AllByRecursion IsOfBlock c.conjuncts

  before_within : (m : Match) → IsOfBlock m.conjunct → (others : List IndexMatch) → AllByRecursion IsChainOfBlock others → AllByRecursion IsChainOfBlock (map (before m) others)
  before_within m h [] all = tt
  before_within m h (c ∷ cs) all = ((h, all.0), before_within m h cs all.1)

  from_within : (m : Match) → IsOfBlock m.conjunct → (others : List IndexMatch) → AllByRecursion IsChainOfBlock others → AllByRecursion IsChainOfBlock (chains_from others m)
  from_within m h others all = ((h, tt), where_true IsChainOfBlock (map (before m) others) m.equals (λ q. before_within m h others all))

  column_within : (column : BlockColumn) (others : List IndexMatch) → AllByRecursion IsChainOfBlock others → (ms : List Match) → AllByRecursion (IsMatchOf block column) ms → AllByRecursion IsChainOfBlock (with_column others ms)
  column_within column others all [] are = tt
  column_within column others all (m ∷ ms) are =
      joined IsChainOfBlock (chains_from others m) (with_column others ms) (from_within m (match_within block column m are.0) others all) (column_within column others all ms are.1)

  pub chains_of_block : (numbers : List ℕ) → AllByRecursion IsChainOfBlock (index_matches block table numbers)
  chains_of_block [] = tt
  chains_of_block (number ∷ numbers) =
      let column : BlockColumn = record { table = table; number = number } in
      column_within column (index_matches block table numbers) (chains_of_block numbers) (column_matches block column) (are_matches block column)
