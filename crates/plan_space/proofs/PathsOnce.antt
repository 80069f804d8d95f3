-- No path of a table is listed twice.
use Prim.Native.Nat.{zero}
use Rattle.std.proofs.Common.{suc, ◌≡◌, ◌≢◌, ◌∙◌, refl, sym, ap, subst, ℕ, ◌+◌, ◌≤◌, ◌⊎◌, inl, inr, List, [], ◌∷◌, ◌++◌, Bool, true, false, cond, Option, Some, None, option_map, length, map, get_or, arith}
use Rattle.std.specs.Prelude.{⊤, if◌then◌else◌, AllPairs, Contains, filter, filter_map, flat_map, position, unwrap_or}
use Rattle.std.specs.List.{cons_option, range_with_len}
use Rattle.std.proofs.lemmas.List.Elements.{Contains-get_or, Contains-append_cases}
use Rattle.std.proofs.lemmas.List.Kept.{AllPairs-cons}
use Rattle.std.proofs.lemmas.List.Quantifiers.{position-Some}
use Rattle.std.proofs.lemmas.Slice.Eq.{bytes_eq-Decides}
use Rattle.definitions.specs.Table.{Index, Table, Database, is_on}
use Rattle.definitions.specs.Plans.TableSet.{TableSet}
use Rattle.definitions.specs.Plans.Path.{Path, SegmentScan, IndexScan, MatchingScan}
use Rattle.definitions.specs.Queries.BoundBlock.{Block}
use Rattle.definitions.specs.Queries.Conjuncts.{conjuncts}
use Rattle.definitions.specs.Estimates.BlockTables.{table_at, index_columns}
use Rattle.definitions.specs.Estimates.Orders.{known_indexes, indexes_at}
use Rattle.definitions.specs.Estimates.Paths.{equals_at, matches_at, matching, matching_lists, index_paths, paths_of}
use Rattle.definitions.specs.Estimates.Version.{Version, One, Two, Three, directions}
use Rattle.definitions.proofs.PlanTheory.Elements.{first_is, later, first_or_rest, not_in_empty, filter_had}
use Rattle.definitions.proofs.EstimateTheory.Members.{was_mapped, was_flattened}

-- ---- lists that repeat nothing

-- no element comes again
abbrev Once : {X : Type 0} → List X → Type 0
Once [] = ⊤
Once (x ∷ xs) = (Contains xs x → ⊥) × Once xs

module _ {X : Type 0} where
  all_differ : (xs : List X) → Once xs → AllPairs (λ (a b : X). a ≢ b) xs
  all_differ [] once = λ i j d lt within. absurd (omega arith)
  all_differ (x ∷ xs) (new, once) =
      AllPairs-cons (λ (a b : X). a ≢ b) x xs (λ k d lt is. new (subst (λ (y : X). Contains xs y) (sym is) (Contains-get_or xs k d lt))) (all_differ xs once)

  joined : (xs ys : List X) → Once xs → Once ys → ((x : X) → Contains xs x → Contains ys x → ⊥) → Once (xs ++ ys)
  joined [] ys a b apart = b
  joined (x ∷ xs) ys (new, a) b apart = ((λ h. by_place (Contains-append_cases xs ys x h)), joined xs ys a b (λ y h. apart y (later x xs y h)))
    where
      by_place : Contains xs x ⊎ Contains ys x → ⊥
      by_place (inl h) = new h
      by_place (inr h) = apart x (first_is x xs x refl) h

  filtered : (p : X → Bool) (xs : List X) → Once xs → Once (filter p xs)
  filtered p [] once = tt
  filtered p (x ∷ xs) (new, once) = by_test (p x) (filtered p xs once)
    where
      by_test : (b : Bool) → Once (filter p xs) → Once (cond b (x ∷ filter p xs) (filter p xs))
      by_test true rest = ((λ h. new ((filter_had p xs x h).0)), rest)
      by_test false rest = rest

module _ {X Y : Type 0} where
  mapped : (f : X → Y) → ((a b : X) → f a ≡ f b → a ≡ b) → (xs : List X) → Once xs → Once (map f xs)
  mapped f one [] once = tt
  mapped f one (x ∷ xs) (new, once) = (
    (λ h. let had = was_mapped f xs (f x) h in new (subst (λ (y : X). Contains xs y) (one had.0 x had.2) had.1)),
    mapped f one xs once,
  )

  flattened : (f : X → List Y) → ((x : X) → Once (f x)) → ((a b : X) (y : Y) → Contains (f a) y → Contains (f b) y → a ≡ b) → (xs : List X) → Once xs → Once (flat_map f xs)
  flattened f each one [] once = tt
  flattened f each one (x ∷ xs) (new, once) =
      joined (f x) (flat_map f xs) (each x) (flattened f each one xs once)
      (λ y here h. let had = was_flattened f xs y h in new (subst (λ (z : X). Contains xs z) (sym (one x had.0 y here had.2)) had.1))

  was_made : (f : X → Option Y) (xs : List X) (y : Y) → Contains (filter_map f xs) y → (x : X) × Contains xs x × (f x ≡ Some y)
  was_made f [] y h = absurd (not_in_empty y h)
  was_made f (x ∷ xs) y h = by_image (f x) refl h (was_made f xs y)
    where
      further : (z : X) × Contains xs z × (f z ≡ Some y) → (z : X) × Contains (x ∷ xs) z × (f z ≡ Some y)
      further (z, there, is) = (z, later x xs z there, is)

      by_place : (z : Y) → f x ≡ Some z → (Contains (filter_map f xs) y → (z : X) × Contains xs z × (f z ≡ Some y)) → (z ≡ y) ⊎ Contains (filter_map f xs) y
          → (z : X) × Contains (x ∷ xs) z × (f z ≡ Some y)
      by_place z e rest (inl is) = (x, first_is x xs x refl, e ∙ ap (λ (w : Y). Some w) is)
      by_place z e rest (inr r) = further (rest r)

      by_image : (o : Option Y) → f x ≡ o → Contains (cons_option o (filter_map f xs)) y → (Contains (filter_map f xs) y → (z : X) × Contains xs z × (f z ≡ Some y))
          → (z : X) × Contains (x ∷ xs) z × (f z ≡ Some y)
      by_image None e h rest = further (rest h)
      by_image (Some z) e h rest = by_place z e rest (first_or_rest z (filter_map f xs) y h)

  made : (f : X → Option Y) → ((a b : X) (y : Y) → f a ≡ Some y → f b ≡ Some y → a ≡ b) → (xs : List X) → Once xs → Once (filter_map f xs)
  made f one [] once = tt
  made f one (x ∷ xs) (new, once) = by_image (f x) refl (made f one xs once)
    where
      by_image : (o : Option Y) → f x ≡ o → Once (filter_map f xs) → Once (cons_option o (filter_map f xs))
      by_image None e rest = rest
      by_image (Some y) e rest = ((λ h. let had = was_made f xs y h in new (subst (λ (z : X). Contains xs z) (one had.0 x y had.2 e) had.1)), rest)

from_on : (from count n : ℕ) → Contains (range_with_len from count) n → from ≤ n
from_on from zero n h = absurd (not_in_empty n h)
from_on from (suc count) n h = by_place (from_on (from + 1) count n) (first_or_rest from (range_with_len (from + 1) count) n h)
  where
    by_place : (Contains (range_with_len (from + 1) count) n → from + 1 ≤ n) → (from ≡ n) ⊎ Contains (range_with_len (from + 1) count) n → from ≤ n
    by_place rest (inl e) = omega (arith, e)
    by_place rest (inr r) = let le = rest r in omega (arith, le)

range_once : (from count : ℕ) → Once (range_with_len from count)
range_once from zero = tt
range_once from (suc count) = ((λ h. let le = from_on (from + 1) count from h in omega (arith, le)), range_once (from + 1) count)

-- ---- the indexes of a table, and how they may be read

one_column : (columns : List ℕ) (a b : ℕ) → columns ≡ a ∷ [] → columns ≡ b ∷ [] → a ≡ b
one_column columns a b e f = let same : a ∷ [] ≡ b ∷ [] = sym e ∙ f in cc

on_one : (indexes : List Index) (a b number : ℕ) → position (is_on (a ∷ [])) indexes ≡ Some number → position (is_on (b ∷ [])) indexes ≡ Some number → a ≡ b
on_one [] a b number e f = let none : None ≡ Some number = e in absurd cc
on_one (i ∷ is) a b number e f =
    let first = position-Some (is_on (a ∷ [])) (i ∷ is) number i e in
    let second = position-Some (is_on (b ∷ [])) (i ∷ is) number i f in
    let columns = (get_or (i ∷ is) number i).columns in
    one_column columns a b ((bytes_eq-Decides columns (a ∷ [])).0 first.1) ((bytes_eq-Decides columns (b ∷ [])).0 second.1)

known_once : (version : Version) (t : Table) → Once (known_indexes version t)
known_once One t = made (λ column. position (is_on (column ∷ [])) t.indexes) (λ a b number. on_one t.indexes a b number) (range_with_len 0 (length t.columns)) (range_once 0 (length t.columns))
known_once Two t = range_once 0 (length t.indexes)
known_once Three t = range_once 0 (length t.indexes)

indexes_once : (version : Version) (table : Option Table) → Once (unwrap_or (option_map (known_indexes version) table) [])
indexes_once version None = tt
indexes_once version (Some t) = known_once version t

both_ways : Once (false ∷ true ∷ [])
both_ways = ((λ h. by_place (first_or_rest true [] false h)), ((λ h. not_in_empty true h), tt))
  where
    by_place : (true ≡ false) ⊎ Contains [] false → ⊥
    by_place (inl e) = absurd cc
    by_place (inr h) = not_in_empty false h

directions_once : (version : Version) → Once (directions version)
directions_once One = ((λ h. not_in_empty false h), tt)
directions_once Two = both_ways
directions_once Three = both_ways

-- ---- lists of conjuncts

module _ (block : Block) (known : TableSet) (table : ℕ) where
  abbrev lists : List ℕ → List (List ℕ)
  lists numbers = matching_lists block known table numbers

  -- those that begin with a conjunct: by itself, and with others behind it
  abbrev with_others : List ℕ → ℕ → List (List ℕ)
  with_others numbers conjunct = map (λ others. conjunct ∷ others) (lists numbers)

  abbrev longer : ℕ → List ℕ → ℕ → List (List ℕ)
  longer number numbers conjunct = if equals_at block known (record { table = table; number = number }) conjunct then with_others numbers conjunct else []

  abbrev beginning : ℕ → List ℕ → ℕ → List (List ℕ)
  beginning number numbers conjunct = (conjunct ∷ []) ∷ longer number numbers conjunct

  begins : (number : ℕ) (numbers : List ℕ) (conjunct : ℕ) (list : List ℕ) → Contains (beginning number numbers conjunct) list → (rest : List ℕ) × (list ≡ conjunct ∷ rest)
  begins number numbers conjunct list h = by_place (first_or_rest (conjunct ∷ []) (longer number numbers conjunct) list h)
    where
      by_test : (b : Bool) → Contains (if b then with_others numbers conjunct else []) list → (rest : List ℕ) × (list ≡ conjunct ∷ rest)
      by_test true r = let had = was_mapped (λ others. conjunct ∷ others) (lists numbers) list r in (had.0, sym had.2)
      by_test false r = absurd (not_in_empty list r)

      by_place : (conjunct ∷ [] ≡ list) ⊎ Contains (longer number numbers conjunct) list → (rest : List ℕ) × (list ≡ conjunct ∷ rest)
      by_place (inl e) = ([], sym e)
      by_place (inr r) = by_test (equals_at block known (record { table = table; number = number }) conjunct) r

  same_first : (list rest rest' : List ℕ) (a b : ℕ) → list ≡ a ∷ rest → list ≡ b ∷ rest' → a ≡ b
  same_first list rest rest' a b e f = let same : a ∷ rest ≡ b ∷ rest' = sym e ∙ f in cc

  not_begun : (conjunct : ℕ) (rest : List ℕ) → [] ≡ conjunct ∷ rest → ⊥
  not_begun conjunct rest e = absurd cc

  -- each has a conjunct
  none_empty : (numbers : List ℕ) → Contains (lists numbers) [] → ⊥
  none_empty [] h = not_in_empty [] h
  none_empty (number ∷ numbers) h =
      let had = was_flattened (beginning number numbers) (matching block known (record { table = table; number = number })) [] h in
      let list = begins number numbers had.0 [] had.2 in
      not_begun had.0 list.0 list.1

  nothing_after : (conjunct : ℕ) (list : List ℕ) → conjunct ∷ list ≡ conjunct ∷ [] → list ≡ []
  nothing_after conjunct list e = cc

  same_rest : (conjunct : ℕ) (a b : List ℕ) → conjunct ∷ a ≡ conjunct ∷ b → a ≡ b
  same_rest conjunct a b e = cc

  not_alone : (numbers : List ℕ) (conjunct : ℕ) → Contains (with_others numbers conjunct) (conjunct ∷ []) → ⊥
  not_alone numbers conjunct h =
      let had = was_mapped (λ others. conjunct ∷ others) (lists numbers) (conjunct ∷ []) h in
      none_empty numbers (subst (λ (list : List ℕ). Contains (lists numbers) list) (nothing_after conjunct had.0 had.2) had.1)

  each_once : (number : ℕ) (numbers : List ℕ) → Once (lists numbers) → (conjunct : ℕ) → Once (beginning number numbers conjunct)
  each_once number numbers once conjunct = by_test (equals_at block known (record { table = table; number = number }) conjunct)
    where
      by_test : (b : Bool) → Once ((conjunct ∷ []) ∷ (if b then with_others numbers conjunct else []))
      by_test true = (not_alone numbers conjunct, mapped (λ others. conjunct ∷ others) (same_rest conjunct) (lists numbers) once)
      by_test false = ((λ h. not_in_empty (conjunct ∷ []) h), tt)

  one_first : (number : ℕ) (numbers : List ℕ) (a b : ℕ) (list : List ℕ) → Contains (beginning number numbers a) list → Contains (beginning number numbers b) list → a ≡ b
  one_first number numbers a b list h h' =
      let first = begins number numbers a list h in
      let second = begins number numbers b list h' in
      same_first list first.0 second.0 a b first.1 second.1

  lists_once : (numbers : List ℕ) → Once (lists numbers)
  lists_once [] = tt
  lists_once (number ∷ numbers) =
      flattened (beginning number numbers) (each_once number numbers (lists_once numbers)) (one_first number numbers) (matching block known (record { table = table; number = number }))
      (filtered (matches_at block known (record { table = table; number = number })) (range_with_len 0 (length (conjuncts block))) (range_once 0 (length (conjuncts block))))

-- ---- the paths of a table

abbrev index_of : Path → Option ℕ
index_of (SegmentScan table) = None
index_of (IndexScan table index backward) = Some index
index_of (MatchingScan table index conjuncts backward) = Some index

abbrev is_backward : Path → Bool
is_backward (SegmentScan table) = false
is_backward (IndexScan table index backward) = backward
is_backward (MatchingScan table index conjuncts backward) = backward

module _ (table number : ℕ) (matches : List (List ℕ)) where
  -- those of an index in one direction
  abbrev scans : Bool → List Path
  scans backward = IndexScan table number backward ∷ map (λ conjuncts. MatchingScan table number conjuncts backward) matches

  are_scans : (backward : Bool) (path : Path) → Contains (scans backward) path → (index_of path ≡ Some number) × (is_backward path ≡ backward)
  are_scans backward path h = by_place (first_or_rest (IndexScan table number backward) (map (λ conjuncts. MatchingScan table number conjuncts backward) matches) path h)
    where
      by_place : (IndexScan table number backward ≡ path) ⊎ Contains (map (λ conjuncts. MatchingScan table number conjuncts backward) matches) path → (index_of path ≡ Some number) × (is_backward path ≡ backward)
      by_place (inl e) = (ap index_of (sym e), ap is_backward (sym e))
      by_place (inr r) = let had = was_mapped (λ conjuncts. MatchingScan table number conjuncts backward) matches path r in (ap index_of (sym had.2), ap is_backward (sym had.2))

  no_match : (backward : Bool) (conjuncts : List ℕ) → MatchingScan table number conjuncts backward ≡ IndexScan table number backward → ⊥
  no_match backward conjuncts e = absurd cc

  same_match : (backward : Bool) (a b : List ℕ) → MatchingScan table number a backward ≡ MatchingScan table number b backward → a ≡ b
  same_match backward a b e = cc

  scans_once : Once matches → (backward : Bool) → Once (scans backward)
  scans_once once backward = (
    (λ h. let had = was_mapped (λ conjuncts. MatchingScan table number conjuncts backward) matches (IndexScan table number backward) h in no_match backward had.0 had.2),
    mapped (λ conjuncts. MatchingScan table number conjuncts backward) (same_match backward) matches once,
  )

module _ (version : Version) (db : Database) (block : Block) (known : TableSet) (table : ℕ) where
  abbrev lists_of : ℕ → List (List ℕ)
  lists_of number = matching_lists block known table (index_columns db block table number)

  of_index : (number : ℕ) (path : Path) → Contains (index_paths version db block known table number) path → index_of path ≡ Some number
  of_index number path h = let had = was_flattened (scans table number (lists_of number)) (directions version) path h in (are_scans table number (lists_of number) had.0 path had.2).0

  index_once : (number : ℕ) → Once (index_paths version db block known table number)
  index_once number =
      flattened (scans table number (lists_of number)) (scans_once table number (lists_of number) (lists_once block known table (index_columns db block table number)))
      (λ a b path h h'. sym (are_scans table number (lists_of number) a path h).1 ∙ (are_scans table number (lists_of number) b path h').1) (directions version) (directions_once version)

  one_index : (path : Path) (a b : ℕ) → index_of path ≡ Some a → index_of path ≡ Some b → a ≡ b
  one_index path a b e f = let same : Some a ≡ Some b = sym e ∙ f in cc

  no_index : (number : ℕ) → index_of (SegmentScan table) ≡ Some number → ⊥
  no_index number e = let none : None ≡ Some number = e in absurd cc

  pub paths_once : AllPairs (λ (a b : Path). a ≢ b) (paths_of version db block known table)
  paths_once = all_differ (paths_of version db block known table) (
    (λ h. let had = was_flattened (index_paths version db block known table) (indexes_at version db block table) (SegmentScan table) h in no_index had.0 (of_index had.0 (SegmentScan table) had.2)),
    flattened (index_paths version db block known table) index_once (λ a b path h h'. one_index path a b (of_index a path h) (of_index b path h')) (indexes_at version db block table)
        (indexes_once version (table_at db block table)),
  )
