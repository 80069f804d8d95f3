-- On all tables of a block composites of row numbers stand for combinations of rows, and the same ones pass.
use Prim.Native.Nat.{zero}
use Rattle.std.proofs.Common.{suc, sym, ap, ap₂, ◌∙◌, subst, ◌≡◌, ℕ, ◌+◌, ◌<◌, inl, inr, List, [], ◌∷◌, ◌++◌, length, get_or, slice_get, map, filter, flat_map, Bool, true, false, not, cond, Some, is_some, IsPermutation, arith, refl, true≢false}
use Rattle.std.specs.Prelude.{option_map, unwrap_or, Contains}
use Rattle.std.specs.Int.{bit_at}
use Rattle.std.specs.List.{list_all, range_with_len}
use Rattle.std.proofs.lemmas.List.{ext_get_or}
use Rattle.std.proofs.lemmas.List.FromFn.{get_or-map-range_with_len, length-map-range_with_len}
use Rattle.std.proofs.lemmas.List.Sorted.{IsPermutation-map}
use Rattle.std.proofs.lemmas.Option.{slice_get-map}
use Rattle.definitions.specs.Table.{Row}
use Rattle.definitions.specs.Plans.TableSet.{TableSet, Has}
use Rattle.definitions.specs.Plans.Order.{Order}
use Rattle.definitions.specs.Plans.Conjunct.{Conjunct}
use Rattle.definitions.specs.Plans.Plan.{Plan}
use Rattle.definitions.specs.Plans.Space.{Space, whole, order_at}
use Rattle.definitions.specs.Plans.PlanSpace.{order_of, InSpace, GivesRequired}
use Rattle.definitions.specs.Queries.BoundBlock.{Condition, Block}
use Rattle.definitions.specs.Queries.Evaluation.{truth}
use Rattle.definitions.specs.Queries.Conjuncts.{conjuncts, is_late, early_conjuncts}
use Rattle.definitions.specs.Queries.Combinations.{Context, at, combinations, is_surely_true, all_hold, passing}
use Rattle.definitions.specs.Estimates.PlanConjuncts.{plan_conjunct}
use Rattle.definitions.specs.Estimates.Version.{Version}
use Rattle.definitions.specs.Estimates.BlockSpace.{space_of}
use Rattle.definitions_execution.specs.Lists.{In, Rises}
use Rattle.definitions_execution.specs.RowOrder.{NotAfter}
use Rattle.definitions_execution.specs.Stored.{Composite, Stored, value_at}
use Rattle.definitions_execution.specs.Fits.{Fits}
use Rattle.definitions_execution.specs.Passing.{applies, choices, composites, passes, passing_composites}
use Rattle.definitions_execution.specs.Running.{delivered}
use Rattle.definitions_execution.specs.OfBlock.{combination_of, stored_of, NamesOwnTables}
use Rattle.definitions_execution.specs.BlockLaws.{cell_of, GivesPassing}
use Rattle.definitions.proofs.PlanTheory.Elements.{first_is, later}
use Rattle.definitions.proofs.PlanTheory.TableSets.{whole_has}
use Rattle.definitions_execution.proofs.Members.{in_filter, from_filter, rises_map, all_by, each_of}
use Rattle.definitions_execution.proofs.RowOrders.{not_after_same}
use Rattle.definitions_execution.proofs.Steps.{applies_is, applies_from, has_passes, holds_where, choices_if}
use Rattle.definitions_execution.proofs.Plans.{delivers}
use Rattle.definitions_execution.proofs.Classes.{gives_required}
use Rattle.definitions_execution.proofs.Working.{arranges, works, composites_from}
use Rattle.definitions_execution.proofs.BlockFits.{chosen, lists_of_rows, lists_long, combination_is, condition_of, cell_is, holds_is, fits}

-- ---- lists

get_all : {X : Type 0} → (xs : List X) (d : X) → map (λ i. get_or xs i d) (range_with_len 0 (length xs)) ≡ xs
get_all xs d = ext_get_or d (map (λ i. get_or xs i d) (range_with_len 0 (length xs))) xs long (λ i l. get_or-map-range_with_len (λ j. get_or xs j d) 0 (length xs) i i d (subst (λ n. i < n) long l) (omega arith))
  where
    long : length (map (λ i. get_or xs i d) (range_with_len 0 (length xs))) ≡ length xs
    long = length-map-range_with_len (λ i. get_or xs i d) 0 (length xs)

map_append : {X Y : Type 0} → (f : X → Y) (xs ys : List X) → map f (xs ++ ys) ≡ map f xs ++ map f ys
map_append f [] ys = refl
map_append f (x ∷ xs) ys = ap (λ zs. f x ∷ zs) (map_append f xs ys)

map_flat : {X Y Z : Type 0} → (f : Y → Z) (g : X → List Y) (xs : List X) → map f (flat_map g xs) ≡ flat_map (λ x. map f (g x)) xs
map_flat f g [] = refl
map_flat f g (x ∷ xs) = map_append f (g x) (flat_map g xs) ∙ ap (λ zs. map f (g x) ++ zs) (map_flat f g xs)

flat_over : {X Y Z : Type 0} → (f : X → Y) (g : Y → List Z) (xs : List X) → flat_map g (map f xs) ≡ flat_map (λ x. g (f x)) xs
flat_over f g [] = refl
flat_over f g (x ∷ xs) = ap (λ zs. g (f x) ++ zs) (flat_over f g xs)

flat_alike : {X Y : Type 0} → (f g : X → List Y) (xs : List X) → ((x : X) → f x ≡ g x) → flat_map f xs ≡ flat_map g xs
flat_alike f g [] h = refl
flat_alike f g (x ∷ xs) h = ap₂ (λ a b. a ++ b) (h x) (flat_alike f g xs h)

map_twice : {X Y Z : Type 0} → (f : Y → Z) (g : X → Y) (xs : List X) → map f (map g xs) ≡ map (λ x. f (g x)) xs
map_twice f g [] = refl
map_twice f g (x ∷ xs) = ap (λ zs. f (g x) ∷ zs) (map_twice f g xs)

map_filter : {X Y : Type 0} → (f : X → Y) (p : X → Bool) (test : Y → Bool) (xs : List X) → ((x : X) → p x ≡ test (f x)) → map f (filter p xs) ≡ filter test (map f xs)
map_filter f p test [] h = refl
map_filter {X} {Y} f p test (x ∷ xs) h = by_test (p x) (test (f x)) (h x) (map_filter f p test xs h)
  where
    by_test : (a b : Bool) → a ≡ b → map f (filter p xs) ≡ filter test (map f xs) → map f (cond a (x ∷ filter p xs) (filter p xs)) ≡ cond b (f x ∷ filter test (map f xs)) (filter test (map f xs))
    by_test true true e r = ap (λ zs. f x ∷ zs) r
    by_test true false e r = absurd (true≢false e)
    by_test false true e r = absurd (true≢false (sym e))
    by_test false false e r = r

same_bool : (a b : Bool) → (a ≡ true → b ≡ true) → (b ≡ true → a ≡ true) → a ≡ b
same_bool true b f g = sym (f refl)
same_bool false true f g = g refl
same_bool false false f g = refl

-- what is in a list stands at a number, and the other way round
at_number : {X : Type 0} → (x : X) (xs : List X) → In x xs → (n : ℕ) × (slice_get xs n ≡ Some x)
at_number x [] i = absurd i
at_number x (y ∷ ys) (inl e) = (0, ap Some e)
at_number x (y ∷ ys) (inr i) = let (n, e) = at_number x ys i in (suc n, e)

from_number : {X : Type 0} → (x : X) (xs : List X) (n : ℕ) → slice_get xs n ≡ Some x → In x xs
from_number x [] n e = absurd (true≢false (sym (ap is_some e)))
from_number x (y ∷ ys) zero e = inl (ap (λ o. unwrap_or o y) e)
from_number x (y ∷ ys) (suc n) e = inr (from_number x ys n e)

pub at_contained : {X : Type 0} → (x : X) (xs : List X) (n : ℕ) → slice_get xs n ≡ Some x → Contains xs x
at_contained x [] n e = absurd (true≢false (sym (ap is_some e)))
at_contained x (y ∷ ys) zero e = first_is y ys x (ap (λ o. unwrap_or o y) e)
at_contained x (y ∷ ys) (suc n) e = later y ys x (at_contained x ys n e)

map_alike : {X Y : Type 0} → (f g : X → Y) (xs : List X) → ((x : X) → f x ≡ g x) → map f xs ≡ map g xs
map_alike f g [] h = refl
map_alike f g (x ∷ xs) h = ap₂ ◌∷◌ (h x) (map_alike f g xs h)

-- ---- all combinations

module _ (d : Stored) where
  composites_are : (s : TableSet) (lists : List (List Row)) (u : ℕ) → ((j : ℕ) → j < length lists → choices d s (u + j) ≡ range_with_len 0 (length (get_or lists j []))) → map (chosen lists) (composites_from d s u (length lists)) ≡ combinations lists
  composites_are s [] u f = refl
  composites_are s (rows ∷ others) u f =
      let first : choices d s u ≡ range_with_len 0 (length rows) = ap (choices d s) (omega arith) ∙ f 0 (omega arith) in
      let rest : map (chosen others) (composites_from d s (u + 1) (length others)) ≡ combinations others = composites_are s others (u + 1) (λ j l. ap (choices d s) (omega arith) ∙ f (suc j) (omega (arith, l))) in
      map_flat (chosen (rows ∷ others)) (λ r. map (λ c. r ∷ c) (composites_from d s (u + 1) (length others))) (choices d s u)
      ∙ ap (λ rs. flat_map (λ r. map (chosen (rows ∷ others)) (map (λ c. r ∷ c) (composites_from d s (u + 1) (length others)))) rs) first
      ∙ flat_alike _ (λ r. map (λ c. get_or rows r [] ∷ c) (combinations others)) (range_with_len 0 (length rows)) (λ r. map_twice (chosen (rows ∷ others)) (λ c. r ∷ c) (composites_from d s (u + 1) (length others)) ∙ sym (map_twice (λ c. get_or rows r [] ∷ c) (chosen others) (composites_from d s (u + 1) (length others))) ∙ ap (map (λ c. get_or rows r [] ∷ c)) rest)
      ∙ sym (flat_over (λ r. get_or rows r []) (λ x. map (λ c. x ∷ c) (combinations others)) (range_with_len 0 (length rows)))
      ∙ ap (λ rs. flat_map (λ x. map (λ c. x ∷ c) (combinations others)) rs) (get_all rows [])

module _ (version : Version) (context : Context) (block : Block) where
  abbrev d : Stored
  d = stored_of context block

  abbrev space : Space
  space = space_of version context.database block

  abbrev v : Fits space d
  v = fits context block version

  abbrev lists : List (List Row)
  lists = lists_of_rows context.database block

  abbrev rows_for : Composite → List Row
  rows_for = combination_of context.database block

  -- in an order of composites, so are their rows
  rows_rise : (order : Order) (l : List Composite) → Rises (NotAfter (value_at d) order) l → Rises (NotAfter cell_of order) (map rows_for l)
  rows_rise order l r = rises_map (NotAfter (value_at d) order) (NotAfter cell_of order) rows_for l (λ a b i j p. not_after_same (value_at d) cell_of order a b (rows_for a) (rows_for b) (λ k m. sym (cell_is context block k.column a)) (λ k m. sym (cell_is context block k.column b)) p) r

  pub gives_required_rows : (plan : Plan) → InSpace space plan → GivesRequired space plan → Rises (NotAfter cell_of space.required) (map rows_for (delivered space d plan))
  gives_required_rows plan r o = rows_rise space.required (delivered space d plan) (gives_required space d v plan r o)

  module _ (own : NamesOwnTables block) where
    all_apply : (n : ℕ) (k : Conjunct) (c : Condition) → slice_get space.conjuncts n ≡ Some k → slice_get (conjuncts block) n ≡ Some c → plan_conjunct context.database block c ≡ k → k.early ≡ true → applies space (whole space) n ≡ true
    all_apply n k c e f s early = applies_from space (whole space) n k e early (λ u i. whole_has space.table_count u (own c (at_contained c (conjuncts block) n f) u (subst (λ t. Has t u) (sym (ap (λ w. w.tables) s)) i)))

    -- on all tables the same combinations pass
    passes_is : (c : Composite) → passes space d (whole space) c ≡ all_hold context (early_conjuncts block) (rows_for c)
    passes_is c = same_bool _ _ there back
      where
        test : Condition → Bool
        test condition = is_surely_true (truth (at context (rows_for c)) condition)

        there : passes space d (whole space) c ≡ true → list_all test (early_conjuncts block) ≡ true
        there p = all_by test (early_conjuncts block) (λ x i.
            let (j, early) = from_filter (λ c. not (is_late c)) x (conjuncts block) i in
            let (n, e) = at_number x (conjuncts block) j in
            let f : slice_get space.conjuncts n ≡ Some (plan_conjunct context.database block x) = slice_get-map (plan_conjunct context.database block) (conjuncts block) n ∙ ap (option_map (plan_conjunct context.database block)) e in
            sym (holds_is context block n x c e) ∙ holds_where space d v (whole space) c n p (all_apply n (plan_conjunct context.database block x) x f e refl early))

        back : list_all test (early_conjuncts block) ≡ true → passes space d (whole space) c ≡ true
        back p = has_passes space d (whole space) c (length space.conjuncts) (λ n a.
            let (k, f, early, w) = applies_is space (whole space) n a in
            let (x, e, s) = condition_of context block version n k f in
            holds_is context block n x c e ∙ each_of test (early_conjuncts block) p x (in_filter (λ c. not (is_late c)) x (conjuncts block) (from_number x (conjuncts block) n e) (ap (λ w. w.early) s ∙ early)))

    count : length lists ≡ space.table_count
    count = lists_long context.database block

    all_choices : (j : ℕ) → j < length lists → choices d (whole space) (0 + j) ≡ range_with_len 0 (length (get_or lists j []))
    all_choices j l =
        let one : bit_at (whole space) j ≡ 1 = whole_has space.table_count j (subst (λ n. j < n) count l) in
        ap (choices d (whole space)) (omega arith) ∙ ap (λ b. choices_if d b (length (get_or lists j []))) one

    passing_is : passing context block ≡ map rows_for (passing_composites space d (whole space))
    passing_is =
        ap (filter (all_hold context (early_conjuncts block))) (sym (composites_are d (whole space) lists 0 all_choices) ∙ sym (map_alike rows_for (chosen lists) (composites_from d (whole space) 0 (length lists)) (combination_is context.database block)) ∙ ap (λ n. map rows_for (composites_from d (whole space) 0 n)) count)
        ∙ sym (map_filter rows_for (passes space d (whole space)) (all_hold context (early_conjuncts block)) (composites space d (whole space)) passes_is)

    pub gives_passing : (plan : Plan) → InSpace space plan → GivesPassing version context block plan
    gives_passing plan (r, e) = record {
      each = subst (λ xs. IsPermutation xs (map rows_for (delivered space d plan))) (sym passing_is) (IsPermutation-map rows_for (passing_composites space d (whole space)) (delivered space d plan) (subst (λ s. IsPermutation (passing_composites space d s) (delivered space d plan)) e (arranges space d v plan r)));
      in_order = rows_rise (order_at space (order_of space plan)) (delivered space d plan) (delivers space d v plan r).in_order;
      opened = works space d v plan r;
    }
