-- What is told of groups does not hang on their order, nor on that of their members.
use Rattle.std.proofs.Common.{◌≡◌, ◌∙◌, refl, sym, ap, ap₂, subst, List, [], ◌∷◌, ◌++◌, Bool, true, false, cond, get_or, map, arith}
use Rattle.std.specs.Prelude.{if◌then◌else◌, pos, flat_map, Contains, IsPermutation, IsSorted}
use Rattle.std.specs.List.{AllByRecursion}
use Rattle.std.proofs.lemmas.List.{append-nil}
use Rattle.std.proofs.lemmas.List.Elements.{Contains-append_left, Contains-append_right}
use Rattle.std.proofs.lemmas.List.Sorted.{length_permutation, Contains-permutation, IsPermutation-append, IsPermutation-refl, IsPermutation-sym, IsPermutation-trans}
use Rattle.definitions.specs.Value.{Value, Number}
use Rattle.definitions.specs.Table.{Row}
use Rattle.definitions.specs.Arithmetic.{Raise, Meaning, Is, Raises}
use Rattle.definitions.specs.Truth.{Truth, is_true}
use Rattle.definitions.specs.Plans.Order.{BlockColumn}
use Rattle.definitions.specs.Queries.BoundBlock.{Aggregate, CountRows, OfValues, OrderKey, Block}
use Rattle.definitions.specs.Queries.Evaluation.{Combination, Environment, and_then, on_one, value}
use Rattle.definitions.specs.Queries.Combinations.{Context, at, at_group, is_surely_true, raises_of, raises_of_where, kept}
use Rattle.definitions.specs.Queries.Grouping.{aggregate, counted, taken, function_value, groups_of, results, unless_raised, all_results}
use Rattle.definitions.specs.Queries.Laws.{AreClasses}
use Rattle.definitions.specs.Queries.Answer.{row_at, having_of, chosen_row, row_of_group, row_of_combination, is_grouped, distinct_rows, answer_after_where, block_answer}
use Rattle.definitions.specs.Queries.Outcomes.{Allowed, Rows, Exception, row_order}
use Rattle.definitions.proofs.QueryTheory.Lemmas.{groups_are_all}
use Rattle.definitions.proofs.QueryTheory.GroupClasses.{groups_are_classes}
use Rattle.definitions_execution.specs.TypedCombinations.{IsTypedCombination}
use Rattle.definitions_answers.specs.Groups.{in_one_group, joined, AreArranged, AreSameGroups}
use Rattle.definitions_answers.specs.Shapes.{Shape, HasShape, HasShapes}
use Rattle.definitions_answers.specs.GroupRows.{row_of_values, short_row, rows_in, group_raises, group_rows, HasArgumentShape, IsRegular, MeansShape, AreGroupsBy, GroupsTell}
use Rattle.definitions_answers.proofs.Aggregates.{aggregate_takes_any_order}
use Rattle.definitions_answers.proofs.Left.{repeats_in_any_order, taken_in_any_order}
use Rattle.definitions_answers.proofs.Reordered.{reordered, flat_map_arranged, nothing_arranged}
use Rattle.definitions_answers.proofs.Grouped.{groups_are_one}
use Rattle.definitions_answers.proofs.Taken.{all_arranged, all_joined, all_split, both_of, contains_either, first_among, not_longer, not_shorter, taken_there}

-- ---- lists of meanings

abbrev result_in : {X : Type 0} → Meaning X → List X
result_in (Is x) = x ∷ []
result_in (Raises r rs) = []

results_flat : {X Y : Type 0} (f : X → Meaning Y) (xs : List X) → flat_map (λ x. result_in (f x)) xs ≡ results (map f xs)
results_flat f [] = refl
results_flat {X} {Y} f (x ∷ xs) = step (f x) (results_flat f xs)
  where
    step : (m : Meaning Y) → flat_map (λ z. result_in (f z)) xs ≡ results (map f xs) → result_in m ++ flat_map (λ z. result_in (f z)) xs ≡ results (m ∷ map f xs)
    step (Is y) e = ap (λ l. y ∷ l) e
    step (Raises r rs) e = e

raises_flat : {X Y : Type 0} (f : X → Meaning Y) (xs : List X) → flat_map (λ x. raises_of (f x)) xs ≡ flat_map raises_of (map f xs)
raises_flat f [] = refl
raises_flat f (x ∷ xs) = ap (λ l. raises_of (f x) ++ l) (raises_flat f xs)

pub none_first : {X : Type 0} (xs ys : List X) → xs ++ ys ≡ [] → xs ≡ []
none_first [] ys e = refl
none_first (x ∷ xs) ys e = absurd cc

pub none_second : {X : Type 0} (xs ys : List X) → xs ++ ys ≡ [] → ys ≡ []
none_second [] ys e = e
none_second (x ∷ xs) ys e = absurd cc

-- two that tell the same: one result, or the same exceptions
abbrev AreAlike : {X : Type 0} → Meaning X → Meaning X → Type 0
AreAlike (Is x) (Is y) = x ≡ y
AreAlike (Raises r rs) (Raises q qs) = IsPermutation (r ∷ rs) (q ∷ qs)
AreAlike _ _ = ⊥

alike_itself : {X : Type 0} (m : Meaning X) → AreAlike m m
alike_itself (Is x) = refl
alike_itself (Raises r rs) = IsPermutation-refl (r ∷ rs)

alike_if : {X : Type 0} (m n : Meaning X) → m ≡ n → AreAlike m n
alike_if m n e = subst (AreAlike m) e (alike_itself m)

alike_raises : {X : Type 0} (m n : Meaning X) → AreAlike m n → IsPermutation (raises_of m) (raises_of n)
alike_raises (Is x) (Is y) h = IsPermutation-refl []
alike_raises (Raises r rs) (Raises q qs) h = h
alike_raises (Is x) (Raises q qs) h = absurd h
alike_raises (Raises r rs) (Is y) h = absurd h

alike_results : {X : Type 0} (m n : Meaning X) → AreAlike m n → raises_of m ≡ [] → m ≡ n
alike_results (Is x) (Is y) h e = ap Is h
alike_results (Raises r rs) n h e = absurd cc
alike_results (Is x) (Raises q qs) h e = absurd h

alike_after : {X Y : Type 0} (k : X → Meaning Y) (rs qs : List Raise) (x y : X) → IsPermutation rs qs → (rs ≡ [] → k x ≡ k y) → AreAlike (and_then k (unless_raised rs x)) (and_then k (unless_raised qs y))
alike_after k [] [] x y p h = alike_if (k x) (k y) (h refl)
alike_after k [] (q ∷ qs) x y p h = absurd (not_longer q qs p)
alike_after k (r ∷ rs) [] x y p h = absurd (not_shorter r rs p)
alike_after k (r ∷ rs) (q ∷ qs) x y p h = p

-- ---- set functions

module _ (context : Context) (b : Block) where
  abbrev Typed : Combination → Type 0
  Typed = IsTypedCombination context.database b

  pub shapes_of_results : (shape : Shape) (f : Combination → Meaning Value) → ((c : Combination) → Typed c → MeansShape shape (f c)) → (cs : List Combination) → AllByRecursion Typed cs → AllByRecursion (HasShape shape) (results (map f cs))
  shapes_of_results shape f has [] h = tt
  shapes_of_results shape f has (c ∷ cs) h = step (f c) (has c h.0) (shapes_of_results shape f has cs h.1)
    where
      step : (m : Meaning Value) → MeansShape shape m → AllByRecursion (HasShape shape) (results (map f cs)) → AllByRecursion (HasShape shape) (results (m ∷ map f cs))
      step (Is v) k r = (k, r)
      step (Raises q qs) k r = r

  value_alike : (f : Aggregate) → HasArgumentShape context b f → (g h : List Combination) → AllByRecursion Typed g → IsPermutation g h → AreAlike (function_value context g f) (function_value context h f)
  value_alike CountRows has g h typed p = alike_if (Is (counted g)) (Is (counted h)) (ap (λ n. Is (Number (pos n) 0)) (sym (length_permutation g h p)))
  value_alike (OfValues kind distinct argument) (shape, sums, has) g h typed p =
      let f : Combination → Meaning Value = λ c. value (at context c) argument in
      let raises : IsPermutation (flat_map raises_of (map f g)) (flat_map raises_of (map f h)) =
      subst (λ l. IsPermutation l (flat_map raises_of (map f h))) (raises_flat f g) (subst (IsPermutation (flat_map (λ c. raises_of (f c)) g)) (raises_flat f h) (flat_map_arranged (λ c. raises_of (f c)) g h p)) in
      let values : IsPermutation (results (map f g)) (results (map f h)) =
      subst (λ l. IsPermutation l (results (map f h))) (results_flat f g) (subst (IsPermutation (flat_map (λ c. result_in (f c)) g)) (results_flat f h) (flat_map_arranged (λ c. result_in (f c)) g h p)) in
      let shaped = shapes_of_results shape f has g typed in
      alike_after (λ vs. aggregate kind (taken distinct vs)) (flat_map raises_of (map f g)) (flat_map raises_of (map f h)) (results (map f g)) (results (map f h)) raises
      (λ e. sym (aggregate_takes_any_order kind shape (taken distinct (results (map f g))) (taken distinct (results (map f h))) sums (taken_there distinct shape (results (map f g)) shaped) (taken_in_any_order distinct shape (results (map f g)) (results (map f h)) shaped values)))

  values_alike : (fs : List Aggregate) → AllByRecursion (HasArgumentShape context b) fs → (g h : List Combination) → AllByRecursion Typed g → IsPermutation g h
      → IsPermutation (flat_map raises_of (map (function_value context g) fs)) (flat_map raises_of (map (function_value context h) fs))
      × (flat_map raises_of (map (function_value context g) fs) ≡ [] → map (function_value context g) fs ≡ map (function_value context h) fs)
  values_alike [] has g h typed p = (IsPermutation-refl [], λ e. refl)
  values_alike (f ∷ fs) has g h typed p =
      let one = value_alike f has.0 g h typed p in
      let (raises, same) = values_alike fs has.1 g h typed p in (
        IsPermutation-append _ _ _ _ (alike_raises (function_value context g f) (function_value context h f) one) raises,
        λ e. ap₂ (λ m ms. m ∷ ms) (alike_results (function_value context g f) (function_value context h f) one (none_first (raises_of (function_value context g f)) _ e)) (same (none_second (raises_of (function_value context g f)) _ e)),
      )

  -- ---- a group's row

  first_of_same : (g h : List Combination) → IsPermutation g h → AllByRecursion (λ x. AllByRecursion (λ y. in_one_group b.groups x y ≡ true) g) g → AllByRecursion Typed g → IsRegular context b → (values : List Value) → row_of_values context b (get_or g 0 []) values ≡ row_of_values context b (get_or h 0 []) values
  first_of_same [] h p same typed regular values = ap (λ l. row_of_values context b (get_or l 0 []) values) (sym (nothing_arranged [] h p refl))
  first_of_same (c ∷ cs) [] p same typed regular values = absurd (not_shorter c cs p)
  first_of_same (c ∷ cs) (d ∷ ds) p same typed regular values =
      let there = first_among (λ x. Typed x × (in_one_group b.groups c x ≡ true)) (c ∷ cs) d ds p (both_of Typed (λ x. in_one_group b.groups c x ≡ true) (c ∷ cs) typed same.0) in
      regular.grouped c d values typed.0 there.0 there.1

  short_alike : IsRegular context b → (g h : List Combination) → AllByRecursion Typed g → AllByRecursion (λ x. AllByRecursion (λ y. in_one_group b.groups x y ≡ true) g) g → IsPermutation g h → AreAlike (short_row context b g) (short_row context b h)
  short_alike regular g h typed same p =
      let (raises, values) = values_alike b.functions regular.functions g h typed p in
      step (flat_map raises_of (map (function_value context g) b.functions)) (flat_map raises_of (map (function_value context h) b.functions)) refl raises values
    where
      step : (rs qs : List Raise) → flat_map raises_of (map (function_value context g) b.functions) ≡ rs → IsPermutation rs qs → (rs ≡ [] → map (function_value context g) b.functions ≡ map (function_value context h) b.functions)
          → AreAlike (and_then (row_of_values context b (get_or g 0 [])) (unless_raised rs (results (map (function_value context g) b.functions)))) (and_then (row_of_values context b (get_or h 0 [])) (unless_raised qs (results (map (function_value context h) b.functions))))
      step [] [] e q v =
          alike_if _ _ (first_of_same g h p same typed regular (results (map (function_value context g) b.functions)) ∙ ap (λ ms. row_of_values context b (get_or h 0 []) (results ms)) (v refl))
      step [] (q ∷ qs) e t v = absurd (not_longer q qs t)
      step (r ∷ rs) [] e t v = absurd (not_shorter r rs t)
      step (r ∷ rs) (q ∷ qs) e t v = t

  -- ---- the row of a group as it is defined

  pub all_results_quiet : {X : Type 0} (ms : List (Meaning X)) → flat_map raises_of ms ≡ [] → ms ≡ map Is (results ms)
  all_results_quiet [] e = refl
  all_results_quiet (Is x ∷ ms) e = ap (λ l. Is x ∷ l) (all_results_quiet ms e)
  all_results_quiet (Raises r rs ∷ ms) e = absurd cc

  nil : {X : Type 0} (xs : List X) → xs ++ [] ≡ xs
  nil xs = append-nil xs

  abbrev Covers : Meaning (List Row) → Meaning (List Row) → Type 0
  Covers long short = ((e : Raise) → Contains (raises_of short) e → Contains (raises_of long) e) × (raises_of short ≡ [] → long ≡ short)

  covers_itself : (long short : Meaning (List Row)) → long ≡ short → Covers long short
  covers_itself long short e = (λ r h. subst (λ m. Contains (raises_of m) r) (sym e) h, λ h. e)

  -- HAVING and the result columns, where no set function raises
  rest_is : (env : Environment) (having : Meaning Truth)
      → unless_raised (raises_of having ++ flat_map raises_of (chosen_row (is_surely_true having) env b.items)) (results (chosen_row (is_surely_true having) env b.items))
      ≡ and_then (λ t. if is_true t then on_one (λ row. row ∷ []) (row_at env b.items) else Is []) having
  rest_is env (Raises r rs) = ap (λ l. Raises r l) (nil rs)
  rest_is env (Is t) = by_truth (is_true t)
    where
      by_row : (m : Meaning Row) → unless_raised (raises_of m ++ []) (results (m ∷ [])) ≡ on_one (λ row. row ∷ []) m
      by_row (Is row) = refl
      by_row (Raises r rs) = ap (λ l. Raises r l) (nil rs)

      by_truth : (c : Bool) → unless_raised (flat_map raises_of (chosen_row c env b.items)) (results (chosen_row c env b.items)) ≡ cond c (on_one (λ row. row ∷ []) (row_at env b.items)) (Is [])
      by_truth true = by_row (row_at env b.items)
      by_truth false = refl

  covers : (group : List Combination) → Covers (row_of_group context b group) (short_row context b group)
  covers group = step (flat_map raises_of functions) refl
    where
      functions : List (Meaning Value)
      functions = map (function_value context group) b.functions

      env : Environment
      env = at_group context functions (get_or group 0 [])

      of_having : List Raise
      of_having = raises_of (having_of env b.having)

      of_row : List Raise
      of_row = flat_map raises_of (chosen_row (is_surely_true (having_of env b.having)) env b.items)

      row : List Row
      row = results (chosen_row (is_surely_true (having_of env b.having)) env b.items)

      step : (rs : List Raise) → flat_map raises_of functions ≡ rs → Covers (unless_raised ((rs ++ of_having) ++ of_row) row) (and_then (row_of_values context b (get_or group 0 [])) (unless_raised rs (results functions)))
      step (r ∷ rs) e = (λ q h. Contains-append_left ((r ∷ rs) ++ of_having) of_row q (Contains-append_left (r ∷ rs) of_having q h), λ h. absurd cc)
      step [] e = covers_itself _ _ (rest_is env (having_of env b.having) ∙ ap (λ fs. and_then (λ t. if is_true t then on_one (λ v. v ∷ []) (row_at (at_group context fs (get_or group 0 [])) b.items) else Is []) (having_of (at_group context fs (get_or group 0 [])) b.having)) (all_results_quiet functions e))

  -- ---- lists of groups

  abbrev Uniform : List Combination → Type 0
  Uniform g = AllByRecursion Typed g × AllByRecursion (λ x. AllByRecursion (λ y. in_one_group b.groups x y ≡ true) g) g

  -- groups that have the same members
  arranged_alike : IsRegular context b → (fs hs : List (List Combination)) → AllByRecursion Uniform fs → AreArranged fs hs
      → IsPermutation (group_raises context b fs) (group_raises context b hs) × (group_raises context b fs ≡ [] → group_rows context b fs ≡ group_rows context b hs)
  arranged_alike regular [] [] u a = (IsPermutation-refl [], λ e. refl)
  arranged_alike regular [] (h ∷ hs) u a = absurd a
  arranged_alike regular (f ∷ fs) [] u a = absurd a
  arranged_alike regular (f ∷ fs) (h ∷ hs) u a =
      let one = short_alike regular f h u.0.0 u.0.1 a.0 in
      let (raises, rows) = arranged_alike regular fs hs u.1 a.1 in (
        IsPermutation-append _ _ _ _ (alike_raises (short_row context b f) (short_row context b h) one) raises,
        λ e. ap₂ (λ m l. rows_in m ++ l) (alike_results (short_row context b f) (short_row context b h) one (none_first (raises_of (short_row context b f)) _ e)) (rows (none_second (raises_of (short_row context b f)) _ e)),
      )

  same_groups : IsRegular context b → (gs hs : List (List Combination)) → AllByRecursion Uniform gs → AreSameGroups gs hs
      → IsPermutation (group_raises context b gs) (group_raises context b hs) × (group_raises context b hs ≡ [] → IsPermutation (group_rows context b gs) (group_rows context b hs))
  same_groups regular gs hs u (fs, p, a) =
      let (raises, rows) = arranged_alike regular fs hs (all_arranged Uniform gs fs (reordered gs fs p) u) a in
      let first = flat_map_arranged (λ group. raises_of (short_row context b group)) gs fs p in (
        IsPermutation-trans _ _ _ first raises,
        λ e. subst (IsPermutation (group_rows context b gs)) (rows (nothing_arranged _ _ (IsPermutation-sym _ _ raises) e)) (flat_map_arranged (λ group. rows_in (short_row context b group)) gs fs p),
      )

  -- what covers each covers all
  abbrev long_raises : List (List Combination) → List Raise
  long_raises gs = flat_map raises_of (map (row_of_group context b) gs)

  all_covered : (gs : List (List Combination)) → (e : Raise) → Contains (group_raises context b gs) e → Contains (long_raises gs) e
  all_covered [] e h = h
  all_covered (g ∷ gs) e h = contains_either (raises_of (short_row context b g)) (group_raises context b gs) e h
      (λ k. Contains-append_left (raises_of (row_of_group context b g)) (long_raises gs) e ((covers g).0 e k))
      (λ k. Contains-append_right (raises_of (row_of_group context b g)) (long_raises gs) e (all_covered gs e k))

  all_quiet : (gs : List (List Combination)) → group_raises context b gs ≡ [] → (long_raises gs ≡ []) × (joined (results (map (row_of_group context b) gs)) ≡ group_rows context b gs)
  all_quiet [] e = (refl, refl)
  all_quiet (g ∷ gs) e =
      let is : row_of_group context b g ≡ short_row context b g = (covers g).1 (none_first (raises_of (short_row context b g)) _ e) in
      let (quiet, rows) = all_quiet gs (none_second (raises_of (short_row context b g)) _ e) in (
        ap₂ (λ m l. raises_of m ++ l) is quiet ∙ ap (λ l. l ++ []) (none_first (raises_of (short_row context b g)) _ e),
        ap (λ m. joined (results (m ∷ map (row_of_group context b) gs))) is ∙ by_result (short_row context b g) (none_first (raises_of (short_row context b g)) _ e) ∙ ap (λ l. rows_in (short_row context b g) ++ l) rows,
      )
    where
      by_result : (m : Meaning (List Row)) → raises_of m ≡ [] → joined (results (m ∷ map (row_of_group context b) gs)) ≡ rows_in m ++ joined (results (map (row_of_group context b) gs))
      by_result (Is rows) h = refl
      by_result (Raises r rs) h = absurd cc

  -- ---- the answer

  uniform_of : (gs : List (List Combination)) → AllByRecursion Typed (joined gs) → AreClasses (in_one_group b.groups) gs → AllByRecursion Uniform gs
  uniform_of [] h c = tt
  uniform_of (g ∷ gs) h c = let (own, others) = all_split Typed g (joined gs) h in ((own, c.0), uniform_of gs others c.2)

  typed_only : (gs : List (List Combination)) → AllByRecursion Uniform gs → IsRegular context b → (shapes : List Shape)
      → ((group : List Combination) → AllByRecursion Typed group → AllByRecursion (HasShapes shapes) (rows_in (short_row context b group))) → AllByRecursion (HasShapes shapes) (group_rows context b gs)
  typed_only [] u regular shapes f = tt
  typed_only (g ∷ gs) u regular shapes f = all_joined (HasShapes shapes) (rows_in (short_row context b g)) (group_rows context b gs) (f g u.0.0) (typed_only gs u.1 regular shapes f)

  told_raise : (f : List (List Row) → List Row) (rs : List Raise) (x : List (List Row)) (keys : List OrderKey) (e : Raise) → Contains rs e → Allowed (on_one f (unless_raised rs x)) keys (Exception e)
  told_raise f [] x keys e h = absurd (omega (arith, h.1))
  told_raise f (r ∷ rs) x keys e h = h

  left_alike : (d : Bool) (shapes : List Shape) (rows others : List Row) → (d ≡ true → AllByRecursion (HasShapes shapes) rows) → IsPermutation rows others → IsPermutation (distinct_rows d rows) (distinct_rows d others)
  left_alike true shapes rows others h p = repeats_in_any_order shapes rows others (h refl) p
  left_alike false shapes rows others h p = p

  abbrev groups : List (List Combination)
  groups = groups_of b.groups (kept context b)

  abbrev left_of : List (List Row) → List Row
  left_of lists = distinct_rows b.distinct (joined lists)

  answer_is : is_grouped b ≡ true → raises_of_where context b ≡ [] → block_answer context b ≡ on_one left_of (unless_raised (long_raises groups) (results (map (row_of_group context b) groups)))
  answer_is grouped quiet =
      ap (λ rs. answer_after_where rs context b) quiet
      ∙ ap (λ t. on_one left_of (all_results (cond t (map (row_of_group context b) groups) (map (row_of_combination context b) (kept context b))))) grouped

  told : IsRegular context b → AllByRecursion Typed (kept context b) → is_grouped b ≡ true → raises_of_where context b ≡ [] → (found : List (List Combination)) (keys : List OrderKey) → AreSameGroups groups found
      → ((raise : Raise) → Contains (group_raises context b found) raise → Allowed (block_answer context b) keys (Exception raise))
      × ((rows : List Row) → group_raises context b found ≡ [] → IsPermutation (distinct_rows b.distinct (group_rows context b found)) rows → IsSorted (row_order keys) rows → Allowed (block_answer context b) keys (Rows rows))
  told regular typed grouped quiet found keys same =
      let all = all_arranged Typed (kept context b) (joined groups) (reordered (kept context b) (joined groups) (groups_are_all b.groups (kept context b))) typed in
      let u = uniform_of groups all (groups_are_classes b.groups (kept context b)) in
      let (raises, rows) = same_groups regular groups found u same in
      let is = answer_is grouped quiet in (
        λ e h. subst (λ m. Allowed m keys (Exception e)) (sym is)
            (told_raise left_of (long_raises groups) (results (map (row_of_group context b) groups)) keys e (all_covered groups e (Contains-permutation (group_raises context b found) (group_raises context b groups) e (IsPermutation-sym (group_raises context b groups) (group_raises context b found) raises) h))),
        λ list none p sorted.
            let none' : group_raises context b groups ≡ [] = nothing_arranged (group_raises context b found) (group_raises context b groups) (IsPermutation-sym (group_raises context b groups) (group_raises context b found) raises) none in
            let (quiet', joined_is) = all_quiet groups none' in
            let is' : block_answer context b ≡ Is (distinct_rows b.distinct (group_rows context b groups)) =
            is ∙ ap (λ rs. on_one left_of (unless_raised rs (results (map (row_of_group context b) groups)))) quiet' ∙ ap (λ l. Is (distinct_rows b.distinct l)) joined_is in
            let left : IsPermutation (distinct_rows b.distinct (group_rows context b groups)) (distinct_rows b.distinct (group_rows context b found)) =
            left_alike b.distinct regular.shapes (group_rows context b groups) (group_rows context b found) (λ distinct. typed_only groups u regular regular.shapes (regular.rows distinct)) (rows none) in
            subst (λ m. Allowed m keys (Rows list)) (sym is') (IsPermutation-trans (distinct_rows b.distinct (group_rows context b groups)) (distinct_rows b.distinct (group_rows context b found)) list left p, sorted),
      )

found_same : (columns : List BlockColumn) (cs : List Combination) (groups : List (List Combination)) → AreGroupsBy columns cs groups → AreSameGroups (groups_of columns cs) groups
found_same [] cs found (all, p, e) = subst (AreSameGroups (cs ∷ [])) (sym e) (cs ∷ [], IsPermutation-refl (cs ∷ []), (p, tt))
found_same (column ∷ columns) cs found are = groups_are_one column columns cs found are

pub groups_tell : GroupsTell
groups_tell context b found keys grouped quiet typed regular are = told context b regular typed grouped quiet found keys (found_same b.groups (kept context b) found are)
