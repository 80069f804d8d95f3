-- Values by their rank: how they compare with a value, and whether all can be compared with it.
use Rattle.std.proofs.Common.{◌≡◌, ◌∙◌, ◌⊎◌, refl, sym, ap, subst, inl, inr, ⊎_elim, ℕ, zero, suc, ◌-◌, ◌<◌, ◌≤◌, List, [], ◌∷◌, Bool, true, false, Some, None, length, map, get_or, arith}
use Rattle.std.specs.Prelude.{All, IsSome, IsSortedByKey, Option, option_map}
use Rattle.std.specs.Cmp.{IsStrictWeakOrder, tied_back}
use Rattle.std.specs.List.{AllByRecursion}
use Rattle.std.specs.List.Sorted.{IsPartitionedBy, IsPartitionPoint}
use Rattle.std.specs.Ordering.{is_le, is_lt, ordering_reverse}
use Rattle.std.specs.declared.cmp.Ordering.{Ordering}
use Rattle.std.specs.declared.cmp.Ordering.TheVariants.{Less, Equal, Greater}
use Rattle.std.proofs.lemmas.Bool.{cases_lt}
use Rattle.std.proofs.lemmas.List.{get_or-map, length-map}
use Rattle.std.proofs.lemmas.List.Elements.{All-from_recursion, recursion_from_All}
use Rattle.std.proofs.lemmas.List.Sorted.{ranks_by, sorted_far}
use Rattle.definitions.specs.Statement.{ComparisonOperator}
use Rattle.definitions.specs.Truth.{Truth, False, Unknown, True, agrees, compared, compared_with_any, known, known_or_unknown, or}
use Rattle.definitions.specs.Value.{Value, Null, Number, Text, compare, rank}
use Rattle.definitions.proofs.Ranking.{rank_as_compared, rank_total}
use Rattle.subqueries.specs.Comparing.{HasAgreeing, HasOrder, HasOrderAt}

-- ---- three values

standing : IsStrictWeakOrder (λ (a b : Value). is_lt (rank a b))
standing = ranks_by rank_total (λ (a : Value). a)

-- what ranks no higher than one before a value is before it too
before_too : (a b v : Value) → is_lt (rank b a) ≡ false → is_lt (rank b v) ≡ true → is_lt (rank a v) ≡ true
before_too a b v h less = of (is_lt (rank a v)) refl
  where
    of : (t : Bool) → is_lt (rank a v) ≡ t → is_lt (rank a v) ≡ true
    of true e = e
    of false e = let back : is_lt (rank b v) ≡ false = standing.chain b a v h e in absurd cc

middle : (o : Ordering) → is_lt o ≡ false → is_lt (ordering_reverse o) ≡ false → o ≡ Equal
middle Less h k = absurd cc
middle Equal h k = refl
middle Greater h k = absurd cc

-- what stands between a value and one of its rank has its rank
squeezed : (a b v : Value) → is_lt (rank a v) ≡ false → is_lt (rank b a) ≡ false → rank v b ≡ Equal → rank v a ≡ Equal
squeezed a b v h k e = middle (rank v a) (ap is_lt (rank_total.congr v b a e) ∙ k) (ap is_lt (sym (rank_total.antisymm a v)) ∙ h)

-- what ranks no higher than one up to a value is up to it too
not_above : (o : Ordering) → is_le o ≡ true → is_lt (ordering_reverse o) ≡ false
not_above Less h = refl
not_above Equal h = refl
not_above Greater h = absurd cc

up_to : (o : Ordering) → is_lt (ordering_reverse o) ≡ false → is_le o ≡ true
up_to Less h = refl
up_to Equal h = refl
up_to Greater h = absurd cc

through_too : (a b v : Value) → is_lt (rank b a) ≡ false → is_le (rank b v) ≡ true → is_le (rank a v) ≡ true
through_too a b v h le =
    let higher : is_lt (rank v b) ≡ false = ap is_lt (rank_total.antisymm v b) ∙ not_above (rank b v) le in
    up_to (rank a v) (ap is_lt (sym (rank_total.antisymm v a)) ∙ standing.chain v b a higher h)

less_is : (o : Ordering) → is_lt o ≡ true → o ≡ Less
less_is Less h = refl
less_is Equal h = absurd cc
less_is Greater h = absurd cc

greater_is : (o : Ordering) → is_le o ≡ false → o ≡ Greater
greater_is Less h = absurd cc
greater_is Equal h = absurd cc
greater_is Greater h = refl

turned : (a b : Value) (o : Ordering) → rank a b ≡ o → rank b a ≡ ordering_reverse o
turned a b o e = rank_total.antisymm b a ∙ ap ordering_reverse e

-- what can be compared with a value compares as it ranks
ranked_so : (v w : Value) (o : Ordering) → IsSome (compare v w) → rank v w ≡ o → compare v w ≡ Some o
ranked_so Null Null o s e = absurd cc
ranked_so Null (Number x n) o s e = absurd cc
ranked_so Null (Text x) o s e = absurd cc
ranked_so (Number u m) Null o s e = absurd cc
ranked_so (Number u m) (Number x n) o s e = ap Some e
ranked_so (Number u m) (Text x) o s e = absurd cc
ranked_so (Text u) Null o s e = absurd cc
ranked_so (Text u) (Number x n) o s e = absurd cc
ranked_so (Text u) (Text x) o s e = ap Some e

-- then it can be compared with itself
with_itself : (v w : Value) → IsSome (compare v w) → IsSome (compare v v)
with_itself Null Null s = absurd cc
with_itself Null (Number x n) s = absurd cc
with_itself Null (Text x) s = absurd cc
with_itself (Number u m) w s = refl
with_itself (Text u) w s = refl

given : (o : Option Ordering) (r : Ordering) → o ≡ Some r → IsSome o
given None r e = absurd cc
given (Some q) r e = refl

-- what stands between two that can be compared with a value can be
between : (v a w b : Value) → is_lt (rank w a) ≡ false → is_lt (rank b w) ≡ false → IsSome (compare v a) → IsSome (compare v b) → IsSome (compare v w)
between Null Null w b h k s t = absurd cc
between Null (Number x n) w b h k s t = absurd cc
between Null (Text x) w b h k s t = absurd cc
between (Number u m) Null w b h k s t = absurd cc
between (Number u m) (Text x) w b h k s t = absurd cc
between (Number u m) (Number x n) w Null h k s t = absurd cc
between (Number u m) (Number x n) w (Text y) h k s t = absurd cc
between (Number u m) (Number x n) Null (Number y l) h k s t = absurd cc
between (Number u m) (Number x n) (Number z o) (Number y l) h k s t = refl
between (Number u m) (Number x n) (Text z) (Number y l) h k s t = absurd cc
between (Text u) Null w b h k s t = absurd cc
between (Text u) (Number x n) w b h k s t = absurd cc
between (Text u) (Text x) w Null h k s t = absurd cc
between (Text u) (Text x) w (Number y l) h k s t = absurd cc
between (Text u) (Text x) Null (Text y) h k s t = absurd cc
between (Text u) (Text x) (Number z o) (Text y) h k s t = absurd cc
between (Text u) (Text x) (Text z) (Text y) h k s t = refl

-- ---- the first of several comparisons, and the rest

abbrev truth_by : ComparisonOperator → Option Ordering → Truth
truth_by op o = known_or_unknown (option_map (agrees op) o)

or_true : (t : Truth) → or t True ≡ True
or_true False = refl
or_true Unknown = refl
or_true True = refl

first_or_rest : (op : ComparisonOperator) (o : Option Ordering) (t : Truth) → or (truth_by op o) t ≡ True → ((r : Ordering) × (agrees op r ≡ true) × (o ≡ Some r)) ⊎ (t ≡ True)
first_or_rest op None False e = absurd cc
first_or_rest op None Unknown e = absurd cc
first_or_rest op None True e = inr refl
first_or_rest op (Some r) t e = by_answer (agrees op r) refl e
  where
    by_answer : (b : Bool) → agrees op r ≡ b → or (known b) t ≡ True → ((q : Ordering) × (agrees op q ≡ true) × (Some r ≡ Some q)) ⊎ (t ≡ True)
    by_answer true a e = inl (r, a, refl)
    by_answer false a e = inr e

rest_unknown : (op : ComparisonOperator) (o : Option Ordering) (t : Truth) → IsSome o → or (truth_by op o) t ≡ Unknown → t ≡ Unknown
rest_unknown op None t s e = absurd cc
rest_unknown op (Some r) t s e = by_answer (agrees op r) e
  where
    by_answer : (b : Bool) → or (known b) t ≡ Unknown → t ≡ Unknown
    by_answer true e = absurd cc
    by_answer false e = e

both_false : (op : ComparisonOperator) (o : Option Ordering) (t : Truth) → or (truth_by op o) t ≡ False → IsSome o × (t ≡ False)
both_false op None False e = absurd cc
both_false op None Unknown e = absurd cc
both_false op None True e = absurd cc
both_false op (Some r) t e = by_answer (agrees op r) e
  where
    by_answer : (b : Bool) → or (known b) t ≡ False → IsSome (Some r) × (t ≡ False)
    by_answer true e = absurd cc
    by_answer false e = (refl, e)

-- ---- a value of which no comparison is true: false where all can be compared with it, and else unknown

only_false : (t : Truth) → (t ≡ True → ⊥) → (t ≡ Unknown → ⊥) → False ≡ t
only_false False n m = refl
only_false Unknown n m = absurd (m refl)
only_false True n m = absurd (n refl)

only_unknown : (t : Truth) → (t ≡ True → ⊥) → (t ≡ False → ⊥) → Unknown ≡ t
only_unknown False n m = absurd (m refl)
only_unknown Unknown n m = refl
only_unknown True n m = absurd (n refl)

module _ (v : Value) where
  abbrev CanCompare : Value → Type 0
  CanCompare w = IsSome (compare v w)

  module _ (op : ComparisonOperator) where
    abbrev any : List Value → Truth
    any = compared_with_any op v

    all_known : (ws : List Value) → AllByRecursion CanCompare ws → any ws ≡ Unknown → ⊥
    all_known [] all e = absurd cc
    all_known (w ∷ ws) all e = all_known ws all.1 (rest_unknown op (compare v w) (any ws) all.0 e)

    all_can : (ws : List Value) → any ws ≡ False → AllByRecursion CanCompare ws
    all_can [] e = tt
    all_can (w ∷ ws) e = let both = both_false op (compare v w) (any ws) e in (both.0, all_can ws both.1)

    pub is_false : (ws : List Value) → (any ws ≡ True → ⊥) → All CanCompare ws → False ≡ any ws
    is_false ws none all = only_false (any ws) none (all_known ws (recursion_from_All CanCompare ws all))

    pub is_unknown : (ws : List Value) → (any ws ≡ True → ⊥) → (All CanCompare ws → ⊥) → Unknown ≡ any ws
    is_unknown ws none not_all = only_unknown (any ws) none (λ e. not_all (All-from_recursion CanCompare ws (all_can ws e)))

    -- a comparison is true where the operator asks for one of the orders
    pub agreeing_is_true : (o : Ordering) (ws : List Value) → HasAgreeing op o v ws → any ws ≡ True
    agreeing_is_true o [] (a, (k, lt, e)) = absurd (omega (arith, lt))
    agreeing_is_true o (w ∷ ws) (a, (zero, lt, e)) = rw (e, a) refl
    agreeing_is_true o (w ∷ ws) (a, (suc k, lt, e)) = ap (or (compared op v w)) (agreeing_is_true o ws (a, (k, omega (arith, lt), e))) ∙ or_true (compared op v w)

    later : (w : Value) (ws : List Value) → (o : Ordering) × HasAgreeing op o v ws → (o : Ordering) × HasAgreeing op o v (w ∷ ws)
    later w ws (o, (a, (k, lt, e))) = (o, (a, (suc k, omega (arith, lt), e)))

    one_agrees : (ws : List Value) → any ws ≡ True → (o : Ordering) × HasAgreeing op o v ws
    one_agrees [] e = absurd cc
    one_agrees (w ∷ ws) e =
        ⊎_elim (λ (here : (r : Ordering) × (agrees op r ≡ true) × (compare v w ≡ Some r)). (here.0, (here.1, (0, omega arith, here.2)))) (λ (rest : any ws ≡ True). later w ws (one_agrees ws rest))
        (first_or_rest op (compare v w) (any ws) e)

    pub last_agrees : (ws : List Value) → (HasAgreeing op Equal v ws → ⊥) → (HasAgreeing op Less v ws → ⊥) → any ws ≡ True → HasAgreeing op Greater v ws
    last_agrees ws n l e = of (one_agrees ws e)
      where
        of : (o : Ordering) × HasAgreeing op o v ws → HasAgreeing op Greater v ws
        of (Equal, h) = absurd (n h)
        of (Less, h) = absurd (l h)
        of (Greater, h) = h

  -- ---- a place

  pub there_at : (o : Ordering) (ws : List Value) (place : ℕ) → HasOrderAt place o v ws → HasOrder o v ws
  there_at o [] place e = absurd cc
  there_at o (w ∷ ws) zero e = let is : compare v w ≡ Some o = cc in (0, omega arith, is)
  there_at o (w ∷ ws) (suc n) e = let rest = there_at o ws n e in (suc rest.0, omega (arith, rest.1), rest.2)

  -- ---- elements that are seen as values

  module _ {X : Type 0} (view : X → Value) where
    abbrev seen : List X → List Value
    seen = map view

    abbrev Compares : Ordering → List X → ℕ → Type 0
    Compares o xs i = (d : X) → compare v (view (get_or xs i d)) ≡ Some o

    pub at_place : (o : Ordering) (xs : List X) (i : ℕ) → i < length xs → Compares o xs i → HasOrderAt i o v (seen xs)
    at_place o [] i h at = absurd (omega (arith, h))
    at_place o (x ∷ xs) zero h at = ap Some (at x)
    at_place o (x ∷ xs) (suc i) h at = at_place o xs i (omega (arith, h)) at

    pub compares_at : (o : Ordering) (xs : List X) (i : ℕ) (d : X) → HasOrderAt i o v (seen xs) → (i < length xs) × (compare v (view (get_or xs i d)) ≡ Some o)
    compares_at o [] i d e = absurd cc
    compares_at o (x ∷ xs) zero d e = let is : compare v (view x) ≡ Some o = cc in (omega arith, is)
    compares_at o (x ∷ xs) (suc i) d e = let rest = compares_at o xs i d e in (omega (arith, rest.0), rest.1)

    -- an element, by its place, that compares so
    abbrev IsThere : Ordering → List X → Type 0
    IsThere o xs = (i : ℕ) × X × (i < length xs) × Compares o xs i

    one_later : (o : Ordering) (x : X) (xs : List X) → IsThere o xs → IsThere o (x ∷ xs)
    one_later o x xs (i, y, h, at) = (suc i, y, omega (arith, h), at)

    where_it_is : (o : Ordering) (xs : List X) → HasOrder o v (seen xs) → IsThere o xs
    where_it_is o [] (k, lt, e) = absurd (omega (arith, lt))
    where_it_is o (x ∷ xs) (zero, lt, e) = (0, x, omega arith, λ d. e)
    where_it_is o (x ∷ xs) (suc k, lt, e) = one_later o x xs (where_it_is o xs (k, omega (arith, lt), e))

    pub none_can : (xs : List X) → length xs ≡ 0 → All CanCompare (seen xs)
    none_can xs none i d h = absurd (omega (arith, h, length-map xs view, none))

    pub one_can : (xs : List X) (i : ℕ) (d : X) → i < length xs → All CanCompare (seen xs) → CanCompare (view (get_or xs i d))
    one_can xs i d h all = subst CanCompare (get_or-map view xs i d (view d) h) (all i (view d) (omega (arith, h, length-map xs view)))

    -- ---- in the order of their rank

    module _ (xs : List X) (sorted : IsSortedByKey view rank xs) where
      rises : (i j : ℕ) (d : X) → i ≤ j → j < length xs → is_lt (rank (view (get_or xs j d)) (view (get_or xs i d))) ≡ false
      rises = sorted_far (λ (x y : X). is_lt (rank (view x) (view y))) (ranks_by rank_total view) xs sorted

      abbrev pub Before : X → Bool
      Before x = is_lt (rank (view x) v)

      abbrev pub Through : X → Bool
      Through x = is_le (rank (view x) v)

      pub parted : IsPartitionedBy Before xs
      parted i j d h l less = before_too (view (get_or xs i d)) (view (get_or xs j d)) v (rises i j d h l) less

      pub parted_through : IsPartitionedBy Through xs
      parted_through i j d h l le = through_too (view (get_or xs i d)) (view (get_or xs j d)) v (rises i j d h l) le

      abbrev EndsAt : (X → Bool) → ℕ → Type 0
      EndsAt passes place = IsPartitionPoint (λ x. passes x ≡ true) (λ x. passes x ≡ false) xs place

      -- one that compares as equal stands where those end that rank before
      pub equal_at : (place : ℕ) → EndsAt Before place → HasOrder Equal v (seen xs) → HasOrderAt place Equal v (seen xs)
      equal_at place point has = let there = where_it_is Equal xs has in of there.0 there.1 there.2 there.3 (cases_lt there.0 place)
        where
          of : (i : ℕ) (x : X) → i < length xs → Compares Equal xs i → (i < place) ⊎ (place ≤ i) → HasOrderAt place Equal v (seen xs)
          of i x h at (inl lt) =
              let w = view (get_or xs i x) in
              let before : is_lt (rank w v) ≡ true = point.0 i x (omega arith) lt in
              let level : is_lt (rank w v) ≡ false = ap is_lt (tied_back rank_total v w (rank_as_compared v w Equal (at x))) in
              absurd cc
          of i x h at (inr ge) =
              at_place Equal xs place (omega (arith, h, ge))
              (λ d.
              let w = view (get_or xs i d) in
              let here = view (get_or xs place d) in
              let not_before : is_lt (rank here v) ≡ false = point.1 place d (omega arith) (omega (arith, h, ge)) in
              let not_behind = rises place i d ge h in
              let can = given (compare v w) Equal (at d) in
              ranked_so v here Equal (between v v here w not_before not_behind (with_itself v w can) can) (squeezed here w v not_before not_behind (rank_as_compared v w Equal (at d))))

      -- where one compares as greater, the first does behind those that rank before or with it
      pub less_at : (place : ℕ) → EndsAt Through place → HasOrder Less v (seen xs) → HasOrderAt place Less v (seen xs)
      less_at place point has = let there = where_it_is Less xs has in of there.0 there.1 there.2 there.3 (cases_lt there.0 place)
        where
          of : (i : ℕ) (x : X) → i < length xs → Compares Less xs i → (i < place) ⊎ (place ≤ i) → HasOrderAt place Less v (seen xs)
          of i x h at (inl lt) =
              let w = view (get_or xs i x) in
              let through : is_le (rank w v) ≡ true = point.0 i x (omega arith) lt in
              let behind : is_le (rank w v) ≡ false = ap is_le (turned v w Less (rank_as_compared v w Less (at x))) in
              absurd cc
          of i x h at (inr ge) =
              at_place Less xs place (omega (arith, h, ge))
              (λ d.
              let w = view (get_or xs i d) in
              let here = view (get_or xs place d) in
              let behind : rank here v ≡ Greater = greater_is (rank here v) (point.1 place d (omega arith) (omega (arith, h, ge))) in
              let can = given (compare v w) Less (at d) in
              ranked_so v here Less (between v v here w (ap is_lt behind) (rises place i d ge h) (with_itself v w can) can) (turned here v Greater behind))

      -- where one compares as less, the last does of those that rank before it
      pub greater_at : (place : ℕ) → place ≤ length xs → EndsAt Before place → HasOrder Greater v (seen xs) → (0 < place) × HasOrderAt (place - 1) Greater v (seen xs)
      greater_at place within point has = let there = where_it_is Greater xs has in of there.0 there.1 there.2 there.3 (cases_lt there.0 place)
        where
          of : (i : ℕ) (x : X) → i < length xs → Compares Greater xs i → (i < place) ⊎ (place ≤ i) → (0 < place) × HasOrderAt (place - 1) Greater v (seen xs)
          of i x h at (inl lt) =
              let last : place - 1 < length xs = omega (arith, within, lt) in (
                omega (arith, lt),
                at_place Greater xs (place - 1) last
                    (λ d.
                    let w = view (get_or xs i d) in
                    let here = view (get_or xs (place - 1) d) in
                    let before : rank here v ≡ Less = less_is (rank here v) (point.0 (place - 1) d (omega arith) (omega (arith, lt))) in
                    let can = given (compare v w) Greater (at d) in
                    ranked_so v here Greater (between v w here v (rises i (place - 1) d (omega (arith, lt)) last) (ap is_lt (turned here v Less before)) can (with_itself v w can)) (turned here v Less before)),
              )
          of i x h at (inr ge) =
              let w = view (get_or xs i x) in
              let before : is_lt (rank w v) ≡ true = ap is_lt (turned v w Greater (rank_as_compared v w Greater (at x))) in
              let behind : is_lt (rank w v) ≡ false = point.1 i x ge h in
              absurd cc

      -- all can be compared where the first and the last can
      pub all_by_ends : (d : X) → CanCompare (view (get_or xs 0 d)) → CanCompare (view (get_or xs (length xs - 1) d)) → All CanCompare (seen xs)
      all_by_ends d first last i e h =
          let l : i < length xs = omega (arith, h, length-map xs view) in
          subst CanCompare (sym (get_or-map view xs i d e l))
          (between v (view (get_or xs 0 d)) (view (get_or xs i d)) (view (get_or xs (length xs - 1) d)) (rises 0 i d (omega arith) l) (rises i (length xs - 1) d (omega (arith, l)) (omega (arith, l))) first last)
