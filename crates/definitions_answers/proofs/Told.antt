-- What conditions see of subqueries.
use Rattle.std.proofs.Common.{◌≡◌, ◌⊎◌, inl, inr, true, refl, sym, ap, ap₂, ◌∙◌, subst, ℕ, List, [], ◌∷◌, Some, None, Option, Result, Ok, Err, map, arith, lit<}
use Rattle.std.specs.Prelude.{flat_map, get_or, Contains, IsPermutation}
use Rattle.std.specs.List.{AllByRecursion}
use Rattle.std.proofs.lemmas.List.Elements.{recursion_from_All, All-contains_itself, All-cons, All-nil}
use Rattle.std.proofs.lemmas.List.Sorted.{All-permutation, length_permutation, IsPermutation-map}
use Rattle.definitions.specs.Value.{Value, Null, is_null}
use Rattle.definitions.specs.Table.{Row}
use Rattle.definitions.specs.Statement.{ComparisonOperator, Equals, GreaterOrEquals, LessOrEquals, Quantifier}
use Rattle.definitions.specs.Statement as s
use Rattle.definitions.specs.Arithmetic.{Raise, Cardinality, Meaning, Is, Raises, raised}
use Rattle.definitions.specs.Truth.{and, opposite, all_true, any_true, compared, compared_with_any, unless, known, has_row}
use Rattle.definitions.specs.Pattern.{like}
use Rattle.definitions.specs.Queries.BoundBlock as b
use Rattle.definitions.specs.Queries.BoundBlock.{ValueExpr, Operands, Condition, Conditions}
use Rattle.definitions.specs.Queries.Conjuncts.{member_values, values_of, values_of_parts, tested_blocks, tested_blocks_of_parts, blocks_in, operand_blocks, blocks_of, compared_blocks, compared_blocks_of_parts}
use Rattle.definitions.specs.Queries.Evaluation.{Environment, value, chained, truth, truths, member, in_order, only_value, column_values, quantified, operation, signed, and_then, and_then_two, on_one, on_two}
use Rattle.definitions.specs.Queries.Telling.{StandsFor}
use Rattle.definitions.proofs.QueryTheory.Lemmas.{order_says_nothing}
use Rattle.definitions_answers.specs.Seen.{seen_blocks}
use Rattle.definitions_answers.specs.Told.{Tells, TellsAsked, TellsRows, meaning_told, values_asked, ConditionsSeeWhatIsTold}
use Rattle.definitions_answers.proofs.Elements.{all_both, all_first, all_flat, all_joined, all_weaker}

abbrev Same : {X : Type 0} → X → X → Type 0
Same x y = x ≡ y

-- what is made of one operand
then_stands : {X Y : Type 0} (Alike : X → X → Type 0) (Alike' : Y → Y → Type 0) (f g : X → Meaning Y) → ((x y : X) → Alike x y → StandsFor Alike' (f x) (g y)) → (m n : Meaning X) → StandsFor Alike m n → StandsFor Alike' (and_then f m) (and_then g n)
then_stands Alike Alike' f g h (Is x) (Is y) l = h x y l
then_stands Alike Alike' f g h (Is x) (Raises r rs) l = absurd l
then_stands Alike Alike' f g h (Raises r rs) (Is y) l = absurd l
then_stands Alike Alike' f g h (Raises r rs) (Raises q qs) l = l

-- of two
two_stand : {X Y Z : Type 0} (Alike : X → X → Type 0) (Alike' : Y → Y → Type 0) (Alike'' : Z → Z → Type 0) (f g : X → Y → Meaning Z) → ((x x' : X) (y y' : Y) → Alike x x' → Alike' y y' → StandsFor Alike'' (f x y) (g x' y'))
    → (m m' : Meaning X) (n n' : Meaning Y) → StandsFor Alike m m' → StandsFor Alike' n n' → StandsFor Alike'' (and_then_two f m n) (and_then_two g m' n')
two_stand Alike Alike' Alike'' f g h m m' n n' l k = then_stands Alike Alike'' (λ x. and_then (f x) n) (λ x. and_then (g x) n') (λ x x' a. then_stands Alike' Alike'' (f x) (g x') (λ y y' c. h x x' y y' a c) n n' k) m m' l

one_same : {X Y : Type 0} (f : X → Y) (m n : Meaning X) → StandsFor Same m n → StandsFor Same (on_one f m) (on_one f n)
one_same f m n h = then_stands Same Same (λ x. Is (f x)) (λ x. Is (f x)) (λ x y e. ap f e) m n h

two_same : {X Y Z : Type 0} (f : X → Y → Z) (m m' : Meaning X) (n n' : Meaning Y) → StandsFor Same m m' → StandsFor Same n n' → StandsFor Same (on_two f m n) (on_two f m' n')
two_same f m m' n n' h l = two_stand Same Same Same (λ x y. Is (f x y)) (λ x y. Is (f x y)) (λ x x' y y' d e. ap₂ f d e) m m' n n' h l

itself : {X : Type 0} (m : Meaning X) → StandsFor Same m m
itself (Is x) = refl
itself (Raises r rs) = All-contains_itself (r ∷ rs)

equal_stands : {X : Type 0} (m n : Meaning X) → m ≡ n → StandsFor Same m n
equal_stands m n e = subst (λ k. StandsFor Same m k) e (itself m)

-- ---- rows, by their first values

abbrev SameFirst : List Row → List Row → Type 0
SameFirst rows rows' = IsPermutation (column_values rows) (column_values rows')

first_values : (values : List Value) → column_values (map (λ v. v ∷ []) values) ≡ values
first_values [] = refl
first_values (v ∷ vs) = ap (λ ws. v ∷ ws) (first_values vs)

pub told_stands : (m : Meaning (List Row)) (told : Result (List Value) Raise) → TellsRows m told → StandsFor SameFirst m (meaning_told told)
told_stands (Is rows) (Ok values) h = subst (IsPermutation (column_values rows)) (sym (first_values values)) h
told_stands (Is rows) (Err e) h = absurd h
told_stands (Raises r rs) (Ok values) h = absurd h
told_stands (Raises r rs) (Err e) h = All-cons (Contains (r ∷ rs)) e [] h (All-nil (Contains (r ∷ rs)))

-- whether there is any
abbrev AreAny : List Row → List Row → Type 0
AreAny rows rows' = has_row rows ≡ has_row rows'

any_first : (values : List Value) → has_row (map (λ v. v ∷ []) values) ≡ has_row values
any_first [] = refl
any_first (v ∷ vs) = refl

any_asked : (rows : List Row) (values : List Value) → IsPermutation (values_asked true rows) values → has_row values ≡ has_row rows
any_asked [] [] h = refl
any_asked (row ∷ rows) (v ∷ vs) h = refl
any_asked [] (v ∷ vs) h = let e = length_permutation [] (v ∷ vs) h in absurd (omega (arith, e))
any_asked (row ∷ rows) [] h = let e = length_permutation (Null ∷ []) [] h in absurd (omega (arith, e))

pub existence_stands : (m : Meaning (List Row)) (told : Result (List Value) Raise) → Tells true m told → StandsFor AreAny m (meaning_told told)
existence_stands (Is rows) (Ok values) h = sym (any_first values ∙ any_asked rows values h)
existence_stands (Is rows) (Err e) h = absurd h
existence_stands (Raises r rs) (Ok values) h = absurd h
existence_stands (Raises r rs) (Err e) h = All-cons (Contains (r ∷ rs)) e [] h (All-nil (Contains (r ∷ rs)))

-- the only value, and whether there is any, by the first values
abbrev only_of : List Value → Meaning Value
only_of [] = Is Null
only_of (v ∷ []) = Is v
only_of (v ∷ w ∷ vs) = raised Cardinality

only_is : (rows : List Row) → only_value rows ≡ only_of (column_values rows)
only_is [] = refl
only_is (x ∷ []) = refl
only_is (x ∷ y ∷ rows) = refl

single : (x y : Value) → IsPermutation (x ∷ []) (y ∷ []) → x ≡ y
single x y h = All-permutation (λ z. x ≡ z) (x ∷ []) (y ∷ []) h (All-cons (λ z. x ≡ z) x [] refl (All-nil (λ z. x ≡ z))) 0 y (lit< tt)

only_of_stands : (vs ws : List Value) → IsPermutation vs ws → StandsFor Same (only_of vs) (only_of ws)
only_of_stands [] [] h = refl
only_of_stands [] (y ∷ ys) h = let e = length_permutation [] (y ∷ ys) h in absurd (omega (arith, e))
only_of_stands (x ∷ []) [] h = let e = length_permutation (x ∷ []) [] h in absurd (omega (arith, e))
only_of_stands (x ∷ []) (y ∷ []) h = single x y h
only_of_stands (x ∷ []) (y ∷ y' ∷ ys) h = let e = length_permutation (x ∷ []) (y ∷ y' ∷ ys) h in absurd (omega (arith, e))
only_of_stands (x ∷ x' ∷ xs) [] h = let e = length_permutation (x ∷ x' ∷ xs) [] h in absurd (omega (arith, e))
only_of_stands (x ∷ x' ∷ xs) (y ∷ []) h = let e = length_permutation (x ∷ x' ∷ xs) (y ∷ []) h in absurd (omega (arith, e))
only_of_stands (x ∷ x' ∷ xs) (y ∷ y' ∷ ys) h = All-contains_itself (Cardinality ∷ [])

only_stands : (rows rows' : List Row) → SameFirst rows rows' → StandsFor Same (only_value rows) (only_value rows')
only_stands rows rows' h =
    subst (λ m. StandsFor Same m (only_value rows')) (sym (only_is rows)) (subst (StandsFor Same (only_of (column_values rows))) (sym (only_is rows')) (only_of_stands (column_values rows) (column_values rows') h))

rows_stand : (rows rows' : List Row) → SameFirst rows rows' → has_row rows ≡ has_row rows'
rows_stand [] [] h = refl
rows_stand (x ∷ xs) (y ∷ ys) h = refl
rows_stand [] (y ∷ ys) h = let e = length_permutation [] (column_values (y ∷ ys)) h in absurd (omega (arith, e))
rows_stand (x ∷ xs) [] h = let e = length_permutation (column_values (x ∷ xs)) [] h in absurd (omega (arith, e))

quantified_stands : (q : Quantifier) (op : ComparisonOperator) (v : Value) (vs vs' : List Value) → IsPermutation vs vs' → quantified q op v vs ≡ quantified q op v vs'
quantified_stands s.All op v vs vs' h = (order_says_nothing _ _ (IsPermutation-map (compared op v) vs vs' h)).0
quantified_stands s.Any op v vs vs' h = (order_says_nothing _ _ (IsPermutation-map (compared op v) vs vs' h)).1

-- ---- expressions

module _ (env : Environment) (inner : ℕ → Meaning (List Row)) where
  abbrev other : Environment
  other = record env { inner = inner }

  abbrev Stands : ℕ → Type 0
  Stands n = StandsFor SameFirst (env.inner n) (inner n)

  abbrev ValueStands : ValueExpr → Type 0
  ValueStands e = StandsFor Same (value env e) (value other e)

  mutual
    value_stands : (e : ValueExpr) → AllByRecursion Stands (blocks_in e) → ValueStands e
    value_stands (b.Column c type) h = refl
    value_stands (b.Parameter n c type) h = refl
    value_stands (b.Numeral units digits scale) h = refl
    value_stands (b.String codes) h = refl
    value_stands (b.Signed minus e) h = one_same (signed minus) (value env e) (value other e) (value_stands e h)
    value_stands (b.Chain first others) h =
        let w = all_first Stands (blocks_in first) (operand_blocks others) h in
        chain_stands (value env first) (value other first) others w.1 (value_stands first w.0)
    value_stands (b.AggregateValue n type) h = itself (get_or env.functions n (Is Null))
    value_stands (b.Subquery n type) h = then_stands SameFirst Same only_value only_value only_stands (env.inner n) (inner n) h.0

    chain_stands : (left left' : Meaning Value) (others : Operands) → AllByRecursion Stands (operand_blocks others) → StandsFor Same left left' → StandsFor Same (chained env left others) (chained other left' others)
    chain_stands left left' b.NoOperand h l = l
    chain_stands left left' (b.Operand operator e others) h l =
        let w = all_first Stands (blocks_in e) (operand_blocks others) h in
        chain_stands (and_then_two (operation operator) left (value env e)) (and_then_two (operation operator) left' (value other e)) others w.1
        (two_stand Same Same Same (operation operator) (operation operator) (λ x x' y y' d k. equal_stands _ _ (ap₂ (operation operator) d k)) left left' (value env e) (value other e) l (value_stands e w.0))

  members_stand : (members : List (Option ValueExpr)) → AllByRecursion ValueStands (member_values members) → StandsFor Same (in_order (map (member env) members)) (in_order (map (member other) members))
  members_stand [] h = refl
  members_stand (None ∷ members) h = two_same ◌∷◌ (Is Null) (Is Null) (in_order (map (member env) members)) (in_order (map (member other) members)) refl (members_stand members h)
  members_stand (Some e ∷ members) h = two_same ◌∷◌ (value env e) (value other e) (in_order (map (member env) members)) (in_order (map (member other) members)) h.0 (members_stand members h.1)

  -- a value against the rows of a subquery
  against_rows : (q : Quantifier) (op : ComparisonOperator) (e : ValueExpr) (n : ℕ) → ValueStands e → Stands n → StandsFor Same (on_two (quantified q op) (value env e) (on_one column_values (env.inner n))) (on_two (quantified q op) (value other e) (on_one column_values (inner n)))
  against_rows q op e n h k =
      two_stand Same IsPermutation Same (λ v vs. Is (quantified q op v vs)) (λ v vs. Is (quantified q op v vs)) (λ v v' vs vs' d p. ap (λ w. quantified q op w vs) d ∙ quantified_stands q op v' vs vs' p)
      (value env e) (value other e) (on_one column_values (env.inner n)) (on_one column_values (inner n)) h
      (then_stands SameFirst IsPermutation (λ rows. Is (column_values rows)) (λ rows. Is (column_values rows)) (λ x y p. p) (env.inner n) (inner n) k)

  -- a test of whether there are rows
  abbrev StandsAny : ℕ → Type 0
  StandsAny n = StandsFor AreAny (env.inner n) (inner n)

  mutual
    truth_stands : (c : Condition) → AllByRecursion ValueStands (values_of c) → AllByRecursion Stands (compared_blocks c) → AllByRecursion StandsAny (tested_blocks c) → StandsFor Same (truth env c) (truth other c)
    truth_stands (b.Compare op x y) h k j = two_same (compared op) (value env x) (value other x) (value env y) (value other y) h.0 h.1.0
    truth_stands (b.Quantified op q e n) h k j = against_rows q op e n h.0 k.0
    truth_stands (b.IsNull negated e) h k j = one_same (λ v. unless negated (known (is_null v))) (value env e) (value other e) h.0
    truth_stands (b.Between negated e low high) h k j =
        one_same (unless negated) _ _ (two_same and _ _ _ _
        (two_same (compared GreaterOrEquals) (value env e) (value other e) (value env low) (value other low) h.0 h.1.0)
        (two_same (compared LessOrEquals) (value env e) (value other e) (value env high) (value other high) h.0 h.1.1.0))
    truth_stands (b.Like negated e pattern) h k j = one_same (λ v. unless negated (like pattern v)) (value env e) (value other e) h.0
    truth_stands (b.InList negated e members) h k j = one_same (unless negated) _ _ (two_same (compared_with_any Equals) (value env e) (value other e) _ _ h.0 (members_stand members h.1))
    truth_stands (b.InQuery negated e n) h k j = one_same (unless negated) _ _ (against_rows s.Any Equals e n h.0 k.0)
    truth_stands (b.Exists n) h k j = then_stands AreAny Same (λ rows. Is (has_row rows)) (λ rows. Is (has_row rows)) (λ x y e. e) (env.inner n) (inner n) j.0
    truth_stands (b.Not c) h k j = one_same opposite (truth env c) (truth other c) (truth_stands c h k j)
    truth_stands (b.And parts) h k j = one_same all_true (truths env parts) (truths other parts) (truths_stand parts h k j)
    truth_stands (b.Or parts) h k j = one_same any_true (truths env parts) (truths other parts) (truths_stand parts h k j)

    truths_stand : (parts : Conditions) → AllByRecursion ValueStands (values_of_parts parts) → AllByRecursion Stands (compared_blocks_of_parts parts) → AllByRecursion StandsAny (tested_blocks_of_parts parts) → StandsFor Same (truths env parts) (truths other parts)
    truths_stand b.NoPart h k j = refl
    truths_stand (b.Part part others) h k j =
        let w = all_first ValueStands (values_of part) (values_of_parts others) h in
        let v = all_first Stands (compared_blocks part) (compared_blocks_of_parts others) k in
        let u = all_first StandsAny (tested_blocks part) (tested_blocks_of_parts others) j in
        two_same ◌∷◌ (truth env part) (truth other part) (truths env others) (truths other others) (truth_stands part w.0 v.0 u.0) (truths_stand others w.1 v.1 u.1)

-- ---- conditions

-- what is so of all that a condition tests is so of all that it compares with
mutual
  compared_all : (P : ℕ → Type 0) (c : Condition) → AllByRecursion P (tested_blocks c) → AllByRecursion P (compared_blocks c)
  compared_all P (b.Compare op x y) h = tt
  compared_all P (b.Quantified op q e n) h = h
  compared_all P (b.IsNull negated e) h = tt
  compared_all P (b.Between negated e low high) h = tt
  compared_all P (b.Like negated e pattern) h = tt
  compared_all P (b.InList negated e members) h = tt
  compared_all P (b.InQuery negated e n) h = h
  compared_all P (b.Exists n) h = tt
  compared_all P (b.Not c) h = compared_all P c h
  compared_all P (b.And parts) h = compared_all_of_parts P parts h
  compared_all P (b.Or parts) h = compared_all_of_parts P parts h

  compared_all_of_parts : (P : ℕ → Type 0) (parts : Conditions) → AllByRecursion P (tested_blocks_of_parts parts) → AllByRecursion P (compared_blocks_of_parts parts)
  compared_all_of_parts P b.NoPart h = tt
  compared_all_of_parts P (b.Part part others) h =
      let w = all_first P (tested_blocks part) (tested_blocks_of_parts others) h in
      all_joined P (compared_blocks part) (compared_blocks_of_parts others) (compared_all P part w.0) (compared_all_of_parts P others w.1)

module _ (env : Environment) (told : ℕ → Result (List Value) Raise) where
  abbrev inner_told : ℕ → Meaning (List Row)
  inner_told n = meaning_told (told n)

  any_stands : (m n : Meaning (List Row)) → StandsFor SameFirst m n → StandsFor AreAny m n
  any_stands (Is x) (Is y) h = rows_stand x y h
  any_stands (Is x) (Raises r rs) h = absurd h
  any_stands (Raises r rs) (Is y) h = absurd h
  any_stands (Raises r rs) (Raises q qs) h = h

  asked_any : (seen : List ℕ) (n : ℕ) → TellsAsked seen (env.inner n) (told n) n → StandsAny env inner_told n
  asked_any seen n (inl h) = any_stands (env.inner n) (inner_told n) (told_stands (env.inner n) (told n) h)
  asked_any seen n (inr (none, h)) = existence_stands (env.inner n) (told n) h

  asked_seen : (seen : List ℕ) (n : ℕ) → Contains seen n → TellsAsked seen (env.inner n) (told n) n → Stands env inner_told n
  asked_seen seen n there (inl h) = told_stands (env.inner n) (told n) h
  asked_seen seen n there (inr (none, h)) = absurd (none there)

  -- by a list that has all blocks whose values it sees
  pub condition_sees : (seen : List ℕ) (c : Condition) → AllByRecursion (Contains seen) (seen_blocks c) → AllByRecursion (λ n. TellsAsked seen (env.inner n) (told n) n) (blocks_of c)
      → StandsFor Same (truth env c) (truth (record env { inner = inner_told }) c)
  condition_sees seen c there h =
      let Asked : ℕ → Type 0 = λ n. TellsAsked seen (env.inner n) (told n) n in
      let of_values : List ℕ = flat_map blocks_in (values_of c) in
      let w = all_first Asked (tested_blocks c) of_values h in
      let asked : AllByRecursion Asked (seen_blocks c) = all_joined Asked (compared_blocks c) of_values (compared_all Asked c w.0) w.1 in
      let stand : AllByRecursion (Stands env inner_told) (seen_blocks c) = all_both (Contains seen) Asked (Stands env inner_told) (asked_seen seen) (seen_blocks c) there asked in
      let v = all_first (Stands env inner_told) (compared_blocks c) of_values stand in
      let values = all_weaker (λ e. AllByRecursion (Stands env inner_told) (blocks_in e)) (ValueStands env inner_told) (value_stands env inner_told) (values_of c) (all_flat (Stands env inner_told) blocks_in (values_of c) v.1) in
      truth_stands env inner_told c values v.0 (all_weaker Asked (StandsAny env inner_told) (asked_any seen) (tested_blocks c) w.0)

-- a list has all that it has
pub all_listed : (ns : List ℕ) → AllByRecursion (Contains ns) ns
all_listed ns = recursion_from_All (Contains ns) ns (All-contains_itself ns)

pub conditions_see_what_is_told : ConditionsSeeWhatIsTold
conditions_see_what_is_told env told c h = condition_sees env told (seen_blocks c) c (all_listed (seen_blocks c)) h
