-- What expressions mean doesn't hang on the order of a subquery's rows.
use Rattle.std.proofs.Common.{◌≡◌, refl, ap, ap₂, ◌∙◌, subst, ℕ, List, [], ◌∷◌, Some, None, arith, lit<}
use Rattle.std.specs.Prelude.{Option, map, get_or, IsPermutation}
use Rattle.std.proofs.lemmas.List.Elements.{All-contains_itself, All-cons, All-nil}
use Rattle.std.proofs.lemmas.List.Sorted.{All-permutation, length_permutation, IsPermutation-map}
use Rattle.definitions.specs.Value.{Value, Null, is_null}
use Rattle.definitions.specs.Table.{Row}
use Rattle.definitions.specs.Statement.{ComparisonOperator, Equals, GreaterOrEquals, LessOrEquals}
use Rattle.definitions.specs.Arithmetic.{Cardinality, Meaning, Is, Raises}
use Rattle.definitions.specs.Truth.{and, opposite, all_true, any_true, compared, compared_with_any, unless, known, has_row}
use Rattle.definitions.specs.Pattern.{like}
use Rattle.definitions.specs.Statement as s
use Rattle.definitions.specs.Queries.BoundBlock as b
use Rattle.definitions.specs.Queries.BoundBlock.{ValueExpr, Operands, Condition, Conditions}
use Rattle.definitions.specs.Statement.{Quantifier}
use Rattle.definitions.specs.Queries.Evaluation.{Environment, value, chained, truth, truths, member, in_order, only_value, column_values, quantified, operation, signed, and_then, and_then_two, on_one, on_two}
use Rattle.definitions.specs.Queries.Telling.{StandsFor, InnerStandsFor, SubqueriesStandInAnyOrder}
use Rattle.definitions.proofs.QueryTheory.Lemmas.{order_says_nothing}

abbrev Same : {X : Type 0} → X → X → Type 0
Same x y = x ≡ y

-- what is made of one operand
then_stands : {X Y : Type 0} (Alike : X → X → Type 0) (Alike' : Y → Y → Type 0) (f g : X → Meaning Y) → ((x y : X) → Alike x y → StandsFor Alike' (f x) (g y)) → (m n : Meaning X) → StandsFor Alike m n → StandsFor Alike' (and_then f m) (and_then g n)
then_stands Alike Alike' f g h (Is x) (Is y) l = h x y l
then_stands Alike Alike' f g h (Is x) (Raises r rs) l = absurd l
then_stands Alike Alike' f g h (Raises r rs) (Is y) l = absurd l
then_stands Alike Alike' f g h (Raises r rs) (Raises q qs) l = l

-- of two
two_stand : {X Y Z : Type 0} (Alike : X → X → Type 0) (Alike' : Y → Y → Type 0) (Alike'' : Z → Z → Type 0) (f g : X → Y → Meaning Z) → ((x x' : X) (y y' : Y) → Alike x x' → Alike' y y' → StandsFor Alike'' (f x y) (g x' y'))
    → (m m' : Meaning X) (n n' : Meaning Y) → StandsFor Alike m m' → StandsFor Alike' n n' → StandsFor Alike'' (and_then_two f m n) (and_then_two g m' n')
two_stand Alike Alike' Alike'' f g h m m' n n' l k = then_stands Alike Alike'' (λ x. and_then (f x) n) (λ x. and_then (g x) n') (λ x x' a. then_stands Alike' Alike'' (f x) (g x') (λ y y' c. h x x' y y' a c) n n' k) m m' l

one_same : {X Y : Type 0} (f : X → Y) (m n : Meaning X) → StandsFor Same m n → StandsFor Same (on_one f m) (on_one f n)
one_same f m n h = then_stands Same Same (λ x. Is (f x)) (λ x. Is (f x)) (λ x y e. ap f e) m n h

two_same : {X Y Z : Type 0} (f : X → Y → Z) (m m' : Meaning X) (n n' : Meaning Y) → StandsFor Same m m' → StandsFor Same n n' → StandsFor Same (on_two f m n) (on_two f m' n')
two_same f m m' n n' h l = two_stand Same Same Same (λ x y. Is (f x y)) (λ x y. Is (f x y)) (λ x x' y y' d e. ap₂ f d e) m m' n n' h l

itself : {X : Type 0} (m : Meaning X) → StandsFor Same m m
itself (Is x) = refl
itself (Raises r rs) = All-contains_itself (r ∷ rs)

equal_stands : {X : Type 0} (m n : Meaning X) → m ≡ n → StandsFor Same m n
equal_stands m n e = subst (λ k. StandsFor Same m k) e (itself m)

-- ---- lists of rows in another order

single_row : (x y : Row) → IsPermutation (x ∷ []) (y ∷ []) → x ≡ y
single_row x y h = All-permutation (λ z. x ≡ z) (x ∷ []) (y ∷ []) h (All-cons (λ z. x ≡ z) x [] refl (All-nil (λ z. x ≡ z))) 0 y (lit< tt)

only_stands : (rows rows' : List Row) → IsPermutation rows rows' → StandsFor Same (only_value rows) (only_value rows')
only_stands [] [] h = refl
only_stands [] (y ∷ ys) h = let e = length_permutation [] (y ∷ ys) h in absurd (omega (arith, e))
only_stands (x ∷ []) [] h = let e = length_permutation (x ∷ []) [] h in absurd (omega (arith, e))
only_stands (x ∷ []) (y ∷ []) h = ap (λ row. get_or row 0 Null) (single_row x y h)
only_stands (x ∷ []) (y ∷ y' ∷ ys) h = let e = length_permutation (x ∷ []) (y ∷ y' ∷ ys) h in absurd (omega (arith, e))
only_stands (x ∷ x' ∷ xs) [] h = let e = length_permutation (x ∷ x' ∷ xs) [] h in absurd (omega (arith, e))
only_stands (x ∷ x' ∷ xs) (y ∷ []) h = let e = length_permutation (x ∷ x' ∷ xs) (y ∷ []) h in absurd (omega (arith, e))
only_stands (x ∷ x' ∷ xs) (y ∷ y' ∷ ys) h = All-contains_itself (Cardinality ∷ [])

rows_stand : (rows rows' : List Row) → IsPermutation rows rows' → has_row rows ≡ has_row rows'
rows_stand [] [] h = refl
rows_stand (x ∷ xs) (y ∷ ys) h = refl
rows_stand [] (y ∷ ys) h = let e = length_permutation [] (y ∷ ys) h in absurd (omega (arith, e))
rows_stand (x ∷ xs) [] h = let e = length_permutation (x ∷ xs) [] h in absurd (omega (arith, e))

columns_permuted : (rows rows' : List Row) → IsPermutation rows rows' → IsPermutation (column_values rows) (column_values rows')
columns_permuted rows rows' h = IsPermutation-map (λ (row : Row). get_or row 0 Null) rows rows' h

quantified_stands : (q : Quantifier) (op : ComparisonOperator) (v : Value) (vs vs' : List Value) → IsPermutation vs vs' → quantified q op v vs ≡ quantified q op v vs'
quantified_stands s.All op v vs vs' h = (order_says_nothing _ _ (IsPermutation-map (compared op v) vs vs' h)).0
quantified_stands s.Any op v vs vs' h = (order_says_nothing _ _ (IsPermutation-map (compared op v) vs vs' h)).1

-- ---- expressions

module _ (env : Environment) (inner : ℕ → Meaning (List Row)) (h : InnerStandsFor env.inner inner) where
  abbrev other : Environment
  other = record env { inner = inner }

  mutual
    value_stands : (e : ValueExpr) → StandsFor Same (value env e) (value other e)
    value_stands (b.Column c type) = refl
    value_stands (b.Parameter n c type) = refl
    value_stands (b.Numeral units digits scale) = refl
    value_stands (b.String codes) = refl
    value_stands (b.Signed minus e) = one_same (signed minus) (value env e) (value other e) (value_stands e)
    value_stands (b.Chain first others) = chain_stands (value env first) (value other first) others (value_stands first)
    value_stands (b.AggregateValue n type) = itself (get_or env.functions n (Is Null))
    value_stands (b.Subquery n type) = then_stands IsPermutation Same only_value only_value only_stands (env.inner n) (inner n) (h n)

    chain_stands : (left left' : Meaning Value) (others : Operands) → StandsFor Same left left' → StandsFor Same (chained env left others) (chained other left' others)
    chain_stands left left' b.NoOperand l = l
    chain_stands left left' (b.Operand operator e others) l =
        chain_stands (and_then_two (operation operator) left (value env e)) (and_then_two (operation operator) left' (value other e)) others
        (two_stand Same Same Same (operation operator) (operation operator) (λ x x' y y' d k. equal_stands _ _ (ap₂ (operation operator) d k)) left left' (value env e) (value other e) l (value_stands e))

  members_stand : (members : List (Option ValueExpr)) → StandsFor Same (in_order (map (member env) members)) (in_order (map (member other) members))
  members_stand [] = refl
  members_stand (None ∷ members) = two_same ◌∷◌ (Is Null) (Is Null) (in_order (map (member env) members)) (in_order (map (member other) members)) refl (members_stand members)
  members_stand (Some e ∷ members) = two_same ◌∷◌ (value env e) (value other e) (in_order (map (member env) members)) (in_order (map (member other) members)) (value_stands e) (members_stand members)

  -- a value against the rows of a subquery
  against_rows : (q : Quantifier) (op : ComparisonOperator) (e : ValueExpr) (n : ℕ) → StandsFor Same (on_two (quantified q op) (value env e) (on_one column_values (env.inner n))) (on_two (quantified q op) (value other e) (on_one column_values (inner n)))
  against_rows q op e n =
      two_stand Same IsPermutation Same (λ v vs. Is (quantified q op v vs)) (λ v vs. Is (quantified q op v vs)) (λ v v' vs vs' d k. ap (λ w. quantified q op w vs) d ∙ quantified_stands q op v' vs vs' k)
      (value env e) (value other e) (on_one column_values (env.inner n)) (on_one column_values (inner n)) (value_stands e)
      (then_stands IsPermutation IsPermutation (λ rows. Is (column_values rows)) (λ rows. Is (column_values rows)) columns_permuted (env.inner n) (inner n) (h n))

  mutual
    truth_stands : (c : Condition) → StandsFor Same (truth env c) (truth other c)
    truth_stands (b.Compare op x y) = two_same (compared op) (value env x) (value other x) (value env y) (value other y) (value_stands x) (value_stands y)
    truth_stands (b.Quantified op q e n) = against_rows q op e n
    truth_stands (b.IsNull negated e) = one_same (λ v. unless negated (known (is_null v))) (value env e) (value other e) (value_stands e)
    truth_stands (b.Between negated e low high) =
        one_same (unless negated) _ _ (two_same and _ _ _ _
        (two_same (compared GreaterOrEquals) (value env e) (value other e) (value env low) (value other low) (value_stands e) (value_stands low))
        (two_same (compared LessOrEquals) (value env e) (value other e) (value env high) (value other high) (value_stands e) (value_stands high)))
    truth_stands (b.Like negated e pattern) = one_same (λ v. unless negated (like pattern v)) (value env e) (value other e) (value_stands e)
    truth_stands (b.InList negated e members) = one_same (unless negated) _ _ (two_same (compared_with_any Equals) (value env e) (value other e) _ _ (value_stands e) (members_stand members))
    truth_stands (b.InQuery negated e n) = one_same (unless negated) _ _ (against_rows s.Any Equals e n)
    truth_stands (b.Exists n) = then_stands IsPermutation Same (λ rows. Is (has_row rows)) (λ rows. Is (has_row rows)) rows_stand (env.inner n) (inner n) (h n)
    truth_stands (b.Not c) = one_same opposite (truth env c) (truth other c) (truth_stands c)
    truth_stands (b.And parts) = one_same all_true (truths env parts) (truths other parts) (truths_stand parts)
    truth_stands (b.Or parts) = one_same any_true (truths env parts) (truths other parts) (truths_stand parts)

    truths_stand : (parts : Conditions) → StandsFor Same (truths env parts) (truths other parts)
    truths_stand b.NoPart = refl
    truths_stand (b.Part part others) = two_same ◌∷◌ (truth env part) (truth other part) (truths env others) (truths other others) (truth_stands part) (truths_stand others)

pub subqueries_stand_in_any_order : SubqueriesStandInAnyOrder
subqueries_stand_in_any_order env inner h = (λ e. value_stands env inner h e, λ c. truth_stands env inner h c)
