-- Strict evaluation.
use Rattle.std.proofs.Common.{◌≡◌, refl, sym, ℕ, List, [], ◌∷◌, ◌++◌, map, flat_map, ◌⊎◌, inl, inr, true, false, Option, Some, None, true≢false}
use Rattle.definitions.specs.Lists.{AnyOf}
use Rattle.definitions.specs.Value.{Value, Null, is_null}
use Rattle.definitions.specs.Statement.{Equals, GreaterOrEquals, LessOrEquals}
use Rattle.definitions.specs.Arithmetic.{Meaning, Is, Raises}
use Rattle.definitions.specs.Truth.{and, opposite, all_true, any_true, compared, compared_with_any, unless, known, has_row}
use Rattle.definitions.specs.Pattern.{like}
use Rattle.definitions.specs.Queries.BoundBlock.{ValueExpr, Column, Parameter, Numeral, String, Signed, Chain, AggregateValue, Subquery, Operands, NoOperand, Operand, Condition, Conditions, NoPart, Part, Compare, Quantified, IsNull, Between, Like, InList, InQuery, Exists, Not, And, Or}
use Rattle.definitions.specs.Queries.Conjuncts.{member_values, values_of, values_of_parts, tested_blocks, tested_blocks_of_parts, blocks_in, operand_blocks}
use Rattle.definitions.specs.Queries.Evaluation.{Environment, value, chained, truth, truths, member, in_order, only_value, column_values, quantified, operation, signed, and_then, and_then_two, on_one, on_two}
use Rattle.definitions_answers.specs.Strict.{is_raise, ConditionsAreStrict}

any_first : {X : Type 0} (P : X → Type 0) (xs ys : List X) → AnyOf P (xs ++ ys) → AnyOf P xs ⊎ AnyOf P ys
any_first P [] ys h = inr h
any_first P (x ∷ xs) ys (inl h) = inl (inl h)
any_first P (x ∷ xs) ys (inr h) = later (any_first P xs ys h)
  where
    later : AnyOf P xs ⊎ AnyOf P ys → AnyOf P (x ∷ xs) ⊎ AnyOf P ys
    later (inl i) = inl (inr i)
    later (inr i) = inr i

any_flat : {X Y : Type 0} (P : Y → Type 0) (Q : X → Type 0) (f : X → List Y) → ((x : X) → AnyOf P (f x) → Q x) → (xs : List X) → AnyOf P (flat_map f xs) → AnyOf Q xs
any_flat P Q f g [] h = absurd h
any_flat {X} P Q f g (x ∷ xs) h = pick (any_first P (f x) (flat_map f xs) h) (λ i. any_flat P Q f g xs i)
  where
    pick : AnyOf P (f x) ⊎ AnyOf P (flat_map f xs) → (AnyOf P (flat_map f xs) → AnyOf Q xs) → AnyOf Q (x ∷ xs)
    pick (inl i) k = inl (g x i)
    pick (inr i) k = inr (k i)

pick : {A B X : Type 0} → A ⊎ B → (A → X) → (B → X) → X
pick (inl a) f g = f a
pick (inr b) f g = g b

then_raises : {X Y : Type 0} (f : X → Meaning Y) (m : Meaning X) → is_raise m ≡ true → is_raise (and_then f m) ≡ true
then_raises f (Is x) h = absurd (true≢false (sym h))
then_raises f (Raises r rs) h = refl

second_raises : {X Y Z : Type 0} (f : X → Y → Meaning Z) (m : Meaning X) (n : Meaning Y) → is_raise n ≡ true → is_raise (and_then_two f m n) ≡ true
second_raises f (Is x) n h = then_raises (f x) n h
second_raises f (Raises r rs) n h = refl

first_raises : {X Y Z : Type 0} (f : X → Y → Meaning Z) (m : Meaning X) (n : Meaning Y) → is_raise m ≡ true → is_raise (and_then_two f m n) ≡ true
first_raises f m n h = then_raises (λ x. and_then (f x) n) m h

module _ (env : Environment) where
  abbrev Raising : ℕ → Type 0
  Raising n = is_raise (env.inner n) ≡ true

  abbrev ValueRaises : ValueExpr → Type 0
  ValueRaises e = is_raise (value env e) ≡ true

  left_raises : (m : Meaning Value) (others : Operands) → is_raise m ≡ true → is_raise (chained env m others) ≡ true
  left_raises m NoOperand h = h
  left_raises m (Operand operator e others) h = left_raises (and_then_two (operation operator) m (value env e)) others (first_raises (operation operator) m (value env e) h)

  mutual
    value_raises : (e : ValueExpr) → AnyOf Raising (blocks_in e) → ValueRaises e
    value_raises (Column c type) h = absurd h
    value_raises (Parameter n c type) h = absurd h
    value_raises (Numeral units digits scale) h = absurd h
    value_raises (String codes) h = absurd h
    value_raises (Signed minus e) h = then_raises (λ v. Is (signed minus v)) (value env e) (value_raises e h)
    value_raises (Chain first others) h =
        pick (any_first Raising (blocks_in first) (operand_blocks others) h) (λ i. left_raises (value env first) others (value_raises first i)) (λ i. chain_raises (value env first) others i)
    value_raises (AggregateValue n type) h = absurd h
    value_raises (Subquery n type) (inl h) = then_raises only_value (env.inner n) h
    value_raises (Subquery n type) (inr h) = absurd h

    chain_raises : (m : Meaning Value) (others : Operands) → AnyOf Raising (operand_blocks others) → is_raise (chained env m others) ≡ true
    chain_raises m NoOperand h = absurd h
    chain_raises m (Operand operator e others) h =
        pick (any_first Raising (blocks_in e) (operand_blocks others) h)
        (λ i. left_raises (and_then_two (operation operator) m (value env e)) others (second_raises (operation operator) m (value env e) (value_raises e i)))
        (λ i. chain_raises (and_then_two (operation operator) m (value env e)) others i)

  members_raise : (members : List (Option ValueExpr)) → AnyOf ValueRaises (member_values members) → is_raise (in_order (map (member env) members)) ≡ true
  members_raise [] h = absurd h
  members_raise (None ∷ members) h = second_raises (λ x xs. Is (x ∷ xs)) (Is Null) (in_order (map (member env) members)) (members_raise members h)
  members_raise (Some e ∷ members) (inl h) = first_raises (λ x xs. Is (x ∷ xs)) (value env e) (in_order (map (member env) members)) h
  members_raise (Some e ∷ members) (inr h) = second_raises (λ x xs. Is (x ∷ xs)) (value env e) (in_order (map (member env) members)) (members_raise members h)

  between : (e low high : ValueExpr) → AnyOf ValueRaises (e ∷ low ∷ high ∷ []) → is_raise (on_two and (on_two (compared GreaterOrEquals) (value env e) (value env low)) (on_two (compared LessOrEquals) (value env e) (value env high))) ≡ true
  between e low high (inl h) = first_raises (λ t u. Is (and t u)) _ (on_two (compared LessOrEquals) (value env e) (value env high)) (first_raises (λ v w. Is (compared GreaterOrEquals v w)) (value env e) (value env low) h)
  between e low high (inr (inl h)) = first_raises (λ t u. Is (and t u)) _ (on_two (compared LessOrEquals) (value env e) (value env high)) (second_raises (λ v w. Is (compared GreaterOrEquals v w)) (value env e) (value env low) h)
  between e low high (inr (inr (inl h))) = second_raises (λ t u. Is (and t u)) (on_two (compared GreaterOrEquals) (value env e) (value env low)) _ (second_raises (λ v w. Is (compared LessOrEquals v w)) (value env e) (value env high) h)
  between e low high (inr (inr (inr h))) = absurd h

  mutual
    by_value : (c : Condition) → AnyOf ValueRaises (values_of c) → is_raise (truth env c) ≡ true
    by_value (Compare op x y) (inl h) = first_raises (λ v w. Is (compared op v w)) (value env x) (value env y) h
    by_value (Compare op x y) (inr (inl h)) = second_raises (λ v w. Is (compared op v w)) (value env x) (value env y) h
    by_value (Compare op x y) (inr (inr h)) = absurd h
    by_value (Quantified op q e n) (inl h) = first_raises (λ v vs. Is (quantified q op v vs)) (value env e) (on_one column_values (env.inner n)) h
    by_value (Quantified op q e n) (inr h) = absurd h
    by_value (IsNull negated e) (inl h) = then_raises (λ v. Is (unless negated (known (is_null v)))) (value env e) h
    by_value (IsNull negated e) (inr h) = absurd h
    by_value (Between negated e low high) h = then_raises (λ t. Is (unless negated t)) _ (between e low high h)
    by_value (Like negated e pattern) (inl h) = then_raises (λ v. Is (unless negated (like pattern v))) (value env e) h
    by_value (Like negated e pattern) (inr h) = absurd h
    by_value (InList negated e members) (inl h) = then_raises (λ t. Is (unless negated t)) _ (first_raises (λ v vs. Is (compared_with_any Equals v vs)) (value env e) (in_order (map (member env) members)) h)
    by_value (InList negated e members) (inr h) = then_raises (λ t. Is (unless negated t)) _ (second_raises (λ v vs. Is (compared_with_any Equals v vs)) (value env e) (in_order (map (member env) members)) (members_raise members h))
    by_value (InQuery negated e n) (inl h) = then_raises (λ t. Is (unless negated t)) _ (first_raises (λ v vs. Is (compared_with_any Equals v vs)) (value env e) (on_one column_values (env.inner n)) h)
    by_value (InQuery negated e n) (inr h) = absurd h
    by_value (Exists n) h = absurd h
    by_value (Not c) h = then_raises (λ t. Is (opposite t)) (truth env c) (by_value c h)
    by_value (And parts) h = then_raises (λ ts. Is (all_true ts)) (truths env parts) (values_of_all parts h)
    by_value (Or parts) h = then_raises (λ ts. Is (any_true ts)) (truths env parts) (values_of_all parts h)

    values_of_all : (parts : Conditions) → AnyOf ValueRaises (values_of_parts parts) → is_raise (truths env parts) ≡ true
    values_of_all NoPart h = absurd h
    values_of_all (Part part others) h =
        pick (any_first ValueRaises (values_of part) (values_of_parts others) h)
        (λ i. first_raises (λ t ts. Is (t ∷ ts)) (truth env part) (truths env others) (by_value part i))
        (λ i. second_raises (λ t ts. Is (t ∷ ts)) (truth env part) (truths env others) (values_of_all others i))

  mutual
    by_test : (c : Condition) → AnyOf Raising (tested_blocks c) → is_raise (truth env c) ≡ true
    by_test (Compare op x y) h = absurd h
    by_test (Quantified op q e n) (inl h) = second_raises (λ v vs. Is (quantified q op v vs)) (value env e) (on_one column_values (env.inner n)) (then_raises (λ rows. Is (column_values rows)) (env.inner n) h)
    by_test (Quantified op q e n) (inr h) = absurd h
    by_test (IsNull negated e) h = absurd h
    by_test (Between negated e low high) h = absurd h
    by_test (Like negated e pattern) h = absurd h
    by_test (InList negated e members) h = absurd h
    by_test (InQuery negated e n) (inl h) = then_raises (λ t. Is (unless negated t)) _ (second_raises (λ v vs. Is (compared_with_any Equals v vs)) (value env e) (on_one column_values (env.inner n)) (then_raises (λ rows. Is (column_values rows)) (env.inner n) h))
    by_test (InQuery negated e n) (inr h) = absurd h
    by_test (Exists n) (inl h) = then_raises (λ rows. Is (has_row rows)) (env.inner n) h
    by_test (Exists n) (inr h) = absurd h
    by_test (Not c) h = then_raises (λ t. Is (opposite t)) (truth env c) (by_test c h)
    by_test (And parts) h = then_raises (λ ts. Is (all_true ts)) (truths env parts) (tests_of_all parts h)
    by_test (Or parts) h = then_raises (λ ts. Is (any_true ts)) (truths env parts) (tests_of_all parts h)

    tests_of_all : (parts : Conditions) → AnyOf Raising (tested_blocks_of_parts parts) → is_raise (truths env parts) ≡ true
    tests_of_all NoPart h = absurd h
    tests_of_all (Part part others) h =
        pick (any_first Raising (tested_blocks part) (tested_blocks_of_parts others) h)
        (λ i. first_raises (λ t ts. Is (t ∷ ts)) (truth env part) (truths env others) (by_test part i))
        (λ i. second_raises (λ t ts. Is (t ∷ ts)) (truth env part) (truths env others) (tests_of_all others i))

  either : (c : Condition) → AnyOf Raising (tested_blocks c) ⊎ AnyOf Raising (flat_map blocks_in (values_of c)) → is_raise (truth env c) ≡ true
  either c (inl h) = by_test c h
  either c (inr h) = by_value c (any_flat Raising ValueRaises blocks_in (λ e i. value_raises e i) (values_of c) h)

pub conditions_are_strict : ConditionsAreStrict
conditions_are_strict env c h = either env c (any_first (λ n. is_raise (env.inner n) ≡ true) (tested_blocks c) (flat_map blocks_in (values_of c)) h)
