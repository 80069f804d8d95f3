-- An expression means what it does by the rows at hand, its parameters and the blocks that it asks for.
use Rattle.std.proofs.Common.{ap, ap₂, ◌≡◌, ℕ, List, [], ◌∷◌, map, Option, Some, None, refl}
use Rattle.std.specs.List.{AllByRecursion}
use Rattle.definitions.specs.Value.{Value, Null, is_null}
use Rattle.definitions.specs.Table.{Row}
use Rattle.definitions.specs.Statement.{Equals, GreaterOrEquals, LessOrEquals}
use Rattle.definitions.specs.Arithmetic.{Meaning, Is}
use Rattle.definitions.specs.Truth.{and, known, unless, opposite, all_true, any_true, compared, compared_with_any, has_row}
use Rattle.definitions.specs.Pattern.{like}
use Rattle.definitions.specs.Queries.BoundBlock.{ValueExpr, Column, Parameter, Numeral, String, Signed, Chain, AggregateValue, Subquery, Operands, NoOperand, Operand, Condition, Conditions, NoPart, Part, Compare, Quantified, IsNull, Between, Like, InList, InQuery, Exists, Not, And, Or}
use Rattle.definitions.specs.Queries.Conjuncts.{member_values, values_of, values_of_parts, tested_blocks, tested_blocks_of_parts, blocks_in, operand_blocks, conjuncts_of, conjuncts_of_parts}
use Rattle.definitions.specs.Queries.Evaluation.{Combination, Environment, and_then, and_then_two, on_one, on_two, in_order, only_value, column_values, operation, quantified, signed, value, chained, member, truth, truths}
use Rattle.definitions_answers.specs.Parameters.{OuterColumn, outer_value, parameters_in, operand_parameters}
use Rattle.definitions_answers.proofs.Elements.{all_first, all_joined}

-- a parameter has the same value
abbrev pub SameColumn : List Combination → List Combination → OuterColumn → Type 0
SameColumn outer outer' c = outer_value outer c ≡ outer_value outer' c

module _ (combination : Combination) (functions : List (Meaning Value)) (outer outer' : List Combination) (inner inner' : ℕ → Meaning (List Row)) where
  abbrev here : Environment
  here = record { combination = combination; outer = outer; functions = functions; inner = inner }

  abbrev there : Environment
  there = record { combination = combination; outer = outer'; functions = functions; inner = inner' }

  abbrev pub SameBlock : ℕ → Type 0
  SameBlock n = inner n ≡ inner' n

  abbrev pub Seen : ValueExpr → Type 0
  Seen e = value here e ≡ value there e

  mutual
    pub value_seen : (e : ValueExpr) → AllByRecursion (SameColumn outer outer') (parameters_in e) → AllByRecursion SameBlock (blocks_in e) → Seen e
    value_seen (Column column type) h k = refl
    value_seen (Parameter between column type) h k = ap Is h.0
    value_seen (Numeral units digits scale) h k = refl
    value_seen (String codes) h k = refl
    value_seen (Signed minus operand) h k = ap (on_one (signed minus)) (value_seen operand h k)
    value_seen (Chain first others) h k =
        let w = all_first (SameColumn outer outer') (parameters_in first) (operand_parameters others) h in
        let v = all_first SameBlock (blocks_in first) (operand_blocks others) k in
        chain_seen (value here first) (value there first) others w.1 v.1 (value_seen first w.0 v.0)
    value_seen (AggregateValue number type) h k = refl
    value_seen (Subquery block type) h k = ap (and_then only_value) k.0

    chain_seen : (m n : Meaning Value) (others : Operands) → AllByRecursion (SameColumn outer outer') (operand_parameters others) → AllByRecursion SameBlock (operand_blocks others) → m ≡ n → chained here m others ≡ chained there n others
    chain_seen m n NoOperand h k e = e
    chain_seen m n (Operand operator operand others) h k e =
        let w = all_first (SameColumn outer outer') (parameters_in operand) (operand_parameters others) h in
        let v = all_first SameBlock (blocks_in operand) (operand_blocks others) k in
        chain_seen _ _ others w.1 v.1 (ap₂ (and_then_two (operation operator)) e (value_seen operand w.0 v.0))

  members_seen : (members : List (Option ValueExpr)) → AllByRecursion Seen (member_values members) → map (member here) members ≡ map (member there) members
  members_seen [] h = refl
  members_seen (None ∷ members) h = ap (λ ms. Is Null ∷ ms) (members_seen members h)
  members_seen (Some e ∷ members) h = ap₂ (λ m ms. m ∷ ms) h.0 (members_seen members h.1)

  mutual
    pub truth_seen : (c : Condition) → AllByRecursion Seen (values_of c) → AllByRecursion SameBlock (tested_blocks c) → truth here c ≡ truth there c
    truth_seen (Compare op left right) h k = ap₂ (on_two (compared op)) h.0 h.1.0
    truth_seen (Quantified op quantifier e block) h k = ap₂ (λ x m. on_two (quantified quantifier op) x (on_one column_values m)) h.0 k.0
    truth_seen (IsNull negated e) h k = ap (on_one (λ v. unless negated (known (is_null v)))) h.0
    truth_seen (Between negated e low high) h k =
        ap₂ (λ x y. on_one (unless negated) (on_two and x y)) (ap₂ (on_two (compared GreaterOrEquals)) h.0 h.1.0) (ap₂ (on_two (compared LessOrEquals)) h.0 h.1.1.0)
    truth_seen (Like negated e pattern) h k = ap (on_one (λ v. unless negated (like pattern v))) h.0
    truth_seen (InList negated e members) h k = ap₂ (λ x ys. on_one (unless negated) (on_two (compared_with_any Equals) x (in_order ys))) h.0 (members_seen members h.1)
    truth_seen (InQuery negated e block) h k = ap₂ (λ x m. on_one (unless negated) (on_two (compared_with_any Equals) x (on_one column_values m))) h.0 k.0
    truth_seen (Exists block) h k = ap (on_one has_row) k.0
    truth_seen (Not operand) h k = ap (on_one opposite) (truth_seen operand h k)
    truth_seen (And parts) h k = ap (on_one all_true) (truths_seen parts h k)
    truth_seen (Or parts) h k = ap (on_one any_true) (truths_seen parts h k)

    truths_seen : (parts : Conditions) → AllByRecursion Seen (values_of_parts parts) → AllByRecursion SameBlock (tested_blocks_of_parts parts) → truths here parts ≡ truths there parts
    truths_seen NoPart h k = refl
    truths_seen (Part part others) h k =
        let w = all_first Seen (values_of part) (values_of_parts others) h in
        let v = all_first SameBlock (tested_blocks part) (tested_blocks_of_parts others) k in
        ap₂ (on_two ◌∷◌) (truth_seen part w.0 v.0) (truths_seen others w.1 v.1)

-- ---- what holds of the values of a condition and of the blocks that it tests holds of those of its conjuncts

module _ (P : ValueExpr → Type 0) (Q : ℕ → Type 0) where
  pub record OfCondition (c : Condition) : Type 0 where
    pub values : AllByRecursion P (values_of c)
    pub tested : AllByRecursion Q (tested_blocks c)

  mutual
    pub of_conjuncts : (c : Condition) → OfCondition c → AllByRecursion OfCondition (conjuncts_of c)
    of_conjuncts (And parts) h = of_parts parts h.values h.tested
    of_conjuncts (Compare op left right) h = (h, tt)
    of_conjuncts (Quantified op quantifier e block) h = (h, tt)
    of_conjuncts (IsNull negated e) h = (h, tt)
    of_conjuncts (Between negated e low high) h = (h, tt)
    of_conjuncts (Like negated e pattern) h = (h, tt)
    of_conjuncts (InList negated e members) h = (h, tt)
    of_conjuncts (InQuery negated e block) h = (h, tt)
    of_conjuncts (Exists block) h = (h, tt)
    of_conjuncts (Not operand) h = (h, tt)
    of_conjuncts (Or parts) h = (h, tt)

    of_parts : (parts : Conditions) → AllByRecursion P (values_of_parts parts) → AllByRecursion Q (tested_blocks_of_parts parts) → AllByRecursion OfCondition (conjuncts_of_parts parts)
    of_parts NoPart h k = tt
    of_parts (Part part others) h k =
        let w = all_first P (values_of part) (values_of_parts others) h in
        let v = all_first Q (tested_blocks part) (tested_blocks_of_parts others) k in
        all_joined OfCondition (conjuncts_of part) (conjuncts_of_parts others) (of_conjuncts part (record { values = w.0; tested = v.0 })) (of_parts others w.1 v.1)
