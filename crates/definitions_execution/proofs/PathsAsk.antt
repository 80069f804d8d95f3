-- The conjuncts of a path ask what their text says, column by column, and together a part of a key.
use Rattle.std.proofs.Common.{sym, ap, ap₂, ◌∙◌, subst, ◌≡◌, ◌⊎◌, inl, inr, ℕ, ◌<◌, List, [], ◌∷◌, length, set, slice_get, Bool, true, false, ◌&&◌, not, cond, nat_eq, Option, Some, None, is_some, refl, rules, true≢false, arith}
use Rattle.std.specs.Prelude.{option_map, option_and_then, unwrap_or}
use Rattle.std.specs.Int.{bit_at}
use Rattle.std.specs.List.{AllByRecursion, list_any}
use Rattle.definitions.specs.Value.{Value, SqlType}
use Rattle.definitions.specs.IndexRun.{Inclusive}
use Rattle.definitions.specs.Statement.{ComparisonOperator, Equals, NotEquals, LessThan, GreaterThan, LessOrEquals, GreaterOrEquals}
use Rattle.definitions.specs.Arithmetic.{Meaning, Is, Raises}
use Rattle.definitions.specs.Plans.TableSet.{TableSet, Lacks}
use Rattle.definitions.specs.Plans.Order.{BlockColumn}
use Rattle.definitions.specs.Queries.BoundBlock.{ValueExpr, Column, Condition, Compare, Between, Block}
use Rattle.definitions.specs.Queries.CanRaise.{can_raise}
use Rattle.definitions.specs.Queries.Conjuncts.{tables_named, values_of, conjuncts, is_late}
use Rattle.definitions.specs.Queries.Evaluation.{Environment, value}
use Rattle.definitions.specs.Queries.Combinations.{Context, at}
use Rattle.definitions.specs.Estimates.BlockTables.{has, is_within, index_columns}
use Rattle.definitions.specs.Estimates.Paths.{ColumnTerm, ByComparison, ByBounds, turned, is_same_column, is_column, is_known, is_range, is_equality, says, is_early_and, equals_at, matches_at}
use Rattle.definitions_execution.specs.Stored.{Composite}
use Rattle.definitions_execution.specs.OfBlock.{combination_of, stored_of}
use Rattle.definitions_execution.specs.Asking.{ScanKey, EqualTo, InRange, meets, asked_by, Asks}
use Rattle.definitions_execution.specs.Matching.{AskInTurn}
use Rattle.definitions_execution.specs.TypedCombinations.{HasValue, EarlyValuesExist}
use Rattle.definitions_execution.specs.PathAsks.{if_there, key_of_term, scan_key_of, asked_at, AreAsked, IsKeyPart, PathsAsk, PathsAskKeyParts}
use Rattle.definitions.proofs.PlanTheory.TableSets.{has_or_lacks}
use Rattle.definitions.proofs.EstimateTheory.Tests.{has_is}
use Rattle.definitions_execution.proofs.Locality.{neither}
use Rattle.definitions_execution.proofs.EarlyValues.{calm_values}
use Rattle.definitions_execution.proofs.KnownValues.{conjuncts_ask}
use Rattle.definitions_execution.proofs.MatchedPaths.{both, range_known, InTurn, path_in_turn}

-- ---- columns and known values

same_column : (a b : BlockColumn) → is_same_column a b ≡ true → b ≡ a
same_column a b h =
    let w = both (nat_eq a.table b.table) (nat_eq a.number b.number) h in
    let t : a.table ≡ b.table = search (rules, w.0) in
    let n : a.number ≡ b.number = search (rules, w.1) in
    ap₂ (λ u m. record { table = u; number = m }) (sym t) (sym n)

column_is : (column : BlockColumn) (e : ValueExpr) → is_column column e ≡ true → (type : SqlType) × (e ≡ Column column type)
column_is column (Column x type) h = (type, ap (λ c. Column c type) (same_column column x h))
column_is column _ h = absurd (true≢false (sym h))

lacks_it : (s t : ℕ) → not (has s t) ≡ true → Lacks s t
lacks_it s t h = pick (has_or_lacks s t)
  where
    pick : (bit_at s t ≡ 1) ⊎ (bit_at s t ≡ 0) → Lacks s t
    pick (inl i) = absurd (true≢false (sym (sym (ap not (has_is s t i)) ∙ h)))
    pick (inr i) = i

known_lacks : (s t : ℕ) (e : ValueExpr) → is_known s t e ≡ true → Lacks (tables_named e) t
known_lacks s t e h = lacks_it (tables_named e) t (both (is_within (tables_named e) s) (not (has (tables_named e) t)) h).1

-- one side is the column, the other doesn't name its table
abbrev AreSides : BlockColumn → ValueExpr → ValueExpr → Type 0
AreSides column a b = ((is_column column a ≡ true) × Lacks (tables_named b) column.table)
    ⊎ ((is_column column a ≡ false) × (is_column column b ≡ true) × Lacks (tables_named a) column.table)

abbrev comparison_term : ComparisonOperator → ValueExpr → ValueExpr → Bool → Bool → Option ColumnTerm
comparison_term op a b x y = cond x (Some (ByComparison op b)) (cond y (Some (ByComparison (turned op) a)) None)

abbrev is_passed : (ColumnTerm → Bool) → Option ColumnTerm → Type 0
is_passed test term = unwrap_or (option_map test term) false ≡ true

module _ (s : TableSet) (column : BlockColumn) where
  sides : (op : ComparisonOperator) (a b : ValueExpr) → says (is_range s column.table) column (Compare op a b) ≡ true → AreSides column a b
  sides op a b h = by_tests (is_column column a) refl (is_column column b) refl h
    where
      by_tests : (x : Bool) → is_column column a ≡ x → (y : Bool) → is_column column b ≡ y → is_passed (is_range s column.table) (comparison_term op a b x y) → AreSides column a b
      by_tests true e y f k = inl (e, known_lacks s column.table b (range_known s column op b k))
      by_tests false e true f k = inr (e, f, known_lacks s column.table a (range_known s column (turned op) a k))
      by_tests false e false f k = absurd (true≢false (sym k))

  -- the column lies between values that don't name its table
  bounds : (x low high : ValueExpr) → says (is_range s column.table) column (Between false x low high) ≡ true
      → (is_column column x ≡ true) × Lacks (tables_named low) column.table × Lacks (tables_named high) column.table
  bounds x low high h = by_test (is_column column x) refl h
    where
      by_test : (t : Bool) → is_column column x ≡ t → is_passed (is_range s column.table) (cond t (Some (ByBounds low high)) None)
          → (is_column column x ≡ true) × Lacks (tables_named low) column.table × Lacks (tables_named high) column.table
      by_test true e k =
          let w = both (is_known s column.table low) (is_known s column.table high) k in
          (e, known_lacks s column.table low w.0, known_lacks s column.table high w.1)
      by_test false e k = absurd (true≢false (sym k))

  -- what is asked by a range, and by an equality
  range_asks : (op : ComparisonOperator) (e : ValueExpr) (v : Value) → is_range s column.table (ByComparison op e) ≡ true → (asked : ScanKey) × (asked_by op v ≡ Some asked)
  range_asks Equals e v h = (_, refl)
  range_asks NotEquals e v h = absurd (true≢false (sym h))
  range_asks LessThan e v h = (_, refl)
  range_asks GreaterThan e v h = (_, refl)
  range_asks LessOrEquals e v h = (_, refl)
  range_asks GreaterOrEquals e v h = (_, refl)

  equality_asks : (op : ComparisonOperator) (e : ValueExpr) (v : Value) → is_equality s column.table (ByComparison op e) ≡ true → asked_by op v ≡ Some (EqualTo v)
  equality_asks Equals e v h = refl
  equality_asks _ e v h = absurd (true≢false (sym h))

-- what is asked of a value that is there
there_is : (f : Value → Option ScanKey) (m : Meaning Value) (asked : ScanKey) → if_there f m ≡ Some asked → (v : Value) × (m ≡ Is v) × (f v ≡ Some asked)
there_is f (Is v) asked h = (v, refl, h)
there_is f (Raises r rs) asked h = absurd (true≢false (sym (ap is_some h)))

-- ---- a conjunct that is early and passes a test

early_is : (block : Block) (test : Condition → Bool) (g : ℕ) → is_early_and block test g ≡ true → (k : Condition) × (slice_get (conjuncts block) g ≡ Some k) × (is_late k ≡ false) × (test k ≡ true)
early_is block test g h = of_found (slice_get (conjuncts block) g) refl h
  where
    not_late : (b : Bool) → not b ≡ true → b ≡ false
    not_late true e = absurd (true≢false (sym e))
    not_late false e = refl

    of_found : (o : Option Condition) → slice_get (conjuncts block) g ≡ o → unwrap_or (option_map (λ c. not (is_late c) && test c) o) false ≡ true → (k : Condition) × (slice_get (conjuncts block) g ≡ Some k) × (is_late k ≡ false) × (test k ≡ true)
    of_found None e i = absurd (true≢false (sym i))
    of_found (Some k) e i = let w = both (not (is_late k)) (test k) i in (k, e, not_late (is_late k) w.0, w.1)

module _ (context : Context) (block : Block) (composite : Composite) (s : TableSet) (t c : ℕ) where
  abbrev column : BlockColumn
  column = record { table = t; number = c }

  abbrev env : Environment
  env = at context (combination_of context.database block composite)

  abbrev AsksIt : Condition → ScanKey → Type 0
  AsksIt = Asks context block composite t c

  -- by the first side or the second
  first_side : (op : ComparisonOperator) (a b : ValueExpr) → is_column column a ≡ true → scan_key_of env column (Compare op a b) ≡ if_there (asked_by op) (value env b)
  first_side op a b h = ap (λ x. option_and_then (key_of_term env) (comparison_term op a b x (is_column column b))) h

  second_side : (op : ComparisonOperator) (a b : ValueExpr) → is_column column a ≡ false → is_column column b ≡ true → scan_key_of env column (Compare op a b) ≡ if_there (asked_by (turned op)) (value env a)
  second_side op a b h k = ap₂ (λ x y. option_and_then (key_of_term env) (comparison_term op a b x y)) h k

  abbrev range_key : Value → Value → Option ScanKey
  range_key v w = Some (InRange (Inclusive v) (Inclusive w))

  between_key : (x low high : ValueExpr) → is_column column x ≡ true → scan_key_of env column (Between false x low high) ≡ if_there (λ v. if_there (range_key v) (value env high)) (value env low)
  between_key x low high h = ap (λ b. option_and_then (key_of_term env) (cond b (Some (ByBounds low high)) None)) h

  module _ (lt : t < length composite) where
    compare_asks : (op : ComparisonOperator) (a b : ValueExpr) (asked : ScanKey) → AreSides column a b → list_any can_raise (a ∷ b ∷ []) ≡ false → scan_key_of env column (Compare op a b) ≡ Some asked → AsksIt (Compare op a b) asked
    compare_asks op a b asked h calm e = pick h
      where
        calm_a : can_raise a ≡ false
        calm_a = (neither (can_raise a) (list_any can_raise (b ∷ [])) calm).0

        calm_b : can_raise b ≡ false
        calm_b = (neither (can_raise b) false (neither (can_raise a) (list_any can_raise (b ∷ [])) calm).1).0

        pick : AreSides column a b → AsksIt (Compare op a b) asked
        pick (inl (i, lacks)) =
            let (type, is) = column_is column a i in
            let (v, m, f) = there_is (asked_by op) (value env b) asked (sym (first_side op a b i) ∙ e) in
            let (one, two, three) = conjuncts_ask context block composite t c lt in
            subst (λ x. AsksIt (Compare op x b) asked) (sym is) (one type op b v asked (calm_b, lacks, m) f)
        pick (inr (n, i, lacks)) =
            let (type, is) = column_is column b i in
            let (v, m, f) = there_is (asked_by (turned op)) (value env a) asked (sym (second_side op a b n i) ∙ e) in
            let (one, two, three) = conjuncts_ask context block composite t c lt in
            subst (λ x. AsksIt (Compare op a x) asked) (sym is) (two type op a v asked (calm_a, lacks, m) f)

    between_asks : (x low high : ValueExpr) (asked : ScanKey) → (is_column column x ≡ true) × Lacks (tables_named low) t × Lacks (tables_named high) t → list_any can_raise (x ∷ low ∷ high ∷ []) ≡ false
        → scan_key_of env column (Between false x low high) ≡ Some asked → AsksIt (Between false x low high) asked
    between_asks x low high asked (is_it, lacks, lacks') calm e =
        let n = neither (can_raise x) (list_any can_raise (low ∷ high ∷ [])) calm in
        let n' = neither (can_raise low) (list_any can_raise (high ∷ [])) n.1 in
        let n'' = neither (can_raise high) false n'.1 in
        let (type, is) = column_is column x is_it in
        let (v, m, f) = there_is (λ v. if_there (range_key v) (value env high)) (value env low) asked (sym (between_key x low high is_it) ∙ e) in
        let (u, m', f') = there_is (range_key v) (value env high) asked f in
        let (one, two, three) = conjuncts_ask context block composite t c lt in
        let same : InRange (Inclusive v) (Inclusive u) ≡ asked = ap (λ o. unwrap_or o asked) f' in
        subst (λ y. AsksIt (Between false y low high) asked) (sym is)
        (subst (AsksIt (Between false (Column column type) low high)) same (three type low high v u (n'.0, lacks, m) (n''.0, lacks', m')))

    condition_asks : (k : Condition) (asked : ScanKey) → says (is_range s t) column k ≡ true → list_any can_raise (values_of k) ≡ false → scan_key_of env column k ≡ Some asked → AsksIt k asked
    condition_asks (Compare op a b) asked h calm e = compare_asks op a b asked (sides s column op a b h) calm e
    condition_asks (Between false x low high) asked h calm e = between_asks x low high asked (bounds s column x low high h) calm e
    condition_asks _ asked h calm e = absurd (true≢false (sym h))

    pub number_asks : (g : ℕ) (asked : ScanKey) → matches_at block s column g ≡ true → asked_at context block composite t c g ≡ Some asked
        → (row : ℕ) → (stored_of context block).holds g (set composite t row) ≡ meets asked ((stored_of context block).value_in column row)
    number_asks g asked h e =
        let (k, is, early, m) = early_is block (says (is_range s t) column) g h in
        let own : scan_key_of env column k ≡ Some asked = sym (ap (option_and_then (scan_key_of env column)) is) ∙ e in
        condition_asks k asked m (calm_values k early) own g is

  -- ---- something is asked

  abbrev SomeAsked : Condition → Type 0
  SomeAsked k = (asked : ScanKey) × (scan_key_of env column k ≡ Some asked)

  abbrev EqualAsked : Condition → Type 0
  EqualAsked k = (v : Value) × (scan_key_of env column k ≡ Some (EqualTo v))

  some_equal : (k : Condition) → says (is_equality s t) column k ≡ true → AllByRecursion (HasValue env) (values_of k) → EqualAsked k
  some_equal (Compare op a b) h there = by_tests (is_column column a) refl (is_column column b) refl h there.0 there.1.0
    where
      by_tests : (x : Bool) → is_column column a ≡ x → (y : Bool) → is_column column b ≡ y → is_passed (is_equality s t) (comparison_term op a b x y) → HasValue env a → HasValue env b → EqualAsked (Compare op a b)
      by_tests true e y f k (v, va) (w, vb) = (w, first_side op a b e ∙ ap (if_there (asked_by op)) vb ∙ equality_asks s column op b w k)
      by_tests false e true f k (v, va) (w, vb) = (v, second_side op a b e f ∙ ap (if_there (asked_by (turned op))) va ∙ equality_asks s column (turned op) a v k)
      by_tests false e false f k va vb = absurd (true≢false (sym k))
  some_equal (Between false x low high) h there = never (is_column column x) h
    where
      never : (b : Bool) → is_passed (is_equality s t) (cond b (Some (ByBounds low high)) None) → EqualAsked (Between false x low high)
      never true k = absurd (true≢false (sym k))
      never false k = absurd (true≢false (sym k))
  some_equal _ h there = absurd (true≢false (sym h))

  some_asked : (k : Condition) → says (is_range s t) column k ≡ true → AllByRecursion (HasValue env) (values_of k) → SomeAsked k
  some_asked (Compare op a b) h there = by_tests (is_column column a) refl (is_column column b) refl h there.0 there.1.0
    where
      by_tests : (x : Bool) → is_column column a ≡ x → (y : Bool) → is_column column b ≡ y → is_passed (is_range s t) (comparison_term op a b x y) → HasValue env a → HasValue env b → SomeAsked (Compare op a b)
      by_tests true e y f k (v, va) (w, vb) =
          let (asked, is) = range_asks s column op b w k in
          (asked, first_side op a b e ∙ ap (if_there (asked_by op)) vb ∙ is)
      by_tests false e true f k (v, va) (w, vb) =
          let (asked, is) = range_asks s column (turned op) a v k in
          (asked, second_side op a b e f ∙ ap (if_there (asked_by (turned op))) va ∙ is)
      by_tests false e false f k va vb = absurd (true≢false (sym k))
  some_asked (Between false x low high) h there =
      let (v, vl) = there.1.0 in
      let (w, vh) = there.1.1.0 in
      let (is_it, lacks, lacks') = bounds s column x low high h in
      (InRange (Inclusive v) (Inclusive w), between_key x low high is_it ∙ ap₂ (λ m n. if_there (λ v. if_there (range_key v) n) m) vl vh)
  some_asked _ h there = absurd (true≢false (sym h))

  module _ (exist : EarlyValuesExist context block composite) where
    equal_at : (g : ℕ) → equals_at block s column g ≡ true → (v : Value) × (asked_at context block composite t c g ≡ Some (EqualTo v))
    equal_at g h =
        let (k, is, early, m) = early_is block (says (is_equality s t) column) g h in
        let (v, e) = some_equal k m (exist g k is early) in
        (v, ap (option_and_then (scan_key_of env column)) is ∙ e)

    any_at : (g : ℕ) → matches_at block s column g ≡ true → (asked : ScanKey) × (asked_at context block composite t c g ≡ Some asked)
    any_at g h =
        let (k, is, early, m) = early_is block (says (is_range s t) column) g h in
        let (asked, e) = some_asked k m (exist g k is early) in
        (asked, ap (option_and_then (scan_key_of env column)) is ∙ e)

-- ---- in turn

module _ (context : Context) (block : Block) (composite : Composite) (s : TableSet) (t : ℕ) where
  nothing_left : (columns : List ℕ) (asked : List ScanKey) → asked ≡ [] → AskInTurn (stored_of context block) composite t columns [] asked
  nothing_left [] [] e = tt
  nothing_left (c ∷ cs) [] e = tt
  nothing_left columns (a ∷ as') e = let l = ap length e in absurd (omega (arith, l))

  walk : t < length composite → (columns : List ℕ) (gs : List ℕ) (asked : List ScanKey) → InTurn context.database block s t columns gs → AreAsked context block composite t columns gs asked
      → AskInTurn (stored_of context block) composite t columns gs asked
  walk lt [] gs asked h e = absurd h
  walk lt (c ∷ cs) gs [] (inl (g, is, m)) e = absurd (subst (λ ns. AreAsked context block composite t (c ∷ cs) ns []) is e)
  walk lt (c ∷ cs) gs [] (inr (g, others, is, m, eq, rest)) e = absurd (subst (λ ns. AreAsked context block composite t (c ∷ cs) ns []) is e)
  walk lt (c ∷ cs) gs (a ∷ as') (inl (g, is, m)) e =
      let w = subst (λ ns. AreAsked context block composite t (c ∷ cs) ns (a ∷ as')) is e in
      subst (λ ns. AskInTurn (stored_of context block) composite t (c ∷ cs) ns (a ∷ as')) (sym is) (number_asks context block composite s t c lt g a m w.0, nothing_left cs as' w.1)
  walk lt (c ∷ cs) gs (a ∷ as') (inr (g, others, is, m, eq, rest)) e =
      let w = subst (λ ns. AreAsked context block composite t (c ∷ cs) ns (a ∷ as')) is e in
      subst (λ ns. AskInTurn (stored_of context block) composite t (c ∷ cs) ns (a ∷ as')) (sym is) (number_asks context block composite s t c lt g a m w.0, walk lt cs others as' rest w.1)

  alone : (asked : ScanKey) → IsKeyPart (asked ∷ [])
  alone (EqualTo v) = inl (v ∷ [], refl)
  alone (InRange low high) = inr ([], low, high, refl)

  one_more : (v : Value) (asked : List ScanKey) → IsKeyPart asked → IsKeyPart (EqualTo v ∷ asked)
  one_more v asked (inl (values, e)) = inl (v ∷ values, ap (λ as'. EqualTo v ∷ as') e)
  one_more v asked (inr (values, low, high, e)) = inr (v ∷ values, low, high, ap (λ as'. EqualTo v ∷ as') e)

  find : EarlyValuesExist context block composite → (columns : List ℕ) (gs : List ℕ) → InTurn context.database block s t columns gs → (asked : List ScanKey) × AreAsked context block composite t columns gs asked × IsKeyPart asked
  find exist [] gs h = absurd h
  find exist (c ∷ cs) gs (inl (g, is, m)) =
      let (a, e) = any_at context block composite s t c exist g m in
      (a ∷ [], subst (λ ns. AreAsked context block composite t (c ∷ cs) ns (a ∷ [])) (sym is) (e, refl), alone a)
  find exist (c ∷ cs) gs (inr (g, others, is, m, eq, rest)) =
      let (v, e) = equal_at context block composite s t c exist g eq in
      let (asked, each, part) = find exist cs others rest in
      (EqualTo v ∷ asked, subst (λ ns. AreAsked context block composite t (c ∷ cs) ns (EqualTo v ∷ asked)) (sym is) (e, each), one_more v asked part)

pub paths_ask : PathsAsk
paths_ask version context block composite tables table index numbers backward is lt asked are =
    walk context block composite tables table lt (index_columns context.database block table index) numbers asked (path_in_turn version context.database block tables table index numbers backward is) are

pub paths_ask_parts : PathsAskKeyParts
paths_ask_parts version context block composite tables table index numbers backward is exist =
    find context block composite tables table exist (index_columns context.database block table index) numbers (path_in_turn version context.database block tables table index numbers backward is)
