-- Columns that are equal to a member of a list, or to none.
use Rattle.std.proofs.Common.{◌≡◌, ◌∙◌, refl, sym, ap, ap₂, subst, ℕ, zero, suc, ◌+◌, ◌*◌, ◌-◌, ◌<◌, ◌≤◌, ◌^◌, inl, inr, List, [], ◌∷◌, ◌++◌, Bool, true, false, cond, Option, Some, None, length, map, take, drop, get_or, set, arith}
use Rattle.std.specs.Prelude.{◌&&◌, ◌||◌, IfSome, bit_or, option_map}
use Rattle.std.specs.declared.cmp.Ordering.{Ordering}
use Rattle.std.specs.declared.cmp.Ordering.TheVariants.{Less, Equal, Greater}
use Rattle.std.specs.List.{AllByRecursion, list_all, range_with_len}
use Rattle.std.proofs.lemmas.List.{drop_all, map-append, take_more}
use Rattle.std.proofs.lemmas.List.FromFn.{length-range_with_len}
use Rattle.std.proofs.lemmas.Nat.{or_block}
use Rattle.definitions.specs.Arithmetic.{Meaning, Is, Raises}
use Rattle.definitions.specs.Scanning.{word_of}
use Rattle.definitions.specs.Statement.{ComparisonOperator, Equals}
use Rattle.definitions.specs.Truth.{Truth, False, Unknown, True, agrees, compared, compared_with_any, is_true, known_or_unknown, or, unless}
use Rattle.definitions.specs.Value.{Value, Null, Number, Text, compare}
use Rattle.definitions.specs.Queries.BoundBlock.{Condition, InList, ValueExpr}
use Rattle.definitions.specs.Queries.Combinations.{is_surely_true}
use Rattle.definitions.specs.Queries.Conjuncts.{member_values, values_of}
use Rattle.definitions.specs.Queries.Evaluation.{Combination, Environment, in_order, member, on_one, on_two, value}
use Rattle.query_tree.specs.Bound.{member_of, value_of as tree_of}
use Rattle.query_tree.specs.declared.value.ValueExpr as code
use Rattle.columns.proofs.WordFlags.{word_of-and, word_of-none_mapped, word_of-ones_mapped}
use Rattle.definitions_execution.specs.Lists.{In}
use Rattle.definitions_execution.specs.Stored.{Composite}
use Rattle.definitions_execution.specs.TypedCombinations.{HasValue}
use Rattle.filters.specs.Comparisons.{is_member_beside, member_op, AreMembersOf, IsIn, IsMemberOf}
use Rattle.filters.specs.Compiled.{IsListOf}
use Rattle.filters.specs.JoinFilters.{passes_member, true_with, CanCome, IsEarlyPart}
use Rattle.filters.specs.Sources.{BlockSource, environment_at}
use Rattle.filters.specs.Truths.{is_true_on}
use Rattle.filters.specs.Words.{together, word_by, words_together}
use Rattle.filters.specs.declared.comparison.Comparison.{Comparison}
use Rattle.filters.specs.declared.member_list.MemberList.{MemberList}
use Rattle.filters.proofs.Coming.{all_there, word_alike}
use Rattle.filters.proofs.Comparing.{side_met, side_within}
use Rattle.filters.proofs.Tables.{all_at, at_place}

-- ---- two words together

bit_below : (f : Bool) → cond f 1 0 < 2 ^ 1
bit_below true = omega arith
bit_below false = omega arith

or_bits : (a b : Bool) → bit_or (cond a 1 0) (cond b 1 0) ≡ cond (a || b) 1 0
or_bits true true = refl
or_bits true false = refl
or_bits false true = refl
or_bits false false = refl

or_flags : (a b : Bool) (m n : ℕ) → bit_or (cond a 1 0 + 2 * m) (cond b 1 0 + 2 * n) ≡ cond (a || b) 1 0 + 2 * bit_or m n
or_flags a b m n =
    let left : cond a 1 0 + 2 * m ≡ m * 2 ^ 1 + cond a 1 0 = omega arith in
    let right : cond b 1 0 + 2 * n ≡ n * 2 ^ 1 + cond b 1 0 = omega arith in
    rw (left, right, or_block 1 m n (cond a 1 0) (cond b 1 0) (bit_below a) (bit_below b), or_bits a b) (omega arith)

pub word_of-or : {X : Type 0} (p q : X → Bool) (xs : List X) → bit_or (word_of (map p xs)) (word_of (map q xs)) ≡ word_of (map (λ x. p x || q x) xs)
word_of-or p q [] = refl
word_of-or p q (x ∷ xs) = or_flags (p x) (q x) (word_of (map p xs)) (word_of (map q xs)) ∙ ap (λ n. cond (p x || q x) 1 0 + 2 * n) (word_of-or p q xs)

words_met : {X : Type 0} (negated : Bool) (p q : X → Bool) (xs : List X) → words_together negated (word_of (map p xs)) (word_of (map q xs)) ≡ word_of (map (λ x. together negated (p x) (q x)) xs)
words_met true p q xs = word_of-and p q xs
words_met false p q xs = word_of-or p q xs

pub all_rows_met : (first count : ℕ) → 2 ^ count - 1 ≡ word_by (λ row. true) first count
all_rows_met first count = ap (λ n. 2 ^ n - 1) (sym (length-range_with_len first count)) ∙ sym (word_of-ones_mapped (range_with_len first count))

pub no_row_met : (first count : ℕ) → 0 ≡ word_by (λ row. false) first count
no_row_met first count = sym (word_of-none_mapped (range_with_len first count))

together_assoc : (negated a b c : Bool) → together negated (together negated a b) c ≡ together negated a (together negated b c)
together_assoc true true b c = refl
together_assoc true false b c = refl
together_assoc false true b c = refl
together_assoc false false b c = refl

neither_met : (negated : Bool) → false ≡ together negated false false
neither_met true = refl
neither_met false = refl

before_all : (negated b : Bool) → together negated negated b ≡ b
before_all true b = refl
before_all false b = refl

behind_all : (negated b : Bool) → together negated b negated ≡ b
behind_all true true = refl
behind_all true false = refl
behind_all false true = refl
behind_all false false = refl

-- ---- a value that is equal to one of some values, or to none

abbrev joined : Meaning Value → Meaning (List Value) → Meaning (List Value)
joined = on_two ◌∷◌

abbrev is_met_by : Bool → Meaning Value → Meaning (List Value) → Bool
is_met_by negated m ms = is_surely_true (on_one (unless negated) (on_two (compared_with_any Equals) m ms))

one_and_others : (negated : Bool) (t u : Truth) → is_true (unless negated (or t u)) ≡ together negated (is_true (unless negated (or t False))) (is_true (unless negated u))
one_and_others true True u = refl
one_and_others true Unknown False = refl
one_and_others true Unknown Unknown = refl
one_and_others true Unknown True = refl
one_and_others true False u = refl
one_and_others false True u = refl
one_and_others false Unknown False = refl
one_and_others false Unknown Unknown = refl
one_and_others false Unknown True = refl
one_and_others false False u = refl

value_next : (negated : Bool) (m x : Meaning Value) (xs : Meaning (List Value)) (v : Value) (vs : List Value) → x ≡ Is v → xs ≡ Is vs → is_met_by negated m (joined x xs) ≡ together negated (is_met_by negated m (joined x (Is []))) (is_met_by negated m xs)
value_next negated m x xs v vs first others =
    ap₂ (λ (y : Meaning Value) (ys : Meaning (List Value)). is_met_by negated m (joined y ys)) first others
    ∙ of_own m
    ∙ ap₂ (λ (y : Meaning Value) (ys : Meaning (List Value)). together negated (is_met_by negated m (joined y (Is []))) (is_met_by negated m ys)) (sym first) (sym others)
  where
    of_own : (m : Meaning Value) → is_met_by negated m (Is (v ∷ vs)) ≡ together negated (is_met_by negated m (Is (v ∷ []))) (is_met_by negated m (Is vs))
    of_own (Is u) = one_and_others negated (compared Equals u v) (compared_with_any Equals u vs)
    of_own (Raises r rs) = neither_met negated

members_there : (env : Environment) (members : List (Option ValueExpr)) → AllByRecursion (HasValue env) (member_values members) → (vs : List Value) × (in_order (map (member env) members) ≡ Is vs)
members_there env [] h = ([], refl)
members_there env (None ∷ members) h = let g = members_there env members h in (Null ∷ g.0, ap (joined (Is Null)) g.1)
members_there env (Some e ∷ members) h = let g = members_there env members h.1 in (h.0.0 ∷ g.0, ap₂ joined h.0.1 g.1)

module _ (negated : Bool) (env : Environment) (own : ValueExpr) where
  abbrev is_true_of : List (Option ValueExpr) → Bool
  is_true_of members = is_true_on env (InList negated own members)

  next_listed : (x : Option ValueExpr) (members : List (Option ValueExpr)) → AllByRecursion (HasValue env) (member_values (x ∷ members)) → is_true_of (x ∷ members) ≡ together negated (is_true_of (x ∷ [])) (is_true_of members)
  next_listed None members h = let g = members_there env members h in value_next negated (value env own) (Is Null) (in_order (map (member env) members)) Null g.0 refl g.1
  next_listed (Some e) members h = let g = members_there env members h.1 in value_next negated (value env own) (value env e) (in_order (map (member env) members)) h.0.0 g.0 h.0.1 g.1

  none_listed : HasValue env own → is_true_of [] ≡ negated
  none_listed h = ap (λ m. is_met_by negated m (Is [])) h.1 ∙ of_none negated
    where
      of_none : (negated : Bool) → is_true (unless negated False) ≡ negated
      of_none true = refl
      of_none false = refl

  null_listed : is_true_of (None ∷ []) ≡ false
  null_listed = of_own (value env own)
    where
      null_unknown : (u : Value) → compared Equals u Null ≡ Unknown
      null_unknown Null = refl
      null_unknown (Number units scale) = refl
      null_unknown (Text codes) = refl

      unmet : (negated : Bool) → is_true (unless negated Unknown) ≡ false
      unmet true = refl
      unmet false = refl

      of_own : (m : Meaning Value) → is_met_by negated m (joined (Is Null) (Is [])) ≡ false
      of_own (Is u) = ap (λ t. is_true (unless negated (or t False))) (null_unknown u) ∙ unmet negated
      of_own (Raises r rs) = refl

  one_listed : (other : ValueExpr) → is_true_of (Some other ∷ []) ≡ is_surely_true (on_two (compared (member_op negated)) (value env own) (value env other))
  one_listed other = of_both (value env own) (value env other)
    where
      alone : (negated : Bool) (o : Option Ordering) → is_true (unless negated (or (known_or_unknown (option_map (agrees Equals) o)) False)) ≡ is_true (known_or_unknown (option_map (agrees (member_op negated)) o))
      alone true None = refl
      alone true (Some Less) = refl
      alone true (Some Equal) = refl
      alone true (Some Greater) = refl
      alone false None = refl
      alone false (Some Less) = refl
      alone false (Some Equal) = refl
      alone false (Some Greater) = refl

      of_both : (m n : Meaning Value) → is_met_by negated m (joined n (Is [])) ≡ is_surely_true (on_two (compared (member_op negated)) m n)
      of_both (Is u) (Is v) = alone negated (compare u v)
      of_both (Is u) (Raises r rs) = refl
      of_both (Raises r rs) n = refl

-- ---- the comparisons with a list's members

-- the member that a comparison is with
abbrev member_in : Option Comparison → Option ValueExpr
member_in = option_map (λ (c : Comparison). tree_of c.other.now)

module _ (table : ℕ) (op : ComparisonOperator) (own : ValueExpr) where
  abbrev AreMembers : List (Option ValueExpr) → List (Option Comparison) → Type 0
  AreMembers = AreMembersOf table op own

  member_is : (m : Option ValueExpr) (c : Option Comparison) → IsMemberOf table op own m c → m ≡ member_in c
  member_is None None is = refl
  member_is None (Some c) is = absurd is
  member_is (Some other) None is = absurd is
  member_is (Some other) (Some c) is = ap Some (sym is.0.other_is)

  members_are : (ms : List (Option ValueExpr)) (cs : List (Option Comparison)) → AreMembers ms cs → ms ≡ map member_in cs
  members_are [] [] are = refl
  members_are [] (c ∷ cs) are = absurd are
  members_are (m ∷ ms) [] are = absurd are
  members_are (m ∷ ms) (c ∷ cs) are = ap₂ ◌∷◌ (member_is m c are.0) (members_are ms cs are.1)

  all_compared : (ms : List (Option ValueExpr)) (cs : List (Option Comparison)) → AreMembers ms cs → AllByRecursion (λ c. IsMemberOf table op own (member_in c) c) cs
  all_compared [] [] are = tt
  all_compared [] (c ∷ cs) are = absurd are
  all_compared (m ∷ ms) [] are = absurd are
  all_compared (m ∷ ms) (c ∷ cs) are = (subst (λ n. IsMemberOf table op own n c) (member_is m c are.0) are.0, all_compared ms cs are.1)

  -- a comparison more
  pub one_more_member : (ms : List (Option ValueExpr)) (m : Option ValueExpr) (cs : List (Option Comparison)) (c : Option Comparison) → AreMembers ms cs → IsMemberOf table op own m c → AreMembers (ms ++ m ∷ []) (cs ++ c ∷ [])
  one_more_member [] m [] c are is = (is, tt)
  one_more_member [] m (d ∷ cs) c are is = absurd are
  one_more_member (n ∷ ms) m [] c are is = absurd are
  one_more_member (n ∷ ms) m (d ∷ cs) c are is = (are.0, one_more_member ms m cs c are.1 is)

module _ (table : ℕ) (op : ComparisonOperator) (own : ValueExpr) (xs : List (Option code.ValueExpr)) where
  abbrev beside : List (Option code.ValueExpr) → Bool
  beside members = list_all (is_member_beside table own) (map member_of members)

  module _ (i : ℕ) (x : Option code.ValueExpr) (h : i < length xs) (at : x ≡ get_or xs i x) where
    pub compared_too : (cs after : List (Option Comparison)) (c : Option Comparison) → after ≡ cs ++ c ∷ [] → AreMembersOf table op own (map member_of (take i xs)) cs → IsMemberOf table op own (member_of x) c → AreMembersOf table op own (map member_of (take (i + 1) xs)) after
    compared_too cs after c more are is =
        let next : map member_of (take (i + 1) xs) ≡ map member_of (take i xs) ++ member_of x ∷ [] = ap (map member_of) (take_more xs i x h ∙ ap (λ y. take i xs ++ y ∷ []) (sym at)) ∙ map-append member_of (take i xs) (x ∷ []) in
        subst (λ ms. AreMembersOf table op own ms after) (sym next) (subst (AreMembersOf table op own (map member_of (take i xs) ++ member_of x ∷ [])) (sym more) (one_more_member table op own (map member_of (take i xs)) (member_of x) cs c are is))

    next_beside : beside (drop i xs) ≡ (is_member_beside table own (member_of x) && beside (drop (i + 1) xs))
    next_beside = ap beside (at_place xs i x h at)

    pub beside_too : is_member_beside table own (member_of x) ≡ true → beside (drop i xs) ≡ beside xs → beside (drop (i + 1) xs) ≡ beside xs
    beside_too met left = sym (next_beside ∙ ap (λ b. b && beside (drop (i + 1) xs)) met) ∙ left

    pub apart_here : is_member_beside table own (member_of x) ≡ false → beside (drop i xs) ≡ beside xs → false ≡ beside xs
    apart_here unmet left = sym (next_beside ∙ ap (λ b. b && beside (drop (i + 1) xs)) unmet) ∙ left

  pub all_beside : (i : ℕ) → length xs ≤ i → beside (drop i xs) ≡ beside xs → true ≡ beside xs
  all_beside i past left = sym (ap beside (drop_all i xs past)) ∙ left

-- ---- the values of a list's members

each_of : (P : ValueExpr → Type 0) (xs : List ValueExpr) → ((x : ValueExpr) → In x xs → P x) → AllByRecursion P xs
each_of P [] f = tt
each_of P (x ∷ xs) f = (f x (inl refl), each_of P xs (λ y i. f y (inr i)))

pub other_values : (P : ValueExpr → Type 0) (x : Option ValueExpr) (members : List (Option ValueExpr)) → AllByRecursion P (member_values (x ∷ members)) → AllByRecursion P (member_values members)
other_values P None members h = h
other_values P (Some e) members h = h.1

left_values : (P : ValueExpr → Type 0) (cs : List (Option Comparison)) (i : ℕ) → AllByRecursion P (member_values (map member_in cs)) → AllByRecursion P (member_values (map member_in (drop i cs)))
left_values P cs zero h = h
left_values P [] (suc i) h = h
left_values P (x ∷ cs) (suc i) h = left_values P cs i (other_values P (member_in x) (map member_in cs) h)

next_member : (cs : List (Option Comparison)) (i : ℕ) (x : Option Comparison) → i < length cs → x ≡ get_or cs i x → map member_in (drop i cs) ≡ member_in x ∷ map member_in (drop (i + 1) cs)
next_member cs i x h e = ap (map member_in) (at_place cs i x h e)

next_values : (P : ValueExpr → Type 0) (cs : List (Option Comparison)) (i : ℕ) (x : Option Comparison) → i < length cs → x ≡ get_or cs i x → AllByRecursion P (member_values (map member_in cs))
    → AllByRecursion P (member_values (member_in x ∷ map member_in (drop (i + 1) cs)))
next_values P cs i x h e all = subst (λ ms. AllByRecursion P (member_values ms)) (next_member cs i x h e) (left_values P cs i all)

pub first_value : (P : ValueExpr → Type 0) (x : Option ValueExpr) (members : List (Option ValueExpr)) → AllByRecursion P (member_values (x ∷ members)) → IfSome x P
first_value P None members h = tt
first_value P (Some e) members h = h.0

-- ---- a list of an early conjunct

module _ (table : ℕ) (condition : Condition) (list : MemberList) (is : IsListOf table condition list) where
  abbrev negated : Bool
  negated = list.negated

  abbrev cs : List (Option Comparison)
  cs = list.members.items

  pub list_is : condition ≡ InList negated is.own (map member_in cs)
  list_is = is.same ∙ ap (InList negated is.own) (members_are table (member_op negated) is.own is.members cs is.compared)

  compared_at : (i : ℕ) (x : Option Comparison) → i < length cs → x ≡ get_or cs i x → IsMemberOf table (member_op negated) is.own (member_in x) x
  compared_at i x h e = all_at (λ c. IsMemberOf table (member_op negated) is.own (member_in c) c) cs i x (all_compared table (member_op negated) is.own is.members cs is.compared) h e

  -- a member's value is one of the condition's
  pub member_within : (i : ℕ) (x : Option Comparison) → i < length cs → x ≡ get_or cs i x → IfSome x (IsIn table condition)
  member_within i x h e = of_case x (compared_at i x h e) held
    where
      held : IfSome (member_in x) (λ other. In other (values_of condition))
      held =
          let all : AllByRecursion (λ other. In other (values_of condition)) (is.own ∷ member_values (map member_in cs)) = subst (λ c. AllByRecursion (λ other. In other (values_of condition)) (values_of c)) list_is (each_of (λ other. In other (values_of condition)) (values_of condition) (λ other j. j)) in
          first_value (λ other. In other (values_of condition)) (member_in x) (map member_in (drop (i + 1) cs)) (next_values (λ other. In other (values_of condition)) cs i x h e all.1)

      of_case : (x : Option Comparison) → IsMemberOf table (member_op negated) is.own (member_in x) x → IfSome (member_in x) (λ other. In other (values_of condition)) → IfSome x (IsIn table condition)
      of_case None of held = tt
      of_case (Some c) of held = side_within table condition is.own (tree_of c.other.now) c of.0 held

-- ---- the rows that pass members

module _ (source : BlockSource) (outer : List Combination) (from : Composite) (table : ℕ) (condition : Condition) (list : MemberList) (is : IsListOf table condition list) where
  abbrev with_row : ℕ → Environment
  with_row row = environment_at source outer (set from table row)

  abbrev comparisons : List (Option Comparison)
  comparisons = list.members.items

  abbrev listed : List (Option Comparison) → ℕ → Bool
  listed members = true_with source outer from table (InList list.negated is.own (map member_in members))

  member_met : (x : Option Comparison) → IsMemberOf table (member_op list.negated) is.own (member_in x) x → (row : ℕ) → passes_member source outer from table x row ≡ listed (x ∷ []) row
  member_met None of row = sym (null_listed list.negated (with_row row) is.own)
  member_met (Some c) of row =
      sym (one_listed list.negated (with_row row) is.own (tree_of c.other.now) ∙ side_met table is.own (tree_of c.other.now) c (member_op list.negated) (with_row row) of.0 of.1)

  -- the rows that pass the members before one, and those that pass it and the ones behind it, together
  abbrev pub IsMet : (met i first count : ℕ) → Type 0
  IsMet met i first count =
      (test : ℕ → Bool) × (met ≡ word_by test first count)
      × ((row : ℕ) → together list.negated (test row) (listed (drop i comparisons) row) ≡ true_with source outer from table condition row)

  pub none_met : (met first count : ℕ) → met ≡ word_by (λ row. list.negated) first count → IsMet met 0 first count
  none_met met first count word =
      (λ row. list.negated, word, λ row. before_all list.negated (listed comparisons row) ∙ ap (λ (c : Condition). true_with source outer from table c row) (sym (list_is table condition list is)))

  module _ (can : CanCome source outer table) (early : IsEarlyPart source condition) where
    there : (row : ℕ) → AllByRecursion (HasValue (with_row row)) (is.own ∷ member_values (map member_in comparisons))
    there row = subst (λ c. AllByRecursion (HasValue (with_row row)) (values_of c)) (list_is table condition list is) (all_there source outer table can condition early (set from table row))

    next_rows : (i : ℕ) (x : Option Comparison) → i < length comparisons → x ≡ get_or comparisons i x → (row : ℕ) → listed (drop i comparisons) row ≡ together list.negated (listed (x ∷ []) row) (listed (drop (i + 1) comparisons) row)
    next_rows i x h e row =
        ap (λ ms. is_true_on (with_row row) (InList list.negated is.own ms)) (next_member comparisons i x h e)
        ∙ next_listed list.negated (with_row row) is.own (member_in x) (map member_in (drop (i + 1) comparisons)) (next_values (HasValue (with_row row)) comparisons i x h e (there row).1)

    pub one_more_met : (i : ℕ) (x : Option Comparison) (first count met word more : ℕ) → i < length comparisons → x ≡ get_or comparisons i x → word ≡ word_by (passes_member source outer from table x) first count → more ≡ words_together list.negated met word
        → IsMet met i first count → IsMet more (i + 1) first count
    one_more_met i x first count met word more h e is_word is_more (test, so_far, meant) =
        let one = passes_member source outer from table x in
        let others = listed (drop (i + 1) comparisons) in
        let own = member_met x (compared_at table condition list is i x h e) in (
          λ row. together list.negated (test row) (one row),
          is_more ∙ ap₂ (words_together list.negated) so_far is_word ∙ words_met list.negated test one (range_with_len first count),
          λ row.
              ap (λ b. together list.negated (together list.negated (test row) b) (others row)) (own row)
              ∙ together_assoc list.negated (test row) (listed (x ∷ []) row) (others row)
              ∙ ap (together list.negated (test row)) (sym (next_rows i x h e row))
              ∙ meant row,
        )

    pub all_met : (met i first count : ℕ) → length comparisons ≤ i → IsMet met i first count → met ≡ word_by (true_with source outer from table condition) first count
    all_met met i first count past (test, so_far, meant) =
        let behind : (row : ℕ) → listed (drop i comparisons) row ≡ list.negated = λ row. ap (λ (members : List (Option Comparison)). listed members row) (drop_all i comparisons past) ∙ none_listed list.negated (with_row row) is.own (there row).0 in
        so_far ∙ word_alike test (true_with source outer from table condition) first count (λ row. sym (behind_all list.negated (test row)) ∙ ap (together list.negated (test row)) (sym (behind row)) ∙ meant row)
