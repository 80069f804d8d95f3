-- The laws of the meaning of queries.
use Rattle.std.proofs.Common.{◌≡◌, refl, sym, ap, ap₂, ◌∙◌, subst, ℕ, zero, suc, ◌+◌, ◌<◌, ◌≤◌, List, [], ◌∷◌, ◌++◌, Some, None, true, false, arith}
use Rattle.std.specs.Prelude.{Bool, Option, ◌&&◌, ◌||◌, not, cond, drop, slice_get, unwrap_or, ◌==◌, if◌then◌else◌, flat_map, filter, count_by, IsPermutation}
use Rattle.std.specs.List.{list_all, list_any}
use Rattle.std.proofs.lemmas.List.Folds.{list_all-append}
use Rattle.std.proofs.lemmas.List.Sums.{sum_by-cons}
use Rattle.std.proofs.lemmas.List.Sorted.{IsPermutation-refl, IsPermutation-cons, IsPermutation-middle, IsPermutation-append_right, IsPermutation-sym, IsPermutation-trans, list_any-IsPermutation}
use Rattle.definitions.specs.Arithmetic.{Meaning, Is, Raises}
use Rattle.definitions.specs.Truth.{Truth, False, Unknown, True, and, or, all_true, any_true, is_true}
use Rattle.definitions.specs.Queries.BoundBlock.{Condition, Conditions, NoPart, Part, And, Block, Blocks}
use Rattle.definitions.specs.Queries.BoundBlock as b
use Rattle.definitions.specs.Queries.Evaluation.{Combination, Environment, truth, truths, on_one, on_two}
use Rattle.definitions.specs.Queries.Conjuncts.{late_conjuncts, early_conjuncts, conjuncts, conjuncts_of, conjuncts_of_option, conjuncts_of_parts, is_late}
use Rattle.definitions.specs.Queries.Combinations.{Context, at, all_hold, is_surely_true, all_combinations, passing}
use Rattle.definitions.specs.Queries.Grouping.{same_values, with_element, classes_of, grouping_values}
use Rattle.definitions.specs.Queries.Answer.{block_answer, meanings}
use Rattle.definitions.specs.Table.{Database}
use Rattle.std.proofs.lemmas.Bool.Decides.{nat_tests}
use Rattle.definitions.specs.Queries.Laws.{where_holds, WhereKeepsWhatIsTrue, KeptHasPassed, AllThatPassesIsKept, ToldRowsAreTheSame, GroupingSaysNothing, OrderSaysNothing, GroupsAreAll, BlocksMeanByThoseBehind, BlocksBehindMeanTheSame}

-- ---- truth values

and_assoc : (t u v : Truth) → and t (and u v) ≡ and (and t u) v
and_assoc False u v = refl
and_assoc Unknown False v = refl
and_assoc Unknown Unknown False = refl
and_assoc Unknown Unknown Unknown = refl
and_assoc Unknown Unknown True = refl
and_assoc Unknown True v = refl
and_assoc True u v = refl

or_assoc : (t u v : Truth) → or t (or u v) ≡ or (or t u) v
or_assoc True u v = refl
or_assoc Unknown True v = refl
or_assoc Unknown Unknown False = refl
or_assoc Unknown Unknown Unknown = refl
or_assoc Unknown Unknown True = refl
or_assoc Unknown False v = refl
or_assoc False u v = refl

all_joined : (ts us : List Truth) → all_true (ts ++ us) ≡ and (all_true ts) (all_true us)
all_joined [] us = refl
all_joined (t ∷ ts) us = ap (and t) (all_joined ts us) ∙ and_assoc t (all_true ts) (all_true us)

any_joined : (ts us : List Truth) → any_true (ts ++ us) ≡ or (any_true ts) (any_true us)
any_joined [] us = refl
any_joined (t ∷ ts) us = ap (or t) (any_joined ts us) ∙ or_assoc t (any_true ts) (any_true us)

pub grouping_says_nothing : GroupingSaysNothing
grouping_says_nothing ts us = (all_joined ts us, any_joined ts us)

-- the least and the greatest, by what is among them
abbrev is_false : Truth → Bool
is_false False = true
is_false _ = false

abbrev is_unknown : Truth → Bool
is_unknown Unknown = true
is_unknown _ = false

abbrev pick : Bool → Bool → Truth → Truth → Truth → Truth
pick true u x y z = x
pick false true x y z = y
pick false false x y z = z

all_picked : (ts : List Truth) → all_true ts ≡ pick (list_any is_false ts) (list_any is_unknown ts) False Unknown True
all_picked [] = refl
all_picked (t ∷ ts) = ap (and t) (all_picked ts) ∙ step t (list_any is_false ts) (list_any is_unknown ts)
  where
    step : (t : Truth) (f u : Bool) → and t (pick f u False Unknown True) ≡ pick (is_false t || f) (is_unknown t || u) False Unknown True
    step False f u = refl
    step Unknown true u = refl
    step Unknown false true = refl
    step Unknown false false = refl
    step True f u = refl

any_picked : (ts : List Truth) → any_true ts ≡ pick (list_any is_true ts) (list_any is_unknown ts) True Unknown False
any_picked [] = refl
any_picked (t ∷ ts) = ap (or t) (any_picked ts) ∙ step t (list_any is_true ts) (list_any is_unknown ts)
  where
    step : (t : Truth) (f u : Bool) → or t (pick f u True Unknown False) ≡ pick (is_true t || f) (is_unknown t || u) True Unknown False
    step True f u = refl
    step Unknown true u = refl
    step Unknown false true = refl
    step Unknown false false = refl
    step False f u = refl

pub order_says_nothing : OrderSaysNothing
order_says_nothing ts us h =
    let f = list_any-IsPermutation is_false ts us h in
    let u = list_any-IsPermutation is_unknown ts us h in
    let t = list_any-IsPermutation is_true ts us h in
    (all_picked ts ∙ ap₂ (λ x y. pick x y False Unknown True) f u ∙ sym (all_picked us), any_picked ts ∙ ap₂ (λ x y. pick x y True Unknown False) t u ∙ sym (any_picked us))

-- ---- rows

pub told_rows_are_the_same : ToldRowsAreTheSame
told_rows_are_the_same (Is bag) keys rows rows' h l = IsPermutation-trans rows bag rows' (IsPermutation-sym bag rows h.0) l.0
told_rows_are_the_same (Raises r rs) keys rows rows' h l = absurd h

filter_all : {X : Type 0} (xs : List X) → filter (λ x. true) xs ≡ xs
filter_all [] = refl
filter_all (x ∷ xs) = ap (λ l. x ∷ l) (filter_all xs)

pub all_that_passes_is_kept : AllThatPassesIsKept
all_that_passes_is_kept context b h = ap (λ cs. filter (all_hold context cs) (passing context b)) h ∙ filter_all (passing context b)

filter_step : {X : Type 0} (p : X → Bool) (x : X) (rest filtered : List X) (chosen : Bool) → filter p rest ≡ filtered → filter p (cond chosen (x ∷ rest) rest) ≡ cond (chosen && p x) (x ∷ filtered) filtered
filter_step p x rest filtered true e = ap (λ l. cond (p x) (x ∷ l) l) e
filter_step p x rest filtered false e = e

filter_twice : {X : Type 0} (p q : X → Bool) (xs : List X) → filter p (filter q xs) ≡ filter (λ x. q x && p x) xs
filter_twice p q [] = refl
filter_twice p q (x ∷ xs) = filter_step p x (filter q xs) (filter (λ y. q y && p y) xs) (q x) (filter_twice p q xs)

filter_alike : {X : Type 0} (p q : X → Bool) → ((x : X) → p x ≡ q x) → (xs : List X) → filter p xs ≡ filter q xs
filter_alike p q h [] = refl
filter_alike p q h (x ∷ xs) = ap₂ (λ chosen l. cond chosen (x ∷ l) l) (h x) (filter_alike p q h xs)

count_step : {X : Type 0} (test : X → Bool) (x : X) (rest xs : List X) (chosen : Bool) → count_by test rest ≤ count_by test xs → count_by test (cond chosen (x ∷ rest) rest) ≤ count_by test (x ∷ xs)
count_step test x rest xs true h = let a = sum_by-cons (λ y. cond (test y) 1 0) x rest in let c = sum_by-cons (λ y. cond (test y) 1 0) x xs in omega (arith, a, c, h)
count_step test x rest xs false h = let c = sum_by-cons (λ y. cond (test y) 1 0) x xs in omega (arith, c, h)

count_of_filter : {X : Type 0} (test p : X → Bool) (xs : List X) → count_by test (filter p xs) ≤ count_by test xs
count_of_filter test p [] = omega arith
count_of_filter test p (x ∷ xs) = count_step test x (filter p xs) xs (p x) (count_of_filter test p xs)

pub kept_has_passed : KeptHasPassed
kept_has_passed context b test = count_of_filter test (all_hold context (late_conjuncts b)) (passing context b)

and_swap : (x y z : Bool) → (x && (y && z)) ≡ (y && (x && z))
and_swap true true z = refl
and_swap true false z = refl
and_swap false true z = refl
and_swap false false z = refl

and_joined : (x y z : Bool) → ((x && y) && z) ≡ (x && (y && z))
and_joined true y z = refl
and_joined false y z = refl

part_step : {X : Type 0} (p : X → Bool) (x : X) (early late : List X) (is_late : Bool) (r : Bool) → (list_all p early && list_all p late) ≡ r
    → (list_all p (cond (not is_late) (x ∷ early) early) && list_all p (cond is_late (x ∷ late) late)) ≡ (p x && r)
part_step p x early late true r e = and_swap (list_all p early) (p x) (list_all p late) ∙ ap (λ z. p x && z) e
part_step p x early late false r e = and_joined (p x) (list_all p early) (list_all p late) ∙ ap (λ z. p x && z) e

-- those that pass a test and those that don't are all
all_of_parts : {X : Type 0} (p late : X → Bool) (xs : List X) → (list_all p (filter (λ x. not (late x)) xs) && list_all p (filter late xs)) ≡ list_all p xs
all_of_parts p late [] = refl
all_of_parts p late (x ∷ xs) = part_step p x (filter (λ y. not (late y)) xs) (filter late xs) (late x) (list_all p xs) (all_of_parts p late xs)

abbrev surely : Environment → Condition → Bool
surely env c = is_surely_true (truth env c)

and_one : (x : Bool) → x ≡ (x && true)
and_one true = refl
and_one false = refl

both_surely : (m : Meaning Truth) (ms : Meaning (List Truth)) → is_surely_true (on_one all_true (on_two ◌∷◌ m ms)) ≡ (is_surely_true m && is_surely_true (on_one all_true ms))
both_surely (Raises r rs) ms = refl
both_surely (Is False) (Raises r rs) = refl
both_surely (Is Unknown) (Raises r rs) = refl
both_surely (Is True) (Raises r rs) = refl
both_surely (Is False) (Is ts) = refl
both_surely (Is True) (Is ts) = refl
both_surely (Is Unknown) (Is ts) = unknown (all_true ts)
  where
    unknown : (t : Truth) → is_true (and Unknown t) ≡ false
    unknown False = refl
    unknown Unknown = refl
    unknown True = refl

-- a condition is surely true where its conjuncts are
mutual
  by_conjuncts : (env : Environment) (c : Condition) → surely env c ≡ list_all (surely env) (conjuncts_of c)
  by_conjuncts env (b.And parts) = by_conjuncts_of_parts env parts
  by_conjuncts env c = and_one (surely env c)

  by_conjuncts_of_parts : (env : Environment) (parts : Conditions) → is_surely_true (on_one all_true (truths env parts)) ≡ list_all (surely env) (conjuncts_of_parts parts)
  by_conjuncts_of_parts env NoPart = refl
  by_conjuncts_of_parts env (Part part others) =
      both_surely (truth env part) (truths env others)
      ∙ ap₂ ◌&&◌ (by_conjuncts env part) (by_conjuncts_of_parts env others)
      ∙ sym (list_all-append (surely env) (conjuncts_of part) (conjuncts_of_parts others))

where_by_conjuncts : (context : Context) (condition : Option Condition) (c : Combination) → where_holds context condition c ≡ all_hold context (conjuncts_of_option condition) c
where_by_conjuncts context None c = refl
where_by_conjuncts context (Some condition) c = by_conjuncts (at context c) condition

pub where_keeps_what_is_true : WhereKeepsWhatIsTrue
where_keeps_what_is_true context b =
    filter_twice (all_hold context (late_conjuncts b)) (all_hold context (early_conjuncts b)) (all_combinations context b)
    ∙ filter_alike (λ c. all_hold context (early_conjuncts b) c && all_hold context (late_conjuncts b) c) (where_holds context b.condition) (λ c. all_of_parts (surely (at context c)) is_late (conjuncts b) ∙ sym (where_by_conjuncts context b.condition c)) (all_combinations context b)

-- ---- groups

abbrev joined : {X : Type 0} → List (List X) → List X
joined = flat_map (λ xs. xs)

joins_either : {X : Type 0} (found : Bool) (x : X) (class : List X) (further classes : List (List X)) → IsPermutation (x ∷ joined classes) (joined further)
    → IsPermutation (x ∷ (class ++ joined classes)) (joined (if found then (x ∷ class) ∷ classes else class ∷ further))
joins_either true x class further classes h = IsPermutation-refl (x ∷ (class ++ joined classes))
joins_either false x class further classes h =
    IsPermutation-trans (x ∷ (class ++ joined classes)) (class ++ x ∷ joined classes) (class ++ joined further)
    (IsPermutation-sym (class ++ x ∷ joined classes) (x ∷ (class ++ joined classes)) (IsPermutation-middle class x (joined classes)))
    (IsPermutation-append_right class (x ∷ joined classes) (joined further) h)

element_joins : {X : Type 0} (same : X → X → Bool) (x : X) (classes : List (List X)) → IsPermutation (x ∷ joined classes) (joined (with_element same x classes))
element_joins same x [] = IsPermutation-refl (x ∷ [])
element_joins same x (class ∷ classes) = joins_either (list_any (same x) class) x class (with_element same x classes) classes (element_joins same x classes)

classes_are_all : {X : Type 0} (same : X → X → Bool) (xs : List X) → IsPermutation xs (joined (classes_of same xs))
classes_are_all same [] = IsPermutation-refl []
classes_are_all same (x ∷ xs) =
    IsPermutation-trans (x ∷ xs) (x ∷ joined (classes_of same xs)) (joined (with_element same x (classes_of same xs)))
    (IsPermutation-cons x xs (joined (classes_of same xs)) (classes_are_all same xs))
    (element_joins same x (classes_of same xs))

one_group : {X : Type 0} (xs : List X) → xs ≡ xs ++ []
one_group [] = refl
one_group (x ∷ xs) = ap (λ l. x ∷ l) (one_group xs)

pub groups_are_all : GroupsAreAll
groups_are_all [] cs = subst (IsPermutation cs) (one_group cs) (IsPermutation-refl cs)
groups_are_all (c ∷ columns) cs = classes_are_all (λ x y. same_values (grouping_values (c ∷ columns) x) (grouping_values (c ∷ columns) y)) cs

-- ---- blocks

is_itself : (n k : ℕ) → k ≡ n → (k == n) ≡ true
is_itself n k e = grind (arith, nat_tests, e)

is_other : (n k : ℕ) → n < k → (k == n) ≡ false
is_other n k h = grind (arith, nat_tests, h)

by_those_behind : (db : Database) (n : ℕ) (blocks : Blocks) (k m : ℕ) (b : Block) (outer : List Combination) → m ≡ n + k → slice_get blocks k ≡ Some b
    → meanings db n blocks m outer ≡ block_answer (record { database = db; outer = outer; inner = meanings db (m + 1) (drop (suc k) blocks) }) b
by_those_behind db n [] k m b outer e h = cc
by_those_behind db n (c ∷ bs) zero m b outer e h =
    let is : m ≡ n = omega (arith, e) in
    let same : c ≡ b = ap (λ o. unwrap_or o c) h in
    ap (λ t. (if t then (λ around. block_answer (record { database = db; outer = around; inner = meanings db (n + 1) bs }) c) else meanings db (n + 1) bs m) outer) (is_itself n m is)
    ∙ ap₂ (λ start d. block_answer (record { database = db; outer = outer; inner = meanings db (start + 1) bs }) d) (sym is) same
by_those_behind db n (c ∷ bs) (suc k) m b outer e h =
    ap (λ t. (if t then (λ around. block_answer (record { database = db; outer = around; inner = meanings db (n + 1) bs }) c) else meanings db (n + 1) bs m) outer) (is_other n m (omega (arith, e)))
    ∙ by_those_behind db (n + 1) bs k m b outer (omega (arith, e)) h

behind_the_same : (db : Database) (n : ℕ) (blocks : Blocks) (k m j : ℕ) → m ≡ n + k → m ≤ j → meanings db m (drop k blocks) j ≡ meanings db n blocks j
behind_the_same db n blocks zero m j e h = let is : m ≡ n = omega (arith, e) in ap (λ start. meanings db start blocks j) is
behind_the_same db n [] (suc k) m j e h = refl
behind_the_same db n (c ∷ bs) (suc k) m j e h =
    behind_the_same db (n + 1) bs k m j (omega (arith, e)) h
    ∙ sym (ap (λ t. if t then (λ around. block_answer (record { database = db; outer = around; inner = meanings db (n + 1) bs }) c) else meanings db (n + 1) bs j) (is_other n j (omega (arith, e, h))))

pub blocks_mean_by_those_behind : BlocksMeanByThoseBehind
blocks_mean_by_those_behind db blocks k b outer h =
    let next : suc k ≡ k + 1 = omega arith in
    by_those_behind db 0 blocks k k b outer (omega arith) h ∙ ap (λ n. block_answer (record { database = db; outer = outer; inner = meanings db (k + 1) (drop n blocks) }) b) next

pub blocks_behind_mean_the_same : BlocksBehindMeanTheSame
blocks_behind_mean_the_same db blocks k j h = behind_the_same db 0 blocks (k + 1) (k + 1) j (omega arith) (omega (arith, h))
