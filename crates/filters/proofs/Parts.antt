-- Parts of early conjuncts, under AND and OR.
use Rattle.std.proofs.Common.{◌≡◌, ◌∙◌, refl, sym, ap, subst, ℕ, zero, suc, ◌<◌, inl, inr, List, [], ◌∷◌, ◌++◌, Bool, true, false, length, map, get_or, arith}
use Rattle.std.specs.Prelude.{◌&&◌, ◌||◌}
use Rattle.std.specs.List.{list_all, list_any}
use Rattle.definitions.specs.Arithmetic.{Meaning, Is, Raises}
use Rattle.definitions.specs.Truth.{Truth, False, Unknown, True, all_true, and, any_true, is_true, or}
use Rattle.definitions.specs.Queries.BoundBlock.{And, Condition, Conditions, NoPart, Or, Part, ValueExpr}
use Rattle.definitions.specs.Queries.Combinations.{is_surely_true}
use Rattle.definitions.specs.Queries.Conjuncts.{values_of, values_of_parts}
use Rattle.definitions.specs.Queries.Evaluation.{Environment, on_one, on_two, truth, truths}
use Rattle.query_tree.specs.Bound.{conditions}
use Rattle.definitions_execution.specs.Lists.{In}
use Rattle.filters.specs.Compiled.{condition_of_test}
use Rattle.filters.specs.JoinFilters.{itself, under_and, under_or, IsEarly, IsEarlyPart, IsOneOf, IsPartOf}
use Rattle.filters.specs.Sources.{BlockSource}
use Rattle.filters.specs.Truths.{is_true_on}
use Rattle.filters.specs.declared.row_test.RowTest.{RowTest}

pub as_part : (source : BlockSource) (condition : Condition) → IsEarly source condition → IsEarlyPart source condition
as_part source condition is = record { whole = condition; early = is; part = itself }

-- ---- the values of a part are among those of the whole

in_front : {X : Type 0} (x : X) (xs ys : List X) → In x xs → In x (xs ++ ys)
in_front x [] ys i = absurd i
in_front x (y ∷ xs) ys (inl e) = inl e
in_front x (y ∷ xs) ys (inr i) = inr (in_front x xs ys i)

behind : {X : Type 0} (x : X) (xs ys : List X) → In x ys → In x (xs ++ ys)
behind x [] ys i = i
behind x (y ∷ xs) ys i = inr (behind x xs ys i)

held_in_one : (parts : Conditions) (part : Condition) (e : ValueExpr) → IsOneOf parts part → In e (values_of part) → In e (values_of_parts parts)
held_in_one NoPart part e i held = absurd i
held_in_one (Part first others) part e (inl same) held = in_front e (values_of first) (values_of_parts others) (subst (λ c. In e (values_of c)) same held)
held_in_one (Part first others) part e (inr i) held = behind e (values_of first) (values_of_parts others) (held_in_one others part e i held)

pub held_in_whole : (whole part : Condition) (e : ValueExpr) → IsPartOf whole part → In e (values_of part) → In e (values_of whole)
held_in_whole whole part e itself held = held
held_in_whole whole part e (under_and parts own is one) held = held_in_whole whole (And parts) e is (held_in_one parts part e one held)
held_in_whole whole part e (under_or parts own is one) held = held_in_whole whole (Or parts) e is (held_in_one parts part e one held)

-- ---- where the whole is told, its parts are

abbrev IsTold : Environment → Condition → Type 0
IsTold env condition = (t : Truth) × (truth env condition ≡ Is t)

told_parts : (f : List Truth → Truth) (m : Meaning (List Truth)) (t : Truth) → on_one f m ≡ Is t → (ts : List Truth) × (m ≡ Is ts)
told_parts f (Is ts) t e = (ts, refl)
told_parts f (Raises r rs) t e = absurd cc

told_two : (m : Meaning Truth) (ms : Meaning (List Truth)) (ts : List Truth) → on_two ◌∷◌ m ms ≡ Is ts → ((t : Truth) × (m ≡ Is t)) × ((us : List Truth) × (ms ≡ Is us))
told_two (Is t) (Is us) ts e = ((t, refl), (us, refl))
told_two (Is t) (Raises r rs) ts e = absurd cc
told_two (Raises r rs) ms ts e = absurd cc

one_told : (env : Environment) (parts : Conditions) (part : Condition) (ts : List Truth) → truths env parts ≡ Is ts → IsOneOf parts part → IsTold env part
one_told env NoPart part ts e i = absurd i
one_told env (Part first others) part ts e (inl same) = subst (IsTold env) (sym same) (told_two (truth env first) (truths env others) ts e).0
one_told env (Part first others) part ts e (inr i) = let rest = (told_two (truth env first) (truths env others) ts e).1 in one_told env others part rest.0 rest.1 i

pub part_told : (env : Environment) (whole part : Condition) → IsTold env whole → IsPartOf whole part → IsTold env part
part_told env whole part told itself = told
part_told env whole part told (under_and parts own is one) =
    let (t, e) = part_told env whole (And parts) told is in
    let (ts, there) = told_parts all_true (truths env parts) t e in
    one_told env parts part ts there one
part_told env whole part told (under_or parts own is one) =
    let (t, e) = part_told env whole (Or parts) told is in
    let (ts, there) = told_parts any_true (truths env parts) t e in
    one_told env parts part ts there one

-- ---- AND is true where all parts are, OR where any is

both_true : (t u : Truth) → is_true (and t u) ≡ (is_true t && is_true u)
both_true False u = refl
both_true Unknown False = refl
both_true Unknown Unknown = refl
both_true Unknown True = refl
both_true True u = refl

either_true : (t u : Truth) → is_true (or t u) ≡ (is_true t || is_true u)
either_true False u = refl
either_true Unknown False = refl
either_true Unknown Unknown = refl
either_true Unknown True = refl
either_true True u = refl

and_false : (b : Bool) → false ≡ (b && false)
and_false true = refl
and_false false = refl

all_next : (m : Meaning Truth) (ms : Meaning (List Truth)) → is_surely_true (on_one all_true (on_two ◌∷◌ m ms)) ≡ (is_surely_true m && is_surely_true (on_one all_true ms))
all_next (Is t) (Is ts) = both_true t (all_true ts)
all_next (Is t) (Raises r rs) = and_false (is_true t)
all_next (Raises r rs) ms = refl

any_next : (m : Meaning Truth) (ms : Meaning (List Truth)) (ts : List Truth) → on_two ◌∷◌ m ms ≡ Is ts → is_surely_true (on_one any_true (on_two ◌∷◌ m ms)) ≡ (is_surely_true m || is_surely_true (on_one any_true ms))
any_next (Is t) (Is us) ts e = either_true t (any_true us)
any_next (Is t) (Raises r rs) ts e = absurd cc
any_next (Raises r rs) ms ts e = absurd cc

abbrev pub parts_of : List RowTest → Conditions
parts_of xs = conditions (map condition_of_test xs)

all_parts : (env : Environment) (xs : List RowTest) → is_true_on env (And (parts_of xs)) ≡ list_all (λ x. is_true_on env (condition_of_test x)) xs
all_parts env [] = refl
all_parts env (x ∷ xs) =
    all_next (truth env (condition_of_test x)) (truths env (parts_of xs))
    ∙ ap (λ b. is_true_on env (condition_of_test x) && b) (all_parts env xs)

any_parts : (env : Environment) (xs : List RowTest) (ts : List Truth) → truths env (parts_of xs) ≡ Is ts → is_true_on env (Or (parts_of xs)) ≡ list_any (λ x. is_true_on env (condition_of_test x)) xs
any_parts env [] ts e = refl
any_parts env (x ∷ xs) ts e =
    let rest = (told_two (truth env (condition_of_test x)) (truths env (parts_of xs)) ts e).1 in
    any_next (truth env (condition_of_test x)) (truths env (parts_of xs)) ts e
    ∙ ap (λ b. is_true_on env (condition_of_test x) || b) (any_parts env xs rest.0 rest.1)

pub all_of_parts : (env : Environment) (condition : Condition) (xs : List RowTest) → condition ≡ And (parts_of xs) → list_all (λ x. is_true_on env (condition_of_test x)) xs ≡ is_true_on env condition
all_of_parts env condition xs same = sym (ap (is_true_on env) same ∙ all_parts env xs)

pub any_of_parts : (env : Environment) (condition : Condition) (xs : List RowTest) → condition ≡ Or (parts_of xs) → IsTold env condition → list_any (λ x. is_true_on env (condition_of_test x)) xs ≡ is_true_on env condition
any_of_parts env condition xs same told =
    let (t, e) = subst (IsTold env) same told in
    let (ts, there) = told_parts any_true (truths env (parts_of xs)) t e in
    sym (ap (is_true_on env) same ∙ any_parts env xs ts there)

-- ---- a part at its place

one_at : (xs : List RowTest) (i : ℕ) (x : RowTest) → i < length xs → x ≡ get_or xs i x → IsOneOf (parts_of xs) (condition_of_test x)
one_at [] i x h e = absurd (omega (arith, h))
one_at (y ∷ ys) zero x h e = inl (ap condition_of_test e)
one_at (y ∷ ys) (suc i) x h e = inr (one_at ys i x (omega (arith, h)) e)

pub and_part : (source : BlockSource) (condition : Condition) (xs : List RowTest) (i : ℕ) (x : RowTest) → condition ≡ And (parts_of xs) → i < length xs → x ≡ get_or xs i x → IsEarlyPart source condition → IsEarlyPart source (condition_of_test x)
and_part source condition xs i x same h e is =
    record { whole = is.whole; early = is.early; part = under_and (parts_of xs) (condition_of_test x) (subst (IsPartOf is.whole) same is.part) (one_at xs i x h e) }

pub or_part : (source : BlockSource) (condition : Condition) (xs : List RowTest) (i : ℕ) (x : RowTest) → condition ≡ Or (parts_of xs) → i < length xs → x ≡ get_or xs i x → IsEarlyPart source condition → IsEarlyPart source (condition_of_test x)
or_part source condition xs i x same h e is =
    record { whole = is.whole; early = is.early; part = under_or (parts_of xs) (condition_of_test x) (subst (IsPartOf is.whole) same is.part) (one_at xs i x h e) }
