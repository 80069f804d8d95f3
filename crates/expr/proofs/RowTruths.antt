-- The rows on which conditions are true, by words: what NOT, AND and OR make of them.
use Rattle.std.proofs.Common.{◌≡◌, ◌∙◌, refl, sym, ap, ap₂, subst, ℕ, ◌+◌, ◌-◌, ◌<◌, ◌≤◌, List, [], ◌∷◌, length, map, drop, get_or, Bool, true, false, Option, Some, None, arith, inl, inr}
use Rattle.std.specs.Prelude.{◌&&◌, ◌||◌, IfSome, bit_and, bit_or, ◌⊎◌}
use Rattle.std.specs.List.{range_with_len}
use Rattle.std.proofs.Math.Bool.{not}
use Rattle.std.proofs.lemmas.Bool.{cases_lt}
use Rattle.std.proofs.lemmas.List.{drop_more}
use Rattle.definitions.specs.Arithmetic.{Meaning, Is, Raises}
use Rattle.definitions.specs.Scanning.{word_of}
use Rattle.definitions.specs.Truth.{Truth, False, Unknown, True, and, or, all_true, any_true, compared, compared_with_any, is_true, known, opposite, unless}
use Rattle.definitions.specs.Pattern.{fits, like}
use Rattle.definitions.specs.Value.{Value, Null, Number, Text}
use Rattle.sqlvalue.specs.LikePatterns.{pattern_fits}
use Rattle.sqlvalue.specs.declared.like_pattern.LikePattern.{LikePattern}
use Rattle.definitions.specs.Queries.BoundBlock as spec
use Rattle.definitions.specs.Queries.Combinations.{is_surely_true}
use Rattle.definitions.specs.Queries.Evaluation.{Environment, in_order, member, on_one, on_two, truth, truths, value}
use Rattle.query_tree.specs.Bound.{condition_of, conditions, member_of}
use Rattle.query_tree.specs.declared.condition.Condition.{Condition as Code}
use Rattle.query_tree.specs.declared.value.ValueExpr.{ValueExpr}
use Rattle.definitions.specs.Statement.{ComparisonOperator, Equals}
use Rattle.expr.specs.RowTruths.{common_or_either, of_parts, truth_by, AreTrueRows, IsTold}
use Rattle.expr.specs.declared.row_truths.ValueTest.{ValueTest}
use Rattle.expr.specs.declared.row_truths.ValueTest.TheVariants as test
use Rattle.expr.proofs.Connectives.{and_assoc, and_true, or_assoc, or_false}
use Rattle.expr.proofs.Places.{both_true, rows_alike, word_of-and, word_of-or}

-- of values at places
pub of_places : (on : ℕ → Meaning Truth) (truth : ℕ → Truth) (first count word : ℕ) → ((k : ℕ) → k < count → on (first + k) ≡ Is (truth k)) → word ≡ word_of (map (λ k. is_true (truth k)) (range_with_len 0 count)) → AreTrueRows on first count word
of_places on truth first count word told is =
    let same : (k : ℕ) → k < count → is_surely_true (on (first + k)) ≡ is_true (truth (0 + k)) = λ k less.
    let here : k ≡ 0 + k = omega arith in
    ap is_surely_true (told k less) ∙ ap (λ j. is_true (truth j)) here in (
      is ∙ ap word_of (sym (rows_alike (λ row. is_surely_true (on row)) (λ k. is_true (truth k)) first 0 count same)),
      λ k less. subst IsTold (sym (told k less)) tt,
    )

pub some_places : (o : Option ℕ) (on : ℕ → Meaning Truth) (truth : ℕ → Truth) (first count : ℕ) → ((k : ℕ) → k < count → on (first + k) ≡ Is (truth k)) → IfSome o (λ word. word ≡ word_of (map (λ k. is_true (truth k)) (range_with_len 0 count))) → IfSome o (AreTrueRows on first count)
some_places None on truth first count told h = tt
some_places (Some word) on truth first count told h = of_places on truth first count word told h

pub same_rows : (f g : ℕ → Meaning Truth) (first count word : ℕ) → ((row : ℕ) → f row ≡ g row) → AreTrueRows f first count word → AreTrueRows g first count word
same_rows f g first count word e r = (
  r.0 ∙ ap word_of (rows_alike (λ row. is_surely_true (f row)) (λ row. is_surely_true (g row)) first first count (λ k less. ap is_surely_true (e (first + k)))),
  λ k less. subst IsTold (e (first + k)) (r.1 k less),
)

pub some_rows : (o : Option ℕ) (f g : ℕ → Meaning Truth) (first count : ℕ) → ((row : ℕ) → f row ≡ g row) → IfSome o (AreTrueRows f first count) → IfSome o (AreTrueRows g first count)
some_rows None f g first count e h = tt
some_rows (Some word) f g first count e h = same_rows f g first count word e h

-- no NOT before it
plain : (m : Meaning Truth) → on_one (unless false) m ≡ m
plain (Is t) = refl
plain (Raises r rs) = refl

pub word_alone : (o : Option ℕ) (f : ℕ → Meaning Truth) (first count : ℕ) → IfSome o (AreTrueRows (λ row. on_one (unless false) (f row)) first count) → IfSome o (λ word. word ≡ word_of (map (λ row. is_surely_true (f row)) (range_with_len first count)))
word_alone None f first count h = tt
word_alone (Some word) f first count h = (same_rows (λ row. on_one (unless false) (f row)) f first count word (λ row. plain (f row)) h).0

-- ---- NOT

twice : (t : Truth) → opposite (opposite t) ≡ t
twice False = refl
twice Unknown = refl
twice True = refl

pub nots : (inner : Bool) (t : Truth) → unless (not inner) t ≡ opposite (unless inner t)
nots true t = sym (twice t)
nots false t = refl

-- behind one NOT and another
pub two_nots : {X : Type 0} (both outer inner : Bool) (f g : X → Truth) (m : Meaning X) → ((x : X) → f x ≡ g x) → ((t : Truth) → unless both t ≡ unless outer (unless inner t)) → on_one (λ x. unless both (f x)) m ≡ on_one (unless outer) (on_one (λ x. unless inner (g x)) m)
two_nots both outer inner f g (Is x) same e = ap Is (ap (unless both) (same x) ∙ e (g x))
two_nots both outer inner f g (Raises r rs) same e = refl

pub under_two : (both outer inner : Bool) (m : Meaning Truth) → ((t : Truth) → unless both t ≡ unless outer (unless inner t)) → on_one (unless both) m ≡ on_one (unless outer) (on_one (unless inner) m)
under_two both outer inner (Is t) e = ap Is (e t)
under_two both outer inner (Raises r rs) e = refl

-- another test in place of the one behind NOT
pub under_not : {X Y : Type 0} (negated : Bool) (f g : X → Y → Truth) (m : Meaning X) (n : Meaning Y) → ((x : X) (y : Y) → f x y ≡ unless negated (g x y)) → on_two f m n ≡ on_one (unless negated) (on_two g m n)
under_not negated f g (Is x) (Is y) e = ap Is (e x y)
under_not negated f g (Is x) (Raises r rs) e = refl
under_not negated f g (Raises r rs) n e = refl

-- ---- AND and OR of several

-- of two, all or any
abbrev pub joined : (all : Bool) → Truth → Truth → Truth
joined true = and
joined false = or

either_true : (t u : Truth) → is_true (or t u) ≡ (is_true t || is_true u)
either_true True u = refl
either_true Unknown False = refl
either_true Unknown Unknown = refl
either_true Unknown True = refl
either_true False u = refl

joined_told : (all : Bool) (m n : Meaning Truth) → IsTold m → IsTold n → IsTold (on_two (joined all) m n)
joined_told all (Is a) (Is b) h l = tt
joined_told all (Raises r rs) n h l = absurd h
joined_told all (Is a) (Raises r rs) h l = absurd l

both_sure : (m n : Meaning Truth) → IsTold m → IsTold n → (is_surely_true m && is_surely_true n) ≡ is_surely_true (on_two and m n)
both_sure (Is a) (Is b) h l = sym (both_true a b)
both_sure (Raises r rs) n h l = absurd h
both_sure (Is a) (Raises r rs) h l = absurd l

either_sure : (m n : Meaning Truth) → IsTold m → IsTold n → (is_surely_true m || is_surely_true n) ≡ is_surely_true (on_two or m n)
either_sure (Is a) (Is b) h l = sym (either_true a b)
either_sure (Raises r rs) n h l = absurd h
either_sure (Is a) (Raises r rs) h l = absurd l

module _ (f g : ℕ → Meaning Truth) (first count v w : ℕ) (r : AreTrueRows f first count v) (s : AreTrueRows g first count w) where
  joined_word : (all : Bool) → common_or_either all v w ≡ word_of (map (λ row. is_surely_true (on_two (joined all) (f row) (g row))) (range_with_len first count))
  joined_word true =
      ap₂ bit_and r.0 s.0
      ∙ word_of-and (λ row. is_surely_true (f row)) (λ row. is_surely_true (g row)) (range_with_len first count)
      ∙ ap word_of (rows_alike (λ row. is_surely_true (f row) && is_surely_true (g row)) (λ row. is_surely_true (on_two and (f row) (g row))) first first count (λ k less. both_sure (f (first + k)) (g (first + k)) (r.1 k less) (s.1 k less)))
  joined_word false =
      ap₂ bit_or r.0 s.0
      ∙ word_of-or (λ row. is_surely_true (f row)) (λ row. is_surely_true (g row)) (range_with_len first count)
      ∙ ap word_of (rows_alike (λ row. is_surely_true (f row) || is_surely_true (g row)) (λ row. is_surely_true (on_two or (f row) (g row))) first first count (λ k less. either_sure (f (first + k)) (g (first + k)) (r.1 k less) (s.1 k less)))

  joined_rows : (all : Bool) → AreTrueRows (λ row. on_two (joined all) (f row) (g row)) first count (common_or_either all v w)
  joined_rows all = (joined_word all, λ k less. joined_told all (f (first + k)) (g (first + k)) (r.1 k less) (s.1 k less))

-- a word of those so far, which with the others make the whole
pub record Joined (all : Bool) (whole rest : ℕ → Meaning Truth) (first count word : ℕ) : Type 0 where
  pub so_far : ℕ → Meaning Truth
  pub rows : AreTrueRows so_far first count word
  pub same : (row : ℕ) → on_two (joined all) (so_far row) (rest row) ≡ whole row

first_part : (all : Bool) (m : Meaning Truth) (rest : Meaning (List Truth)) → on_two (joined all) m (on_one (of_parts all) rest) ≡ on_one (of_parts all) (on_two ◌∷◌ m rest)
first_part true (Is a) (Is ts) = refl
first_part false (Is a) (Is ts) = refl
first_part all (Is a) (Raises r rs) = refl
first_part all (Raises r rs) rest = refl

joined_assoc : (all : Bool) (a b c : Truth) → joined all (joined all a b) c ≡ joined all a (joined all b c)
joined_assoc true = and_assoc
joined_assoc false = or_assoc

next_part : (all : Bool) (so_far m : Meaning Truth) (rest : Meaning Truth) → on_two (joined all) (on_two (joined all) so_far m) rest ≡ on_two (joined all) so_far (on_two (joined all) m rest)
next_part all (Is a) (Is b) (Is c) = ap Is (joined_assoc all a b c)
next_part all (Is a) (Is b) (Raises r rs) = refl
next_part all (Is a) (Raises r rs) rest = refl
next_part all (Raises r rs) m rest = refl

no_part : (all : Bool) (m : Meaning Truth) → on_two (joined all) m (on_one (of_parts all) (Is [])) ≡ m
no_part true (Is a) = ap Is (and_true a)
no_part false (Is a) = ap Is (or_false a)
no_part all (Raises r rs) = refl

-- the parts of a list, each by its truth on a row
abbrev pub of_list : {X : Type 0} → (all : Bool) → (ℕ → X → Meaning Truth) → List X → ℕ → Meaning Truth
of_list all f xs row = on_one (of_parts all) (in_order (map (f row) xs))

-- a part on a row, behind NOT where it is negated
abbrev pub part_on : (ℕ → Environment) → (negated : Bool) → ℕ → Code → Meaning Truth
part_on on negated row part = on_one (unless negated) (truth (on row) (condition_of part))

module _ {X : Type 0} (all : Bool) (f : ℕ → X → Meaning Truth) (first count : ℕ) where
  pub begin : (x : X) (xs : List X) (word : ℕ) → AreTrueRows (λ row. f row x) first count word → Joined all (of_list all f (x ∷ xs)) (of_list all f xs) first count word
  begin x xs word r = record { so_far = λ row. f row x; rows = r; same = λ row. first_part all (f row x) (in_order (map (f row) xs)) }

  pub next : (whole : ℕ → Meaning Truth) (items : List X) (i : ℕ) (x : X) (word met : ℕ) → i < length items → x ≡ get_or items i x → Joined all whole (of_list all f (drop i items)) first count word → AreTrueRows (λ row. f row x) first count met
      → Joined all whole (of_list all f (drop (i + 1) items)) first count (common_or_either all word met)
  next whole items i x word met h e j r =
      let here : drop i items ≡ x ∷ drop (i + 1) items = drop_more items i x h ∙ ap (λ y. y ∷ drop (i + 1) items) (sym e) in
      let rest : ℕ → Meaning Truth = of_list all f (drop (i + 1) items) in
      record {
        so_far = λ row. on_two (joined all) (j.so_far row) (f row x);
        rows = joined_rows j.so_far (λ row. f row x) first count word met j.rows r all;
        same = λ row. next_part all (j.so_far row) (f row x) (rest row)
            ∙ ap (on_two (joined all) (j.so_far row)) (first_part all (f row x) (in_order (map (f row) (drop (i + 1) items))) ∙ ap (λ xs. of_list all f xs row) (sym here))
            ∙ j.same row;
      }

  pub end : (whole : ℕ → Meaning Truth) (rest : List X) (word : ℕ) → rest ≡ [] → Joined all whole (of_list all f rest) first count word → AreTrueRows whole first count word
  end whole rest word none j =
      same_rows j.so_far whole first count word (λ row. sym (no_part all (j.so_far row)) ∙ ap (λ xs. on_two (joined all) (j.so_far row) (of_list all f xs row)) (sym none) ∙ j.same row) j.rows

-- NOT before all of them stands before each, and any of them are asked for, and the other way round
record IsDual (all conjoined negated : Bool) : Type 0 where
  pub more : (a b : Truth) → joined all (unless negated a) (unless negated b) ≡ unless negated (joined conjoined a b)
  pub none : of_parts all [] ≡ unless negated (of_parts conjoined [])

module _ {X : Type 0} (all conjoined negated : Bool) (dual : IsDual all conjoined negated) (f : X → Meaning Truth) where
  behind_first : (m : Meaning Truth) (rest : Meaning (List Truth)) → on_two (joined all) (on_one (unless negated) m) (on_one (unless negated) (on_one (of_parts conjoined) rest)) ≡ on_one (unless negated) (on_two (joined conjoined) m (on_one (of_parts conjoined) rest))
  behind_first (Is a) (Is ts) = ap Is (dual.more a (of_parts conjoined ts))
  behind_first (Is a) (Raises r rs) = refl
  behind_first (Raises r rs) rest = refl

  behind : (xs : List X) → on_one (of_parts all) (in_order (map (λ x. on_one (unless negated) (f x)) xs)) ≡ on_one (unless negated) (on_one (of_parts conjoined) (in_order (map f xs)))
  behind [] = ap Is dual.none
  behind (x ∷ xs) =
      sym (first_part all (on_one (unless negated) (f x)) (in_order (map (λ y. on_one (unless negated) (f y)) xs)))
      ∙ ap (on_two (joined all) (on_one (unless negated) (f x))) (behind xs)
      ∙ behind_first (f x) (in_order (map f xs))
      ∙ ap (on_one (unless negated)) (first_part conjoined (f x) (in_order (map f xs)))

not_and : (a b : Truth) → or (opposite a) (opposite b) ≡ opposite (and a b)
not_and False b = refl
not_and Unknown False = refl
not_and Unknown Unknown = refl
not_and Unknown True = refl
not_and True b = refl

not_or : (a b : Truth) → and (opposite a) (opposite b) ≡ opposite (or a b)
not_or True b = refl
not_or Unknown True = refl
not_or Unknown Unknown = refl
not_or Unknown False = refl
not_or False b = refl

and_dual : (negated : Bool) → IsDual (not negated) true negated
and_dual true = record { more = not_and; none = refl }
and_dual false = record { more = λ a b. refl; none = refl }

or_dual : (negated : Bool) → IsDual negated false negated
or_dual true = record { more = not_or; none = refl }
or_dual false = record { more = λ a b. refl; none = refl }

truths_are : (env : Environment) (parts : List Code) → in_order (map (λ part. truth env (condition_of part)) parts) ≡ truths env (conditions (map condition_of parts))
truths_are env [] = refl
truths_are env (x ∷ xs) = ap (on_two ◌∷◌ (truth env (condition_of x))) (truths_are env xs)

pub of_and_parts : (env : Environment) (negated : Bool) (parts : List Code) → on_one (of_parts (not negated)) (in_order (map (λ part. on_one (unless negated) (truth env (condition_of part))) parts)) ≡ on_one (unless negated) (truth env (spec.And (conditions (map condition_of parts))))
of_and_parts env negated parts = behind (not negated) true negated (and_dual negated) (λ part. truth env (condition_of part)) parts ∙ ap (λ ts. on_one (unless negated) (on_one all_true ts)) (truths_are env parts)

pub of_or_parts : (env : Environment) (negated : Bool) (parts : List Code) → on_one (of_parts negated) (in_order (map (λ part. on_one (unless negated) (truth env (condition_of part))) parts)) ≡ on_one (unless negated) (truth env (spec.Or (conditions (map condition_of parts))))
of_or_parts env negated parts = behind negated false negated (or_dual negated) (λ part. truth env (condition_of part)) parts ∙ ap (λ ts. on_one (unless negated) (on_one any_true ts)) (truths_are env parts)

-- ---- tests of one value

abbrev pub tested : (ℕ → Environment) → ValueTest → (negated : Bool) → spec.ValueExpr → ℕ → Meaning Truth
tested on test negated e row = on_one (λ v. unless negated (truth_by test v)) (value (on row) e)

pub tested_is : (on : ℕ → Environment) (test : ValueTest) (negated : Bool) (e : spec.ValueExpr) (row : ℕ) (v : Value) → value (on row) e ≡ Is v → tested on test negated e row ≡ Is (unless negated (truth_by test v))
tested_is on test negated e row v h = ap (on_one (λ w. unless negated (truth_by test w))) h

pub met_is : (m : Meaning Truth) (t : Truth) (met : Bool) → m ≡ Is t → met ≡ is_true t → met ≡ is_surely_true m
met_is m t met h e = e ∙ sym (ap is_surely_true h)

pub told_is : (m : Meaning Truth) (t : Truth) → m ≡ Is t → IsTold m
told_is m t h = subst IsTold (sym h) tt

-- what holds of a place and of those behind it
from_one : (P : ℕ → Type 0) (place k : ℕ) → (place < k) ⊎ (k ≤ place) → place ≤ k → P place → (place + 1 ≤ k → P k) → P k
from_one P place k (inl h) l here behind = behind (omega (arith, h))
from_one P place k (inr h) l here behind = subst P (let e : place ≡ k = omega (arith, h, l) in e) here

pub one_place_more : (P : ℕ → Type 0) (place count : ℕ) → P place → ((k : ℕ) → place + 1 ≤ k → k < count → P k) → (k : ℕ) → place ≤ k → k < count → P k
one_place_more P place count here behind k l m = from_one P place k (cases_lt place k) l here (λ h. behind k h m)

-- the word of all places
pub all_places : (on : ℕ → Meaning Truth) (first count place word : ℕ) → place ≤ 0 → word ≡ word_of (map (λ k. is_surely_true (on (first + k))) (range_with_len place (count - place))) → ((k : ℕ) → place ≤ k → k < count → IsTold (on (first + k))) → AreTrueRows on first count word
all_places on first count place word none is told =
    let zero_place : place ≡ 0 = omega (arith, none) in
    let whole : count - place ≡ count = omega (arith, none) in
    let same : word ≡ word_of (map (λ k. is_surely_true (on (first + k))) (range_with_len 0 count)) = is ∙ ap₂ (λ p n. word_of (map (λ k. is_surely_true (on (first + k))) (range_with_len p n))) zero_place whole in (
      same ∙ ap word_of (sym (rows_alike (λ row. is_surely_true (on row)) (λ k. is_surely_true (on (first + k))) first 0 count (λ k less. let here : first + k ≡ first + (0 + k) = omega arith in ap (λ row. is_surely_true (on row)) here))),
      λ k less. told k (omega (arith, none)) less,
    )

-- a pattern as it was taken apart means the same
pub like_is : (pattern : LikePattern) (codes : List ℕ) → ((text : List ℕ) → pattern_fits pattern text ≡ fits codes text) → (v : Value) → truth_by (test.Like pattern) v ≡ like codes v
like_is pattern codes e (Text text) = ap known (e text)
like_is pattern codes e Null = refl
like_is pattern codes e (Number units scale) = refl

-- ---- lists of members

map_alike : {X Y : Type 0} (f g : X → Y) → ((x : X) → f x ≡ g x) → (xs : List X) → map f xs ≡ map g xs
map_alike f g e [] = refl
map_alike f g e (x ∷ xs) = ap₂ (λ y ys. y ∷ ys) (e x) (map_alike f g e xs)

compared_next : (v : Value) (m : Meaning Value) (rest : Meaning (List Value)) → on_two ◌∷◌ (on_two (compared Equals) (Is v) m) (on_one (map (compared Equals v)) rest) ≡ on_one (map (compared Equals v)) (on_two ◌∷◌ m rest)
compared_next v (Is w) (Is vs) = refl
compared_next v (Is w) (Raises r rs) = refl
compared_next v (Raises r rs) rest = refl

-- a member of a list on a row, compared with a value
abbrev pub with_member : (ℕ → Environment) → ComparisonOperator → spec.ValueExpr → ℕ → Option ValueExpr → Meaning Truth
with_member on op e row m = on_two (compared op) (value (on row) e) (member (on row) (member_of m))

module _ (env : Environment) where
  compared_all : (v : Value) (xs : List (Option ValueExpr)) → in_order (map (λ m. on_two (compared Equals) (Is v) (member env (member_of m))) xs) ≡ on_one (map (compared Equals v)) (in_order (map (member env) (map member_of xs)))
  compared_all v [] = refl
  compared_all v (x ∷ xs) = ap (on_two ◌∷◌ (on_two (compared Equals) (Is v) (member env (member_of x)))) (compared_all v xs) ∙ compared_next v (member env (member_of x)) (in_order (map (member env) (map member_of xs)))

  any_compared : (v : Value) (m : Meaning (List Value)) → on_one any_true (on_one (map (compared Equals v)) m) ≡ on_two (compared_with_any Equals) (Is v) m
  any_compared v (Is vs) = refl
  any_compared v (Raises r rs) = refl

  any_member : (m : Meaning Value) (x : Option ValueExpr) (xs : List (Option ValueExpr)) → on_one any_true (in_order (map (λ y. on_two (compared Equals) m (member env (member_of y))) (x ∷ xs))) ≡ on_two (compared_with_any Equals) m (in_order (map (member env) (map member_of (x ∷ xs))))
  any_member (Is v) x xs = ap (on_one any_true) (compared_all v (x ∷ xs)) ∙ any_compared v (in_order (map (member env) (map member_of (x ∷ xs))))
  any_member (Raises r rs) x xs = refl

  pub in_list : (negated : Bool) (op : ComparisonOperator) (m : Meaning Value) (x : Option ValueExpr) (xs : List (Option ValueExpr)) → ((v w : Value) → compared op v w ≡ unless negated (compared Equals v w))
      → on_one (of_parts negated) (in_order (map (λ y. on_two (compared op) m (member env (member_of y))) (x ∷ xs))) ≡ on_one (unless negated) (on_two (compared_with_any Equals) m (in_order (map (member env) (map member_of (x ∷ xs)))))
  in_list negated op m x xs e =
      ap (λ ts. on_one (of_parts negated) (in_order ts)) (map_alike (λ y. on_two (compared op) m (member env (member_of y))) (λ y. on_one (unless negated) (on_two (compared Equals) m (member env (member_of y)))) (λ y. under_not negated (compared op) (compared Equals) m (member env (member_of y)) e) (x ∷ xs))
      ∙ behind negated false negated (or_dual negated) (λ y. on_two (compared Equals) m (member env (member_of y))) (x ∷ xs)
      ∙ ap (on_one (unless negated)) (any_member m x xs)

-- ---- comparisons of values as they stand

abbrev pub comparison_on : (ℕ → Environment) → ComparisonOperator → (left right : spec.ValueExpr) → ℕ → Meaning Truth
comparison_on on op left right row = on_two (compared op) (value (on row) left) (value (on row) right)
