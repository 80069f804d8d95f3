-- Lists of columns by their names and numbers.
use Rattle.std.proofs.Common.{◌≡◌, ◌∙◌, refl, sym, ap, ℕ, zero, suc, ◌+◌, ◌-◌, ◌<◌, List, [], ◌∷◌, ◌++◌, Option, Some, None, Bool, true, false, cond, length, map, take, drop, get_or, arith}
use Rattle.std.specs.Prelude.{◌||◌, IsFalse, bytes_eq, option_map, option_and_then}
use Rattle.std.specs.List.{list_any, AllByRecursion, position_from}
use Rattle.std.proofs.lemmas.List.{drop_more, map-append, take_more, take_rest}
use Rattle.definitions.specs.Statement.{Name}
use Rattle.definitions.specs.Table.{Column, AreDistinct, column_number, column_numbers}

-- ---- the number of a name is its first place

shifted : (i : ℕ) (o : Option ℕ) → option_map (λ n. i + 1 + n) o ≡ option_map (λ n. i + n) (option_map (λ n. n + 1) o)
shifted i None = refl
shifted i (Some n) = ap Some (let e : i + 1 + n ≡ i + (n + 1) = omega arith in e)

first_by : (b : Bool) (i : ℕ) (o p : Option ℕ) → p ≡ option_map (λ n. i + 1 + n) o → cond b (Some i) p ≡ option_map (λ n. i + n) (cond b (Some 0) (option_map (λ n. n + 1) o))
first_by true i o p e = ap Some (let z : i ≡ i + 0 = omega arith in z)
first_by false i o p e = e ∙ shifted i o

position_is : (name : Name) (i : ℕ) (cs : List Column) → position_from (λ (c : Column). bytes_eq c.name name) i cs ≡ option_map (λ n. i + n) (column_number cs name)
position_is name i [] = refl
position_is name i (c ∷ cs) = first_by (bytes_eq c.name name) i (column_number cs name) _ (position_is name (i + 1) cs)

from_zero : (o : Option ℕ) → option_map (λ n. 0 + n) o ≡ o
from_zero None = refl
from_zero (Some n) = ap Some (let e : 0 + n ≡ n = omega arith in e)

pub number_is_position : (name : Name) (cs : List Column) → column_number cs name ≡ position_from (λ (c : Column). bytes_eq c.name name) 0 cs
number_is_position name cs = sym (position_is name 0 cs ∙ from_zero (column_number cs name))

-- ---- numbers of names in turn

joined : (ns : Option (List ℕ)) (n : ℕ) (xs : List ℕ) (x : ℕ) (more : Option (List ℕ)) → option_map (λ ms. n ∷ ms) ns ≡ Some xs → ((ys : List ℕ) → ns ≡ Some ys → more ≡ Some (ys ++ x ∷ [])) → option_map (λ ms. n ∷ ms) more ≡ Some (xs ++ x ∷ [])
joined None n xs x more e h = absurd cc
joined (Some ys) n xs x more e h = let same : n ∷ ys ≡ xs = cc in ap (option_map (λ ms. n ∷ ms)) (h ys refl) ∙ ap (λ zs. Some (zs ++ x ∷ [])) same

joined_by : (o : Option ℕ) (ns : Option (List ℕ)) (xs : List ℕ) (x : ℕ) (more : Option (List ℕ)) → option_and_then (λ n. option_map (λ ms. n ∷ ms) ns) o ≡ Some xs → ((ys : List ℕ) → ns ≡ Some ys → more ≡ Some (ys ++ x ∷ []))
    → option_and_then (λ n. option_map (λ ms. n ∷ ms) more) o ≡ Some (xs ++ x ∷ [])
joined_by None ns xs x more e h = absurd cc
joined_by (Some n) ns xs x more e h = joined ns n xs x more e h

single : (o : Option ℕ) (x : ℕ) → o ≡ Some x → option_and_then (λ n. option_map (λ ms. n ∷ ms) (Some [])) o ≡ Some (x ∷ [])
single o x e = rw e refl

numbers_push : (cs : List Column) (names : List Name) (name : Name) (xs : List ℕ) (x : ℕ) → column_numbers cs names ≡ Some xs → column_number cs name ≡ Some x → column_numbers cs (names ++ name ∷ []) ≡ Some (xs ++ x ∷ [])
numbers_push cs [] name xs x e h = let none : [] ≡ xs = cc in single (column_number cs name) x h ∙ ap (λ ys. Some (ys ++ x ∷ [])) none
numbers_push cs (n ∷ names) name xs x e h = joined_by (column_number cs n) (column_numbers cs names) xs x (column_numbers cs (names ++ name ∷ [])) e (λ ys f. numbers_push cs names name ys x f h)

-- the number of the next name behind those so far
pub numbers_further : {X : Type 0} (named : X → Name) (cs : List Column) (xs : List X) (i : ℕ) (x : X) (name : Name) (ns more : List ℕ) (n : ℕ) → i < length xs → x ≡ get_or xs i x → name ≡ named x → column_numbers cs (map named (take i xs)) ≡ Some ns
    → Some n ≡ position_from (λ (c : Column). bytes_eq c.name name) 0 cs → more ≡ ns ++ n ∷ [] → column_numbers cs (map named (take (i + 1) xs)) ≡ Some more
numbers_further named cs xs i x name ns more n h e m f p add =
    let own : column_number cs (named (get_or xs i x)) ≡ Some n = ap (column_number cs) (sym (m ∙ ap named e)) ∙ number_is_position name cs ∙ sym p in
    ap (λ ys. column_numbers cs (map named ys)) (take_more xs i x h) ∙ ap (column_numbers cs) (map-append named (take i xs) (get_or xs i x ∷ [])) ∙ numbers_push cs (map named (take i xs)) (named (get_or xs i x)) ns n f own
    ∙ ap Some (sym add)

no_list : (o : Option ℕ) → option_and_then (λ n. option_map (λ ms. n ∷ ms) None) o ≡ None
no_list None = refl
no_list (Some n) = refl

pub numbers_none : (cs : List Column) (names : List Name) (i : ℕ) (d : Name) → i < length names → column_number cs (get_or names i d) ≡ None → column_numbers cs names ≡ None
numbers_none cs [] i d h e = absurd (omega (arith, h))
numbers_none cs (n ∷ names) zero d h e = ap (option_and_then (λ n. option_map (λ ms. n ∷ ms) (column_numbers cs names))) e
numbers_none cs (n ∷ names) (suc i) d h e =
    ap (λ o. option_and_then (λ n. option_map (λ ms. n ∷ ms) o) (column_number cs n)) (numbers_none cs names i d (omega (arith, h)) e) ∙ no_list (column_number cs n)

pub there_push : (width : ℕ) (numbers : List ℕ) (n : ℕ) → AllByRecursion (λ k. k < width) numbers → n < width → AllByRecursion (λ k. k < width) (numbers ++ n ∷ [])
there_push width [] n h l = (l, tt)
there_push width (m ∷ numbers) n h l = (h.0, there_push width numbers n h.1 l)

-- ---- names that come twice

either_false : (a b : Bool) → (a || b) ≡ false → (a ≡ false) × (b ≡ false)
either_false true b h = absurd cc
either_false false b h = (refl, h)

others_apart : (name : Name) (names : List Name) → list_any (bytes_eq name) names ≡ false → AllByRecursion (λ m. IsFalse (bytes_eq name m)) names
others_apart name [] h = tt
others_apart name (n ∷ names) h = let (first, rest) = either_false (bytes_eq name n) _ h in (first, others_apart name names rest)

other_same : (name : Name) (names : List Name) → list_any (bytes_eq name) names ≡ true → AllByRecursion (λ m. IsFalse (bytes_eq name m)) names → ⊥
other_same name [] h a = cc
other_same name (n ∷ names) h a = other_same name names (let e : (false || list_any (bytes_eq name) names) ≡ true = ap (λ b. b || list_any (bytes_eq name) names) (sym a.0) ∙ h in e) a.1

pub names_here : {X : Type 0} (named : X → Name) (xs : List X) (i : ℕ) (d : X) → i < length xs → map named (drop i xs) ≡ named (get_or xs i d) ∷ map named (drop (i + 1) xs)
names_here named xs i d h = ap (map named) (drop_more xs i d h)

same_rest : {X : Type 0} (named : X → Name) (xs : List X) (i : ℕ) (name : Name) (b : Bool) → b ≡ list_any (bytes_eq name) (map named (take (length xs - (i + 1)) (drop (i + 1) xs)))
    → list_any (bytes_eq name) (map named (drop (i + 1) xs)) ≡ b
same_rest named xs i name b h = ap (λ ys. list_any (bytes_eq name) (map named ys)) (sym (take_rest xs (i + 1))) ∙ sym h

pub twins_here : {X : Type 0} (named : X → Name) (xs : List X) (i : ℕ) (d : X) (b : Bool) → i < length xs → b ≡ list_any (bytes_eq (named (get_or xs i d))) (map named (take (length xs - (i + 1)) (drop (i + 1) xs)))
    → b ≡ true → AreDistinct (map named (drop i xs)) → ⊥
twins_here named xs i d b h t e a = let k = rw (names_here named xs i d h) at a in other_same (named (get_or xs i d)) (map named (drop (i + 1) xs)) (same_rest named xs i _ b t ∙ e) k.0

pub distinct_further : {X : Type 0} (named : X → Name) (xs : List X) (i : ℕ) (d : X) → i < length xs → AreDistinct (map named (drop i xs)) → AreDistinct (map named (drop (i + 1) xs))
distinct_further named xs i d h a = let k = rw (names_here named xs i d h) at a in k.1

pub distinct_here : {X : Type 0} (named : X → Name) (xs : List X) (i : ℕ) (d : X) (b : Bool) → i < length xs → b ≡ list_any (bytes_eq (named (get_or xs i d))) (map named (take (length xs - (i + 1)) (drop (i + 1) xs)))
    → b ≡ false → AreDistinct (map named (drop (i + 1) xs)) → AreDistinct (map named (drop i xs))
distinct_here named xs i d b h t e a = rw (names_here named xs i d h) (others_apart (named (get_or xs i d)) (map named (drop (i + 1) xs)) (same_rest named xs i _ b t ∙ e), a)
