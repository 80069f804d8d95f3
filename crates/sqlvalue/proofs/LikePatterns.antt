-- Patterns that ask for a text anywhere or at the front.
use Rattle.std.proofs.Common.{◌≡◌, ◌∙◌, refl, sym, ap, ap₂, ℕ, zero, suc, ◌+◌, ◌<◌, ◌≤◌, List, [], ◌∷◌, ◌++◌, Bool, true, false, length, drop, take, get_or, nat_eq, ◌-◌, arith, inl, inr}
use Rattle.std.specs.Prelude.{◌==◌, ◌&&◌, ◌||◌, ◌⊎◌, nat_lt}
use Rattle.std.specs.Bool.{OnTrue}
use Rattle.std.specs.List.{list_any}
use Rattle.std.proofs.lemmas.Bool.{cases_lt}
use Rattle.std.proofs.lemmas.Bool.Decides.{nat_tests}
use Rattle.std.proofs.lemmas.List.{drop_more, get_or-drop, get_or-take, length-drop, take_all}
use Rattle.definitions.specs.Pattern.{endings, fits}
use Rattle.sqlvalue.specs.LikePatterns.{begins_with, contains, ends_with, is_plain, stand_at}

-- ---- at the front

or_none : (b : Bool) → (b || false) ≡ b
or_none true = refl
or_none false = refl

no_more : (a b : Bool) → b ≡ false → (a && b) ≡ false
no_more true b e = e
no_more false b e = refl

pub too_short : (needle text : List ℕ) → length text < length needle → begins_with needle text ≡ false
too_short [] text h = absurd (let none : ⊥ = omega (arith, h) in none)
too_short (c ∷ needle) [] h = refl
too_short (c ∷ needle) (d ∷ text) h = no_more (c == d) (begins_with needle text) (too_short needle text (omega (arith, h)))

pub begins_from : (needle text : List ℕ) (i : ℕ) → i < length needle → i < length text → begins_with (drop i needle) (drop i text) ≡ ((get_or needle i 0 == get_or text i 0) && begins_with (drop (i + 1) needle) (drop (i + 1) text))
begins_from needle text i h l = ap₂ begins_with (drop_more needle i 0 h) (drop_more text i 0 l)

-- ---- anywhere

found_at : (f : List ℕ → Bool) (t : List ℕ) → f t ≡ true → list_any f (endings t) ≡ true
found_at f [] e = ap (λ b. b || false) e
found_at f (c ∷ t) e = ap (λ b. b || list_any f (endings t)) e

pub contains_here : (needle text : List ℕ) → begins_with needle text ≡ true → contains needle text ≡ true
contains_here needle text e = found_at (begins_with needle) text e

not_here : (f : List ℕ → Bool) (c : ℕ) (t : List ℕ) → f (c ∷ t) ≡ false → list_any f (endings (c ∷ t)) ≡ list_any f (endings t)
not_here f c t e = ap (λ b. b || list_any f (endings t)) e

pub contains_later : (needle text : List ℕ) (i : ℕ) → i < length text → begins_with needle (drop i text) ≡ false → contains needle (drop i text) ≡ contains needle (drop (i + 1) text)
contains_later needle text i h e =
    let first : drop i text ≡ get_or text i 0 ∷ drop (i + 1) text = drop_more text i 0 h in
    ap (contains needle) first ∙ not_here (begins_with needle) (get_or text i 0) (drop (i + 1) text) (ap (begins_with needle) (sym first) ∙ e)

pub contains_past : (needle text : List ℕ) (i n : ℕ) → i + n ≤ length text → ((k : ℕ) → k < n → begins_with needle (drop (i + k) text) ≡ false) → contains needle (drop i text) ≡ contains needle (drop (i + n) text)
contains_past needle text i zero h f = let e : i ≡ i + 0 = omega arith in ap (λ j. contains needle (drop j text)) e
contains_past needle text i (suc n) h f =
    let e : i ≡ i + 0 = omega arith in
    let g : (i + 1) + n ≡ i + suc n = omega arith in
    contains_later needle text i (omega (arith, h)) (ap (λ j. begins_with needle (drop j text)) e ∙ f 0 (omega arith))
    ∙ contains_past needle text (i + 1) n (omega (arith, h)) (λ k l. let m : (i + 1) + k ≡ i + (k + 1) = omega arith in ap (λ j. begins_with needle (drop j text)) m ∙ f (k + 1) (omega (arith, l)))
    ∙ ap (λ j. contains needle (drop j text)) g

-- where its first two characters don't stand, no text begins
no_pair : (a b r : Bool) → (a && b) ≡ false → (a && (b && r)) ≡ false
no_pair true true r e = absurd cc
no_pair true false r e = refl
no_pair false b r e = refl

none_begins : (needle text : List ℕ) (j : ℕ) → 1 < length needle → j + 1 < length text → stand_at (get_or needle 0 0) (get_or needle 1 0) text j ≡ false → begins_with needle (drop j text) ≡ false
none_begins [] text j h l e = let none : ⊥ = omega (arith, h) in absurd none
none_begins (c ∷ []) text j h l e = let none : ⊥ = omega (arith, h) in absurd none
none_begins (c ∷ d ∷ needle) text j h l e =
    let first : drop j text ≡ get_or text j 0 ∷ drop (j + 1) text = drop_more text j 0 (omega (arith, l)) in
    let second : drop (j + 1) text ≡ get_or text (j + 1) 0 ∷ drop ((j + 1) + 1) text = drop_more text (j + 1) 0 l in
    ap (begins_with (c ∷ d ∷ needle)) (first ∙ ap (λ t. get_or text j 0 ∷ t) second) ∙ no_pair (c == get_or text j 0) (d == get_or text (j + 1) 0) (begins_with needle (drop ((j + 1) + 1) text)) e

in_part : (text : List ℕ) (place n k : ℕ) → k < n → get_or (take n (drop place text)) k 0 ≡ get_or text (place + k) 0
in_part text place n k h = get_or-take n (drop place text) k 0 h ∙ get_or-drop place text k 0

pub none_in_eight : (needle text : List ℕ) (place : ℕ) → 1 < length needle → place + 8 < length text → ((k : ℕ) → k < 8 → stand_at (get_or needle 0 0) (get_or needle 1 0) (take 9 (drop place text)) k ≡ false) → (k : ℕ) → k < 8 → begins_with needle (drop (place + k) text) ≡ false
none_in_eight needle text place h l f k m =
    let a = get_or needle 0 0 in
    let b = get_or needle 1 0 in
    let g : place + (k + 1) ≡ (place + k) + 1 = omega arith in
    let same : stand_at a b (take 9 (drop place text)) k ≡ stand_at a b text (place + k) =
    ap₂ (λ x y. (a == x) && (b == y)) (in_part text place 9 k (omega (arith, m))) (in_part text place 9 (k + 1) (omega (arith, m)) ∙ ap (λ j. get_or text j 0) g) in
    none_begins needle text (place + k) h (omega (arith, l, m)) (sym same ∙ f k m)

pub on_true : {P Q : Type 0} (b : Bool) → (P → Q) → OnTrue b P → OnTrue b Q
on_true true f h = f h
on_true false f h = tt

-- ---- patterns

any_fits : (text : List ℕ) → list_any (fits []) (endings text) ≡ true
any_fits [] = refl
any_fits (c ∷ text) = any_fits text

module _ (p : ℕ) (needle : List ℕ) (same : (text : List ℕ) → is_plain needle ≡ true → fits (needle ++ 37 ∷ []) text ≡ begins_with needle text) where
  front_more : (text : List ℕ) (run one : Bool) → (p == 37) ≡ run → (p == 95) ≡ one → is_plain (p ∷ needle) ≡ true → fits (p ∷ (needle ++ 37 ∷ [])) text ≡ begins_with (p ∷ needle) text
  front_more text true one e f h = let bad : false ≡ true = rw e at h in absurd cc
  front_more text false true e f h = let bad : false ≡ true = rw (e, f) at h in absurd cc
  front_more [] false false e f h = rw e refl
  front_more (c ∷ text) false false e f h =
      let plain : is_plain needle ≡ true = rw (e, f) at h in
      rw (e, f) (ap (λ b. (p == c) && b) (same text plain))

pub front_fits : (needle text : List ℕ) → is_plain needle ≡ true → fits (needle ++ 37 ∷ []) text ≡ begins_with needle text
front_fits [] text h = any_fits text
front_fits (p ∷ needle) text h = front_more p needle (front_fits needle) text (p == 37) (p == 95) refl refl h

any_alike : (f g : List ℕ → Bool) → ((t : List ℕ) → f t ≡ g t) → (ts : List (List ℕ)) → list_any f ts ≡ list_any g ts
any_alike f g e [] = refl
any_alike f g e (t ∷ ts) = ap₂ (λ a b. a || b) (e t) (any_alike f g e ts)

pub anywhere_fits : (needle text : List ℕ) → is_plain needle ≡ true → fits (37 ∷ (needle ++ 37 ∷ [])) text ≡ contains needle text
anywhere_fits needle text h = any_alike (fits (needle ++ 37 ∷ [])) (begins_with needle) (λ t. front_fits needle t h) (endings text)

-- a slice to the end of a text
pub to_the_end : (text : List ℕ) (i : ℕ) → take (length text - i) (drop i text) ≡ drop i text
to_the_end text i = take_all (length text - i) (drop i text) (let long : length (drop i text) ≡ length text - i = length-drop i text in omega (arith, long))

pub contains_at_end : (needle : List ℕ) → contains needle [] ≡ nat_eq (length needle) 0
contains_at_end [] = refl
contains_at_end (c ∷ needle) = grind (arith, nat_tests)

-- ---- at the end

-- a pattern in which each character stands for itself fits one text
abbrev pub is_whole : (needle text : List ℕ) → Bool
is_whole [] [] = true
is_whole [] (d ∷ text) = false
is_whole (c ∷ needle) [] = false
is_whole (c ∷ needle) (d ∷ text) = (c == d) && is_whole needle text

module _ (p : ℕ) (needle : List ℕ) (same : (text : List ℕ) → is_plain needle ≡ true → fits needle text ≡ is_whole needle text) where
  whole_more : (text : List ℕ) (run one : Bool) → (p == 37) ≡ run → (p == 95) ≡ one → is_plain (p ∷ needle) ≡ true → fits (p ∷ needle) text ≡ is_whole (p ∷ needle) text
  whole_more text true one e f h = let bad : false ≡ true = rw e at h in absurd cc
  whole_more text false true e f h = let bad : false ≡ true = rw (e, f) at h in absurd cc
  whole_more [] false false e f h = rw e refl
  whole_more (c ∷ text) false false e f h =
      let plain : is_plain needle ≡ true = rw (e, f) at h in
      rw (e, f) (ap (λ b. (p == c) && b) (same text plain))

whole_fits : (needle text : List ℕ) → is_plain needle ≡ true → fits needle text ≡ is_whole needle text
whole_fits [] [] h = refl
whole_fits [] (d ∷ text) h = refl
whole_fits (p ∷ needle) text h = whole_more p needle (whole_fits needle) text (p == 37) (p == 95) refl refl h

longer_is_not : (needle text : List ℕ) → length needle < length text → is_whole needle text ≡ false
longer_is_not needle [] h = let none : ⊥ = omega (arith, h) in absurd none
longer_is_not [] (d ∷ text) h = refl
longer_is_not (c ∷ needle) (d ∷ text) h = no_more (c == d) (is_whole needle text) (longer_is_not needle text (omega (arith, h)))

shorter_is_not : (needle text : List ℕ) → length text < length needle → is_whole needle text ≡ false
shorter_is_not [] text h = let none : ⊥ = omega (arith, h) in absurd none
shorter_is_not (c ∷ needle) [] h = refl
shorter_is_not (c ∷ needle) (d ∷ text) h = no_more (c == d) (is_whole needle text) (shorter_is_not needle text (omega (arith, h)))

of_one_length : (needle text : List ℕ) → length text ≡ length needle → is_whole needle text ≡ begins_with needle text
of_one_length [] [] h = refl
of_one_length [] (d ∷ text) h = let none : ⊥ = omega (arith, h) in absurd none
of_one_length (c ∷ needle) [] h = refl
of_one_length (c ∷ needle) (d ∷ text) h = ap (λ b. (c == d) && b) (of_one_length needle text (omega (arith, h)))

pub too_short_to_end : (needle text : List ℕ) → length text < length needle → ends_with needle text ≡ false
too_short_to_end needle text h = let e : nat_lt (length text) (length needle) ≡ true = grind (arith, nat_tests, h) in rw e refl

pub ends_at : (needle text : List ℕ) → length needle ≤ length text → ends_with needle text ≡ begins_with needle (drop (length text - length needle) text)
ends_at needle text h = let e : nat_lt (length text) (length needle) ≡ false = grind (arith, nat_tests, h) in rw e refl

module _ (needle : List ℕ) (d : ℕ) (text : List ℕ) where
  longer_end : length needle ≤ length text → ends_with needle (d ∷ text) ≡ ends_with needle text
  longer_end h =
      let n : length (d ∷ text) - length needle ≡ suc (length text - length needle) = omega (arith, h) in
      ends_at needle (d ∷ text) (omega (arith, h)) ∙ ap (λ k. begins_with needle (drop k (d ∷ text))) n ∙ sym (ends_at needle text h)

  whole_end : length needle ≡ suc (length text) → ends_with needle (d ∷ text) ≡ is_whole needle (d ∷ text)
  whole_end h =
      let n : length (d ∷ text) - length needle ≡ 0 = omega (arith, h) in
      ends_at needle (d ∷ text) (omega (arith, h)) ∙ ap (λ k. begins_with needle (drop k (d ∷ text))) n ∙ sym (of_one_length needle (d ∷ text) (omega (arith, h)))

  end_by : (length text < length needle) ⊎ (length needle ≤ length text) → (length needle < suc (suc (length text))) ⊎ (suc (suc (length text)) ≤ length needle) → (is_whole needle (d ∷ text) || ends_with needle text) ≡ ends_with needle (d ∷ text)
  end_by (inr h) g = ap (λ b. b || ends_with needle text) (longer_is_not needle (d ∷ text) (omega (arith, h))) ∙ sym (longer_end h)
  end_by (inl h) (inl g) =
      ap (λ b. is_whole needle (d ∷ text) || b) (too_short_to_end needle text h) ∙ or_none (is_whole needle (d ∷ text)) ∙ sym (whole_end (omega (arith, h, g)))
  end_by (inl h) (inr g) =
      ap₂ (λ a b. a || b) (shorter_is_not needle (d ∷ text) (omega (arith, g))) (too_short_to_end needle text h) ∙ sym (too_short_to_end needle (d ∷ text) (omega (arith, g)))

any_whole : (needle text : List ℕ) → list_any (is_whole needle) (endings text) ≡ ends_with needle text
any_whole [] [] = refl
any_whole (c ∷ needle) [] = sym (too_short_to_end (c ∷ needle) [] (omega arith))
any_whole needle (d ∷ text) = ap (λ b. is_whole needle (d ∷ text) || b) (any_whole needle text) ∙ end_by needle d text (cases_lt (length text) (length needle)) (cases_lt (length needle) (suc (suc (length text))))

pub end_fits : (needle text : List ℕ) → is_plain needle ≡ true → fits (37 ∷ needle) text ≡ ends_with needle text
end_fits needle text h = any_alike (fits needle) (is_whole needle) (λ t. whole_fits needle t h) (endings text) ∙ any_whole needle text
