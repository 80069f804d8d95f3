-- A loose reader of certificates' texts. It gives back what has been written, and of other bytes it gives anything.
use Rattle.std.proofs.Common.{◌≡◌, ◌∙◌, refl, ap, ℕ, zero, suc, ◌+◌, ◌*◌, ◌^◌, ◌<◌, ◌≤◌, List, [], ◌∷◌, ◌++◌, Bool, true, false, arith, append_assoc, append-nil, if◌then◌else◌, ◌==◌, get_or, drop, length, Option, Some, None}
use Rattle.std.specs.Prelude.{codes, decimal, ◌&&◌, ◌||◌}
use Rattle.std.specs.List.{list_all, flat_map}
use Rattle.std.proofs.lemmas.List.Concat.{flat_map-cons}
use Rattle.definitions.specs.Printing.{line}
use Rattle.std.specs.Char.{digit_value}
use Rattle.std.specs.Str.Parse.{AllDigits, digits_value_after}
use Rattle.std.proofs.lemmas.Bool.{leb-true, le-leb}
use Rattle.std.proofs.lemmas.Fmt.{decimal_is_IsNumeral, decimal_digit}
use Rattle.std.proofs.lemmas.Str.Parse.{digit_from_value}
use Rattle.definitions.specs.Characters.{is_digit}
use Rattle.definitions.specs.Plans.Path.{Path, SegmentScan, IndexScan, MatchingScan}
use Rattle.definitions.specs.Plans.Plan.{Inner, Plan, Access, Loop, Merge, Sort}
use Rattle.definitions.specs.Plans.Cost.{limit}
use Rattle.definitions.specs.Plans.Certificate.{StateCost}
use Rattle.definitions.specs.Estimates.Version.{Version, One, Two, Three}
use Rattle.definitions.specs.Certificates.Text.{Written, conjuncts_text, direction_text, path_text, sorted_text, plan_text, state_line, first_line, end_line, text_of}
use Rattle.definitions.specs.Certificates.Form.{is_number, is_match, is_path, is_plan, is_state, word_count, word_limit, has_form}

pub and_left : (a b : Bool) → (a && b) ≡ true → a ≡ true
and_left true b h = refl
and_left false b h = h

pub and_right : (a b : Bool) → (a && b) ≡ true → b ≡ true
and_right true b h = h
and_right false b h = absurd (cc)

small : (n : ℕ) → is_number n ≡ true → n < 2 ^ 64
small n h = omega (arith, leb-true n limit h)

-- ---- numbers

-- numbers with a point or a slash between each two, up to another byte; n is what has been read of the first
abbrev pub numbers : ℕ → List ℕ → List ℕ × List ℕ
numbers n [] = (n ∷ [], [])
numbers n (c ∷ cs) =
    if is_digit c then numbers (n * 10 + digit_value c) cs
    else if (c == 46) || (c == 47) then (n ∷ (numbers 0 cs).0, (numbers 0 cs).1)
    else (n ∷ [], c ∷ cs)

a_digit : (c : ℕ) → (48 ≤ c) × (c ≤ 57) → is_digit c ≡ true
a_digit c h = rw (le-leb 48 c h.0, le-leb c 57 h.1) refl

numbers_digits : (n : ℕ) (ds rest : List ℕ) → AllDigits 10 ds → numbers n (ds ++ rest) ≡ numbers (digits_value_after 10 n ds) rest
numbers_digits n [] rest d = refl
numbers_digits n (c ∷ cs) rest d = rw (a_digit c (digit_from_value c d.0)) (numbers_digits (n * 10 + digit_value c) cs rest d.1)

wide_decimal : (n : ℕ) (rest : List ℕ) → n < 2 ^ 64 → numbers 0 (decimal n ++ rest) ≡ numbers n rest
wide_decimal n rest h =
    let k = decimal_is_IsNumeral n h in
    numbers_digits 0 (decimal n) rest k.0.1 ∙ ap (λ m. numbers m rest) k.1

pub numbers_decimal : (n : ℕ) (rest : List ℕ) → is_number n ≡ true → numbers 0 (decimal n ++ rest) ≡ numbers n rest
numbers_decimal n rest h = wide_decimal n rest (small n h)

-- the bytes that end numbers
abbrev pub Ends : ℕ → Type 0
Ends c = (is_digit c ≡ false) × (((c == 46) || (c == 47)) ≡ false)

pub numbers_ended : (n c : ℕ) (rest : List ℕ) → Ends c → numbers n (c ∷ rest) ≡ (n ∷ [], c ∷ rest)
numbers_ended n c rest (d, s) = rw (d, s) refl

wide_number : (n c : ℕ) (rest : List ℕ) → n < 2 ^ 64 → Ends c → numbers 0 (decimal n ++ c ∷ rest) ≡ (n ∷ [], c ∷ rest)
wide_number n c rest h e = wide_decimal n (c ∷ rest) h ∙ numbers_ended n c rest e

pub one_number : (n c : ℕ) (rest : List ℕ) → is_number n ≡ true → Ends c → numbers 0 (decimal n ++ c ∷ rest) ≡ (n ∷ [], c ∷ rest)
one_number n c rest h e = numbers_decimal n (c ∷ rest) h ∙ numbers_ended n c rest e

numbers_conjuncts : (n : ℕ) (gs : List ℕ) (c : ℕ) (rest : List ℕ) → list_all is_number gs ≡ true → Ends c
    → numbers n (conjuncts_text gs ++ c ∷ rest) ≡ (n ∷ gs, c ∷ rest)
numbers_conjuncts n [] c rest h e = numbers_ended n c rest e
numbers_conjuncts n (g ∷ gs) c rest h e =
    let k : numbers 0 ((decimal g ++ conjuncts_text gs) ++ c ∷ rest) ≡ (g ∷ gs, c ∷ rest) =
    ap (numbers 0) (append_assoc (decimal g) (conjuncts_text gs) (c ∷ rest))
    ∙ numbers_decimal g (conjuncts_text gs ++ c ∷ rest) (and_left _ _ h) ∙ numbers_conjuncts g gs c rest (and_right _ _ h) e
    in ap (λ (m : List ℕ × List ℕ). (n ∷ m.0, m.1)) k

-- ---- paths

abbrev pub path_of : List ℕ → Bool → Path
path_of [] backward = SegmentScan 0
path_of (t ∷ []) backward = SegmentScan t
path_of (t ∷ i ∷ []) backward = IndexScan t i backward
path_of (t ∷ i ∷ g ∷ gs) backward = MatchingScan t i (g ∷ gs) backward

-- numbers, and " BACK" behind them or not
abbrev pub path_from : List ℕ × List ℕ → Path × List ℕ
path_from (ns, rest) = if get_or rest 0 0 == 32 then (path_of ns true, drop 5 rest) else (path_of ns false, rest)

abbrev pub path_at : List ℕ → Path × List ℕ
path_at bytes = path_from (numbers 0 (drop (if get_or bytes 0 0 == 77 then 6 else 4) bytes))

directed : (ns : List ℕ) (backward : Bool) (text : List ℕ) (rest : List ℕ)
    → ((c : ℕ) (r : List ℕ) → Ends c → numbers 0 (text ++ c ∷ r) ≡ (ns, c ∷ r))
    → path_from (numbers 0 (text ++ (direction_text backward ++ 41 ∷ rest))) ≡ (path_of ns backward, 41 ∷ rest)
directed ns false text rest h = ap path_from (h 41 rest (refl, refl))
directed ns true text rest h = ap path_from (h 32 (66 ∷ 65 ∷ 67 ∷ 75 ∷ 41 ∷ rest) (refl, refl))

two_numbers : (t i : ℕ) (gs : List ℕ) → is_number t ≡ true → is_number i ≡ true → list_all is_number gs ≡ true
    → (c : ℕ) (r : List ℕ) → Ends c → numbers 0 ((decimal t ++ 46 ∷ (decimal i ++ conjuncts_text gs)) ++ c ∷ r) ≡ (t ∷ i ∷ gs, c ∷ r)
two_numbers t i gs ht hi hg c r e =
    let k : numbers 0 ((decimal i ++ conjuncts_text gs) ++ c ∷ r) ≡ (i ∷ gs, c ∷ r) =
    ap (numbers 0) (append_assoc (decimal i) (conjuncts_text gs) (c ∷ r))
    ∙ numbers_decimal i (conjuncts_text gs ++ c ∷ r) hi ∙ numbers_conjuncts i gs c r hg e
    in
    ap (numbers 0) (append_assoc (decimal t) (46 ∷ (decimal i ++ conjuncts_text gs)) (c ∷ r))
    ∙ numbers_decimal t (46 ∷ ((decimal i ++ conjuncts_text gs) ++ c ∷ r)) ht
    ∙ ap (λ (m : List ℕ × List ℕ). (t ∷ m.0, m.1)) k

index_flat : (t i d r : List ℕ) → (codes "IDX " ++ t ++ codes "." ++ i ++ d) ++ r ≡ codes "IDX " ++ ((t ++ (46 ∷ i)) ++ (d ++ r))
index_flat t i d r = simp append_assoc

match_flat : (t i g d r : List ℕ) → (codes "MATCH " ++ t ++ codes "." ++ i ++ g ++ d) ++ r ≡ codes "MATCH " ++ ((t ++ (46 ∷ (i ++ g))) ++ (d ++ r))
match_flat t i g d r = simp append_assoc

pub match_numbers : (version : Version) (g : ℕ) (gs : List ℕ) → is_match version (g ∷ gs) ≡ true → list_all is_number (g ∷ gs) ≡ true
match_numbers One g [] h = h
match_numbers One g (x ∷ gs) h = absurd (cc)
match_numbers Two g [] h = h
match_numbers Two g (x ∷ gs) h = h
match_numbers Three g [] h = h
match_numbers Three g (x ∷ gs) h = h

no_match : (version : Version) → is_match version [] ≡ true → ⊥
no_match version h = cc

pub path_back : (version : Version) (path : Path) (rest : List ℕ) → is_path version path ≡ true → path_at (path_text path ++ 41 ∷ rest) ≡ (path, 41 ∷ rest)
path_back version (SegmentScan t) rest h = ap path_from (one_number t 41 rest h (refl, refl))
path_back version (IndexScan t i backward) rest h =
    let ht = and_left _ _ (and_left _ _ h) in
    let hi = and_right _ _ (and_left _ _ h) in
    ap path_at (index_flat (decimal t) (decimal i) (direction_text backward) (41 ∷ rest))
    ∙ directed (t ∷ i ∷ []) backward (decimal t ++ 46 ∷ decimal i) rest (λ c r e. ap (λ x. numbers 0 ((decimal t ++ 46 ∷ x) ++ c ∷ r)) (simp append-nil) ∙ two_numbers t i [] ht hi refl c r e)
path_back version (MatchingScan t i [] backward) rest h = absurd (no_match version (and_right _ _ (and_left _ _ h)))
path_back version (MatchingScan t i (g ∷ gs) backward) rest h =
    let ht = and_left _ _ (and_left _ _ (and_left _ _ h)) in
    let hi = and_right _ _ (and_left _ _ (and_left _ _ h)) in
    let hg = match_numbers version g gs (and_right _ _ (and_left _ _ h)) in
    ap path_at (match_flat (decimal t) (decimal i) (conjuncts_text (g ∷ gs)) (direction_text backward) (41 ∷ rest))
    ∙ directed (t ∷ i ∷ g ∷ gs) backward (decimal t ++ 46 ∷ (decimal i ++ conjuncts_text (g ∷ gs))) rest (two_numbers t i (g ∷ gs) ht hi hg)

-- ---- plans

abbrev pub sorted_of : Bool → Path × List ℕ → Inner × List ℕ
sorted_of sorted (path, rest) = (record { path = path; sorted = sorted }, rest)

-- "SORTED " has O as its second letter
abbrev pub inner_at : List ℕ → Inner × List ℕ
inner_at bytes = if get_or bytes 1 0 == 79 then sorted_of true (path_at (drop 7 bytes)) else sorted_of false (path_at bytes)

abbrev pub first_number : List ℕ × List ℕ → ℕ
first_number m = get_or m.0 0 0

-- each is read up to its closing bracket; o is what has been read of the plan inside
abbrev pub access_from : Path × List ℕ → Plan × List ℕ
access_from (path, rest) = (Access path, drop 1 rest)

abbrev pub loop_with : Plan → Path × List ℕ → Plan × List ℕ
loop_with outer (path, rest) = (Loop outer path, drop 1 rest)

abbrev pub loop_from : Plan × List ℕ → Plan × List ℕ
loop_from (outer, rest) = loop_with outer (path_at (drop 1 rest))

abbrev pub merge_by : Plan → ℕ → Inner × List ℕ → Plan × List ℕ
merge_by outer number (inner, rest) = (Merge outer number inner, drop 1 rest)

abbrev pub merge_with : Plan → List ℕ × List ℕ → Plan × List ℕ
merge_with outer (ns, rest) = merge_by outer (get_or ns 0 0) (inner_at (drop 1 rest))

abbrev pub merge_from : Plan × List ℕ → Plan × List ℕ
merge_from (outer, rest) = merge_with outer (numbers 0 (drop 1 rest))

abbrev pub sort_with : Plan → List ℕ × List ℕ → Plan × List ℕ
sort_with input (ns, rest) = (Sort input (get_or ns 0 0), drop 1 rest)

abbrev pub sort_from : Plan × List ℕ → Plan × List ℕ
sort_from (input, rest) = sort_with input (numbers 0 (drop 1 rest))

-- a plan of so many words at most, by its first letter
abbrev pub plan_at : (words : ℕ) → List ℕ → Plan × List ℕ
plan_at zero bytes = (Access (SegmentScan 0), bytes)
plan_at (suc words) bytes =
    if get_or bytes 0 0 == 65 then access_from (path_at (drop 7 bytes))
    else if get_or bytes 0 0 == 76 then loop_from (plan_at words (drop 5 bytes))
    else if get_or bytes 0 0 == 77 then merge_from (plan_at words (drop 6 bytes))
    else sort_from (plan_at words (drop 5 bytes))

inner_back : (version : Version) (inner : Inner) (rest : List ℕ) → is_path version inner.path ≡ true
    → inner_at ((sorted_text inner.sorted ++ path_text inner.path) ++ 41 ∷ rest) ≡ (inner, 41 ∷ rest)
inner_back version inner rest h = of_sorted inner.path inner.sorted h
  where
    unsorted : (path : Path) → is_path version path ≡ true → inner_at (path_text path ++ 41 ∷ rest) ≡ sorted_of false (path_at (path_text path ++ 41 ∷ rest))
    unsorted (SegmentScan t) h = refl
    unsorted (IndexScan t i backward) h = refl
    unsorted (MatchingScan t i gs backward) h = refl

    of_sorted : (path : Path) (sorted : Bool) → is_path version path ≡ true
        → inner_at ((sorted_text sorted ++ path_text path) ++ 41 ∷ rest) ≡ (record { path = path; sorted = sorted }, 41 ∷ rest)
    of_sorted path true h = ap (sorted_of true) (path_back version path rest h)
    of_sorted path false h = unsorted path h ∙ ap (sorted_of false) (path_back version path rest h)

access_flat : (a r : List ℕ) → (codes "ACCESS(" ++ a ++ codes ")") ++ r ≡ codes "ACCESS(" ++ (a ++ (41 ∷ r))
access_flat a r = simp append_assoc

loop_flat : (p a r : List ℕ) → (codes "LOOP(" ++ p ++ codes "," ++ a ++ codes ")") ++ r ≡ codes "LOOP(" ++ (p ++ (44 ∷ (a ++ (41 ∷ r))))
loop_flat p a r = simp append_assoc

merge_flat : (p g s a r : List ℕ) → (codes "MERGE(" ++ p ++ codes "," ++ g ++ codes "," ++ s ++ a ++ codes ")") ++ r ≡ codes "MERGE(" ++ (p ++ (44 ∷ (g ++ (44 ∷ ((s ++ a) ++ (41 ∷ r))))))
merge_flat p g s a r = simp append_assoc

sort_flat : (p k r : List ℕ) → (codes "SORT(" ++ p ++ codes "," ++ k ++ codes ")") ++ r ≡ codes "SORT(" ++ (p ++ (44 ∷ (k ++ (41 ∷ r))))
sort_flat p k r = simp append_assoc

pub plan_back : (version : Version) (words : ℕ) (plan : Plan) (rest : List ℕ) → is_plan version plan ≡ true → word_count plan ≤ words
    → plan_at words (plan_text plan ++ rest) ≡ (plan, rest)
plan_back version zero (Access path) rest h le = absurd (omega (arith, le))
plan_back version zero (Loop outer path) rest h le = absurd (omega (arith, le))
plan_back version zero (Merge outer g inner) rest h le = absurd (omega (arith, le))
plan_back version zero (Sort input k) rest h le = absurd (omega (arith, le))
plan_back version (suc words) (Access path) rest h le =
    ap (plan_at (suc words)) (access_flat (path_text path) rest) ∙ ap access_from (path_back version path rest h)
plan_back version (suc words) (Loop outer path) rest h le =
    ap (plan_at (suc words)) (loop_flat (plan_text outer) (path_text path) rest)
    ∙ ap loop_from (plan_back version words outer (44 ∷ (path_text path ++ 41 ∷ rest)) (and_left _ _ h) (omega (arith, le)))
    ∙ ap (loop_with outer) (path_back version path rest (and_right _ _ h))
plan_back version (suc words) (Merge outer g inner) rest h le =
    let tail : List ℕ = (sorted_text inner.sorted ++ path_text inner.path) ++ 41 ∷ rest in
    ap (plan_at (suc words)) (merge_flat (plan_text outer) (decimal g) (sorted_text inner.sorted) (path_text inner.path) rest)
    ∙ ap merge_from (plan_back version words outer (44 ∷ (decimal g ++ 44 ∷ tail)) (and_left _ _ (and_left _ _ h)) (omega (arith, le)))
    ∙ ap (merge_with outer) (one_number g 44 tail (and_right _ _ (and_left _ _ h)) (refl, refl))
    ∙ ap (merge_by outer g) (inner_back version inner rest (and_right _ _ h))
plan_back version (suc words) (Sort input k) rest h le =
    ap (plan_at (suc words)) (sort_flat (plan_text input) (decimal k) rest)
    ∙ ap sort_from (plan_back version words input (44 ∷ (decimal k ++ 41 ∷ rest)) (and_left _ _ h) (omega (arith, le)))
    ∙ ap (sort_with input) (one_number k 41 rest (and_right _ _ h) (refl, refl))

-- ---- states

-- every number of a text, whatever stands between; n is what has been read of one
abbrev pub scan : Option ℕ → List ℕ → List ℕ
scan None [] = []
scan (Some n) [] = n ∷ []
scan None (c ∷ cs) = if is_digit c then scan (Some (0 * 10 + digit_value c)) cs else scan None cs
scan (Some n) (c ∷ cs) = if is_digit c then scan (Some (n * 10 + digit_value c)) cs else n ∷ scan None cs

scan_digits : (n : ℕ) (ds rest : List ℕ) → AllDigits 10 ds → scan (Some n) (ds ++ rest) ≡ scan (Some (digits_value_after 10 n ds)) rest
scan_digits n [] rest d = refl
scan_digits n (c ∷ cs) rest d = rw (a_digit c (digit_from_value c d.0)) (scan_digits (n * 10 + digit_value c) cs rest d.1)

scan_first : (ds rest : List ℕ) → 0 < length ds → AllDigits 10 ds → scan None (ds ++ rest) ≡ scan (Some (digits_value_after 10 0 ds)) rest
scan_first [] rest some d = absurd (omega (arith, some))
scan_first (c ∷ cs) rest some d = rw (a_digit c (digit_from_value c d.0)) (scan_digits (0 * 10 + digit_value c) cs rest d.1)

scan_ended : (n c : ℕ) (rest : List ℕ) → is_digit c ≡ false → scan (Some n) (c ∷ rest) ≡ n ∷ scan None rest
scan_ended n c rest h = rw h refl

scan_decimal : (n c : ℕ) (rest : List ℕ) → is_number n ≡ true → is_digit c ≡ false → scan None (decimal n ++ c ∷ rest) ≡ n ∷ scan None rest
scan_decimal n c rest h e =
    let k = decimal_is_IsNumeral n (small n h) in
    scan_first (decimal n) (c ∷ rest) k.0.0 k.0.1 ∙ ap (λ m. scan (Some m) (c ∷ rest)) k.1 ∙ scan_ended n c rest e

abbrev pub states_of : List ℕ → List StateCost
states_of (s ∷ k ∷ v ∷ rest) = record { tables = s; order = k; cost = v } ∷ states_of rest
states_of _ = []

state_flat : (s k v x e : List ℕ) → (line (codes "STATE " ++ s ++ codes " " ++ k ++ codes " " ++ v) ++ x) ++ e ≡ codes "STATE " ++ (s ++ (32 ∷ (k ++ (32 ∷ (v ++ (10 ∷ (x ++ e)))))))
state_flat s k v x e = simp append_assoc

states_back : (states : List StateCost) → list_all is_state states ≡ true → states_of (scan None (flat_map state_line states ++ end_line)) ≡ states
states_back [] h = refl
states_back (s ∷ ss) h =
    let own = and_left _ _ h in
    let x : List ℕ = flat_map state_line ss ++ end_line in
    ap (λ l. states_of (scan None (l ++ end_line))) (flat_map-cons state_line s ss)
    ∙ ap (λ l. states_of (scan None l)) (state_flat (decimal s.tables) (decimal s.order) (decimal s.cost) (flat_map state_line ss) end_line)
    ∙ ap states_of (scan_decimal s.tables 32 (decimal s.order ++ 32 ∷ (decimal s.cost ++ 10 ∷ x)) (and_left _ _ (and_left _ _ own)) refl
    ∙ ap (λ l. s.tables ∷ l) (scan_decimal s.order 32 (decimal s.cost ++ 10 ∷ x) (and_right _ _ (and_left _ _ own)) refl)
    ∙ ap (λ l. s.tables ∷ s.order ∷ l) (scan_decimal s.cost 10 x (and_right _ _ own) refl))
    ∙ ap (λ l. s ∷ l) (states_back ss (and_right _ _ h))

-- ---- whole texts

abbrev pub target_read : ℕ → Plan → List ℕ × List ℕ → Written
target_read block plan (ns, rest) = record { block = block; plan = plan; certificate = record { target = get_or ns 0 0; states = states_of (scan None rest) } }

abbrev pub plan_read : ℕ → Plan × List ℕ → Written
plan_read block (plan, rest) = target_read block plan (numbers 0 (drop 8 rest))

abbrev pub block_read : (words : ℕ) → List ℕ × List ℕ → Written
block_read words (ns, rest) = plan_read (get_or ns 0 0) (plan_at words (drop 6 rest))

abbrev pub read : (words : ℕ) → List ℕ → Written
read words bytes = block_read words (numbers 0 (drop 20 bytes))

text_flat : (f b p t x e : List ℕ) → (f ++ line (codes "BLOCK " ++ b) ++ line (codes "PLAN " ++ p) ++ line (codes "TARGET " ++ t) ++ x ++ e)
    ≡ f ++ (codes "BLOCK " ++ (b ++ (codes "\nPLAN " ++ (p ++ (codes "\nTARGET " ++ (t ++ (10 ∷ (x ++ e))))))))
text_flat f b p t x e = simp append_assoc

first_dropped : (version : Version) (rest : List ℕ) → drop 20 (first_line version ++ (codes "BLOCK " ++ rest)) ≡ rest
first_dropped One rest = rw (decimal_digit 1 (omega arith)) refl
first_dropped Two rest = rw (decimal_digit 2 (omega arith)) refl
first_dropped Three rest = rw (decimal_digit 3 (omega arith)) refl

-- the text with other digits for the target
abbrev pub text_with : Version → Written → List ℕ → List ℕ
text_with version said digits =
    first_line version
    ++ line (codes "BLOCK " ++ decimal said.block)
    ++ line (codes "PLAN " ++ plan_text said.plan)
    ++ line (codes "TARGET " ++ digits)
    ++ flat_map state_line said.certificate.states
    ++ end_line

-- what is written is read back, also in some cases that have no form: more words, paths of another version, another target
pub read_digits : (words : ℕ) (version paths : Version) (said : Written) (digits : List ℕ) → word_count said.plan ≤ words → is_number said.block ≡ true → is_plan paths said.plan ≡ true
    → ((rest : List ℕ) → numbers 0 (digits ++ 10 ∷ rest) ≡ (said.certificate.target ∷ [], 10 ∷ rest)) → list_all is_state said.certificate.states ≡ true → read words (text_with version said digits) ≡ said
read_digits words version paths said digits le hb hp ht hs =
    let c = said.certificate in
    let states : List ℕ = flat_map state_line c.states ++ end_line in
    let after_plan : List ℕ = codes "\nTARGET " ++ (digits ++ 10 ∷ states) in
    let after_block : List ℕ = codes "\nPLAN " ++ (plan_text said.plan ++ after_plan) in
    ap (read words) (text_flat (first_line version) (decimal said.block) (plan_text said.plan) digits (flat_map state_line c.states) end_line)
    ∙ ap (λ x. block_read words (numbers 0 x)) (first_dropped version (decimal said.block ++ after_block))
    ∙ ap (block_read words) (one_number said.block 10 (codes "PLAN " ++ (plan_text said.plan ++ after_plan)) hb (refl, refl))
    ∙ ap (plan_read said.block) (plan_back paths words said.plan after_plan hp le)
    ∙ ap (target_read said.block said.plan) (ht states)
    ∙ ap (λ (l : List StateCost). record { block = said.block; plan = said.plan; certificate = record { target = c.target; states = l } }) (states_back c.states hs)

pub read_words : (words : ℕ) (version paths : Version) (said : Written) → word_count said.plan ≤ words → is_number said.block ≡ true → is_plan paths said.plan ≡ true
    → said.certificate.target < 2 ^ 64 → list_all is_state said.certificate.states ≡ true → read words (text_of version said) ≡ said
read_words words version paths said le hb hp ht hs =
    read_digits words version paths said (decimal said.certificate.target) le hb hp (λ rest. wide_number said.certificate.target 10 rest ht (refl, refl)) hs

pub read_back : (words : ℕ) → word_limit ≤ words → (version : Version) (said : Written) → has_form version said ≡ true → read words (text_of version said) ≡ said
read_back words le version said h =
    let h4 = and_left _ _ h in
    let h3 = and_left _ _ h4 in
    let h2 = and_left _ _ h3 in
    read_words words version version said (omega (arith, le, leb-true (word_count said.plan) word_limit (and_right _ _ h3))) (and_left _ _ h2) (and_right _ _ h2)
    (small said.certificate.target (and_right _ _ h4)) (and_right _ _ h)
