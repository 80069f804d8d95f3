-- A text in front of a file is cut off as it is.
use Rattle.std.proofs.Common.{◌≡◌, ◌∙◌, refl, sym, ap, ℕ, ◌<◌, List, [], ◌∷◌, ◌++◌, Bool, true, false, arith, append_assoc, append-nil, length, take, drop, ◌==◌}
use Rattle.std.specs.Prelude.{codes, decimal, not, ◌&&◌, bytes_eq, flat_map, get_or}
use Rattle.std.specs.List.{list_all}
use Rattle.std.specs.Str.Parse.{AllDigits}
use Rattle.std.proofs.lemmas.Bool.{leb-true, ne_eqb}
use Rattle.std.proofs.lemmas.List.Folds.{list_all-append}
use Rattle.std.proofs.lemmas.List.Concat.{flat_map-cons}
use Rattle.std.proofs.lemmas.Fmt.{decimal_is_IsNumeral}
use Rattle.std.proofs.lemmas.Str.Parse.{digit_from_value}
use Rattle.definitions.specs.Printing.{line}
use Rattle.definitions.specs.Plans.Path.{Path, SegmentScan, IndexScan, MatchingScan}
use Rattle.definitions.specs.Plans.Plan.{Plan, Access, Loop, Merge, Sort}
use Rattle.definitions.specs.Plans.Cost.{limit}
use Rattle.definitions.specs.Plans.Certificate.{StateCost}
use Rattle.definitions.specs.Estimates.Version.{Version, One, Two, Three}
use Rattle.definitions.specs.Certificates.Text.{number_of_version}
use Rattle.definitions.specs.Certificates.Text.{Written, conjuncts_text, direction_text, path_text, sorted_text, plan_text, state_line, first_line, end_line, text_of}
use Rattle.definitions.specs.Certificates.Form.{is_number, is_match, is_path, is_plan, is_state, has_form, Says}
use Rattle.definitions.specs.Certificates.Fault.{BadForm, HasFault}
use Rattle.definitions.specs.Certificates.CertifiedBlock.{CertifiedBlock}
use Rattle.std.proofs.lemmas.List.{take-append-drop, length-take}
use Rattle.definitions.specs.Certificates.File.{before_first, lines_of, own_text, lines_behind}
use Rattle.definitions.proofs.CertificateTheory.Reading.{and_left, and_right, match_numbers}

-- without LF
abbrev is_free : List ℕ → Bool
is_free = list_all (λ c. not (c == 10))

abbrev Free : List ℕ → Type 0
Free text = is_free text ≡ true

both_true : (a b : Bool) → a ≡ true → b ≡ true → (a && b) ≡ true
both_true a b h k = rw (h, k) refl

free_both : (a b : List ℕ) → Free a → Free b → Free (a ++ b)
free_both a b h k = list_all-append (λ c. not (c == 10)) a b ∙ both_true (is_free a) (is_free b) h k

free_digits : (ds : List ℕ) → AllDigits 10 ds → Free ds
free_digits [] d = refl
free_digits (c ∷ cs) d =
    let k = digit_from_value c d.0 in
    both_true (not (c == 10)) (is_free cs) (ap not (ne_eqb c 10 (λ e. omega (arith, k, e)))) (free_digits cs d.1)

free_decimal : (n : ℕ) → is_number n ≡ true → Free (decimal n)
free_decimal n h = free_digits (decimal n) (decimal_is_IsNumeral n (omega (arith, leb-true n limit h))).0.1

free_conjuncts : (gs : List ℕ) → list_all is_number gs ≡ true → Free (conjuncts_text gs)
free_conjuncts [] h = refl
free_conjuncts (g ∷ gs) h = free_both (codes "/" ++ decimal g) (conjuncts_text gs) (free_decimal g (and_left _ _ h)) (free_conjuncts gs (and_right _ _ h))

free_direction : (backward : Bool) → Free (direction_text backward)
free_direction true = refl
free_direction false = refl

match_free : (version : Version) (gs : List ℕ) → is_match version gs ≡ true → Free (conjuncts_text gs)
match_free version [] h = refl
match_free version (g ∷ gs) h = free_conjuncts (g ∷ gs) (match_numbers version g gs h)

free_two : (t i : ℕ) (front : List ℕ) → Free front → is_number t ≡ true → is_number i ≡ true → Free (front ++ decimal t ++ codes "." ++ decimal i)
free_two t i front f h k =
    free_both (front ++ decimal t ++ codes ".") (decimal i) (free_both (front ++ decimal t) (codes ".") (free_both front (decimal t) f (free_decimal t h)) refl) (free_decimal i k)

free_path : (version : Version) (path : Path) → is_path version path ≡ true → Free (path_text path)
free_path version (SegmentScan t) h = free_decimal t h
free_path version (IndexScan t i backward) h =
    free_both (codes "IDX " ++ decimal t ++ codes "." ++ decimal i) (direction_text backward)
    (free_two t i (codes "IDX ") refl (and_left _ _ (and_left _ _ h)) (and_right _ _ (and_left _ _ h))) (free_direction backward)
free_path version (MatchingScan t i gs backward) h =
    let front : List ℕ = codes "MATCH " ++ decimal t ++ codes "." ++ decimal i in
    free_both (front ++ conjuncts_text gs) (direction_text backward)
    (free_both front (conjuncts_text gs) (free_two t i (codes "MATCH ") refl (and_left _ _ (and_left _ _ (and_left _ _ h))) (and_right _ _ (and_left _ _ (and_left _ _ h))))
    (match_free version gs (and_right _ _ (and_left _ _ h)))) (free_direction backward)

free_sorted : (sorted : Bool) → Free (sorted_text sorted)
free_sorted true = refl
free_sorted false = refl

free_closed : (a : List ℕ) → Free a → Free (a ++ codes ")")
free_closed a h = free_both a (codes ")") h refl

free_next : (a b : List ℕ) → Free a → Free b → Free (a ++ codes "," ++ b)
free_next a b h k = free_both (a ++ codes ",") b (free_both a (codes ",") h refl) k

free_plan : (version : Version) (plan : Plan) → is_plan version plan ≡ true → Free (plan_text plan)
free_plan version (Access path) h = free_closed (codes "ACCESS(" ++ path_text path) (free_path version path h)
free_plan version (Loop outer path) h =
    free_closed (codes "LOOP(" ++ plan_text outer ++ codes "," ++ path_text path)
    (free_next (codes "LOOP(" ++ plan_text outer) (path_text path) (free_plan version outer (and_left _ _ h)) (free_path version path (and_right _ _ h)))
free_plan version (Merge outer g inner) h =
    let front : List ℕ = codes "MERGE(" ++ plan_text outer ++ codes "," ++ decimal g in
    free_closed (front ++ codes "," ++ sorted_text inner.sorted ++ path_text inner.path)
    (free_both (front ++ codes "," ++ sorted_text inner.sorted) (path_text inner.path)
    (free_next front (sorted_text inner.sorted) (free_next (codes "MERGE(" ++ plan_text outer) (decimal g) (free_plan version outer (and_left _ _ (and_left _ _ h))) (free_decimal g (and_right _ _ (and_left _ _ h)))) (free_sorted inner.sorted))
    (free_path version inner.path (and_right _ _ h)))
free_plan version (Sort input k) h =
    free_closed (codes "SORT(" ++ plan_text input ++ codes "," ++ decimal k)
    (free_next (codes "SORT(" ++ plan_text input) (decimal k) (free_plan version input (and_left _ _ h)) (free_decimal k (and_right _ _ h)))

-- ---- lines

not_ten : (c : ℕ) → not (c == 10) ≡ true → (c == 10) ≡ false
not_ten c h = of_test (c == 10) h
  where
    of_test : (t : Bool) → not t ≡ true → t ≡ false
    of_test true h = absurd (cc)
    of_test false h = refl

pub first_of_lines : (text rest : List ℕ) → Free text → lines_of (text ++ 10 ∷ rest) ≡ (text ++ 10 ∷ []) ∷ lines_of rest
first_of_lines [] rest h = refl
first_of_lines (c ∷ cs) rest h = rw (not_ten c (and_left _ _ h)) (ap (before_first c) (first_of_lines cs rest (and_right _ _ h)))

line_off : (text rest : List ℕ) → Free text → bytes_eq (line text) end_line ≡ false → own_text (lines_of (line text ++ rest)) ≡ line text ++ own_text (lines_of rest)
line_off text rest h e = ap (λ l. own_text (lines_of l)) (append_assoc text (10 ∷ []) rest) ∙ ap own_text (first_of_lines text rest h) ∙ rw e refl

line_behind : (text rest : List ℕ) → Free text → bytes_eq (line text) end_line ≡ false → lines_behind (lines_of (line text ++ rest)) ≡ lines_behind (lines_of rest)
line_behind text rest h e = ap (λ l. lines_behind (lines_of l)) (append_assoc text (10 ∷ []) rest) ∙ ap lines_behind (first_of_lines text rest h) ∙ rw e refl

-- ---- states

abbrev state_words : StateCost → List ℕ
state_words s = codes "STATE " ++ decimal s.tables ++ codes " " ++ decimal s.order ++ codes " " ++ decimal s.cost

free_state : (s : StateCost) → is_state s ≡ true → Free (state_words s)
free_state s h =
    let a : List ℕ = codes "STATE " ++ decimal s.tables in
    let b : List ℕ = a ++ codes " " ++ decimal s.order in
    free_both (b ++ codes " ") (decimal s.cost)
    (free_both b (codes " ") (free_both (a ++ codes " ") (decimal s.order) (free_both a (codes " ") (free_decimal s.tables (and_left _ _ (and_left _ _ h))) refl) (free_decimal s.order (and_right _ _ (and_left _ _ h)))) refl)
    (free_decimal s.cost (and_right _ _ h))

states_off : (ss : List StateCost) (rest : List ℕ) → list_all is_state ss ≡ true → own_text (lines_of (flat_map state_line ss ++ rest)) ≡ flat_map state_line ss ++ own_text (lines_of rest)
states_off [] rest h = refl
states_off (s ∷ ss) rest h =
    ap (λ l. own_text (lines_of (l ++ rest))) (flat_map-cons state_line s ss)
    ∙ ap (λ l. own_text (lines_of l)) (append_assoc (state_line s) (flat_map state_line ss) rest)
    ∙ line_off (state_words s) (flat_map state_line ss ++ rest) (free_state s (and_left _ _ h)) refl
    ∙ ap (λ l. state_line s ++ l) (states_off ss rest (and_right _ _ h))
    ∙ sym (append_assoc (state_line s) (flat_map state_line ss) (own_text (lines_of rest)))
    ∙ ap (λ l. l ++ own_text (lines_of rest)) (sym (flat_map-cons state_line s ss))

states_behind : (ss : List StateCost) (rest : List ℕ) → list_all is_state ss ≡ true → lines_behind (lines_of (flat_map state_line ss ++ rest)) ≡ lines_behind (lines_of rest)
states_behind [] rest h = refl
states_behind (s ∷ ss) rest h =
    ap (λ l. lines_behind (lines_of (l ++ rest))) (flat_map-cons state_line s ss)
    ∙ ap (λ l. lines_behind (lines_of l)) (append_assoc (state_line s) (flat_map state_line ss) rest)
    ∙ line_behind (state_words s) (flat_map state_line ss ++ rest) (free_state s (and_left _ _ h)) refl
    ∙ states_behind ss rest (and_right _ _ h)

-- ---- whole texts

parts_flat : (a b c d x e r : List ℕ) → (a ++ b ++ c ++ d ++ x ++ e) ++ r ≡ a ++ (b ++ (c ++ (d ++ (x ++ (e ++ r)))))
parts_flat a b c d x e r = simp append_assoc

five_flat : (a b c d x e : List ℕ) → (a ++ b ++ c ++ d ++ x ++ e) ≡ a ++ (b ++ (c ++ (d ++ (x ++ e))))
five_flat a b c d x e = simp append_assoc

abbrev first_words : Version → List ℕ
first_words version = codes "CERTIFICATE " ++ decimal (number_of_version version)

free_first : (version : Version) → Free (first_words version)
free_first One = free_decimal 1 refl
free_first Two = free_decimal 2 refl
free_first Three = free_decimal 3 refl

-- a text begins with its version's line
first_line_of : (text rest : List ℕ) → Free text → get_or (lines_of (line text ++ rest)) 0 [] ≡ line text
first_line_of text rest h = ap (λ l. get_or (lines_of l) 0 []) (append_assoc text (10 ∷ []) rest) ∙ ap (λ ls. get_or ls 0 []) (first_of_lines text rest h)

pub first_off : (version : Version) (said : Written) (rest : List ℕ) → get_or (lines_of (text_of version said ++ rest)) 0 [] ≡ first_line version
first_off version said rest =
    let c = said.certificate in
    let b : List ℕ = line (codes "BLOCK " ++ decimal said.block) in
    let p : List ℕ = line (codes "PLAN " ++ plan_text said.plan) in
    let t : List ℕ = line (codes "TARGET " ++ decimal c.target) in
    let x : List ℕ = flat_map state_line c.states in
    ap (λ l. get_or (lines_of l) 0 []) (parts_flat (first_line version) b p t x end_line rest)
    ∙ first_line_of (first_words version) (b ++ (p ++ (t ++ (x ++ (end_line ++ rest))))) (free_first version)

pub text_off : (version : Version) (said : Written) (rest : List ℕ) → has_form version said ≡ true → own_text (lines_of (text_of version said ++ rest)) ≡ text_of version said
text_off version said rest h =
    let c = said.certificate in
    let b : List ℕ = decimal said.block in
    let p : List ℕ = plan_text said.plan in
    let t : List ℕ = decimal c.target in
    let x : List ℕ = flat_map state_line c.states in
    let h4 = and_left _ _ h in
    let h2 = and_left _ _ (and_left _ _ h4) in
    let r4 : List ℕ = x ++ (end_line ++ rest) in
    let r3 : List ℕ = line (codes "TARGET " ++ t) ++ r4 in
    let r2 : List ℕ = line (codes "PLAN " ++ p) ++ r3 in
    let r1 : List ℕ = line (codes "BLOCK " ++ b) ++ r2 in
    ap (λ l. own_text (lines_of l)) (parts_flat (first_line version) (line (codes "BLOCK " ++ b)) (line (codes "PLAN " ++ p)) (line (codes "TARGET " ++ t)) x end_line rest)
    ∙ line_off (first_words version) r1 (free_first version) refl
    ∙ ap (λ l. first_line version ++ l) (line_off (codes "BLOCK " ++ b) r2 (free_decimal said.block (and_left _ _ h2)) refl
    ∙ ap (λ l. line (codes "BLOCK " ++ b) ++ l) (line_off (codes "PLAN " ++ p) r3 (free_plan version said.plan (and_right _ _ h2)) refl
    ∙ ap (λ l. line (codes "PLAN " ++ p) ++ l) (line_off (codes "TARGET " ++ t) r4 (free_decimal c.target (and_right _ _ h4)) refl
    ∙ ap (λ l. line (codes "TARGET " ++ t) ++ l) (states_off c.states (end_line ++ rest) (and_right _ _ h)))))
    ∙ sym (five_flat (first_line version) (line (codes "BLOCK " ++ b)) (line (codes "PLAN " ++ p)) (line (codes "TARGET " ++ t)) x end_line)

pub text_behind : (version : Version) (said : Written) (rest : List ℕ) → has_form version said ≡ true → lines_behind (lines_of (text_of version said ++ rest)) ≡ lines_of rest
text_behind version said rest h =
    let c = said.certificate in
    let b : List ℕ = decimal said.block in
    let p : List ℕ = plan_text said.plan in
    let t : List ℕ = decimal c.target in
    let x : List ℕ = flat_map state_line c.states in
    let h4 = and_left _ _ h in
    let h2 = and_left _ _ (and_left _ _ h4) in
    let r4 : List ℕ = x ++ (end_line ++ rest) in
    let r3 : List ℕ = line (codes "TARGET " ++ t) ++ r4 in
    let r2 : List ℕ = line (codes "PLAN " ++ p) ++ r3 in
    let r1 : List ℕ = line (codes "BLOCK " ++ b) ++ r2 in
    ap (λ l. lines_behind (lines_of l)) (parts_flat (first_line version) (line (codes "BLOCK " ++ b)) (line (codes "PLAN " ++ p)) (line (codes "TARGET " ++ t)) x end_line rest)
    ∙ line_behind (first_words version) r1 (free_first version) refl
    ∙ line_behind (codes "BLOCK " ++ b) r2 (free_decimal said.block (and_left _ _ h2)) refl
    ∙ line_behind (codes "PLAN " ++ p) r3 (free_plan version said.plan (and_right _ _ h2)) refl
    ∙ line_behind (codes "TARGET " ++ t) r4 (free_decimal c.target (and_right _ _ h4)) refl
    ∙ states_behind c.states (end_line ++ rest) (and_right _ _ h)

pub text_cut_off : (version : Version) (bytes rest : List ℕ) (said : Written) → Says version bytes said
    → (own_text (lines_of (bytes ++ rest)) ≡ bytes) × (lines_behind (lines_of (bytes ++ rest)) ≡ lines_of rest)
text_cut_off version bytes rest said (form, is) = (
  ap (λ (l : List ℕ). own_text (lines_of (l ++ rest))) is ∙ text_off version said rest form ∙ sym is,
  ap (λ (l : List ℕ). lines_behind (lines_of (l ++ rest))) is ∙ text_behind version said rest form,
)

pub broken_has_no_form : (block : CertifiedBlock) (bytes : List ℕ) (said : Written) → Says block.version bytes said
    → (n : ℕ) → n < length bytes → HasFault block (take n bytes) BadForm
broken_has_no_form block bytes said says n lt other others =
    let front : own_text (lines_of (take n bytes ++ drop n bytes)) ≡ take n bytes = (text_cut_off block.version (take n bytes) (drop n bytes) other others).0 in
    let whole : own_text (lines_of (bytes ++ [])) ≡ bytes = (text_cut_off block.version bytes [] said says).0 in
    let same : take n bytes ≡ bytes =
    sym front ∙ ap (λ (l : List ℕ). own_text (lines_of l)) (take-append-drop n bytes ∙ sym (append-nil bytes)) ∙ whole in
    omega (arith, lt, ap length same, length-take n bytes)
