-- Lists of the values of a column of texts.
use Rattle.std.proofs.Common.{◌≡◌, ◌∙◌, refl, sym, ap, ap₂, ℕ, zero, suc, ◌+◌, ◌-◌, ◌*◌, ◌<◌, ◌≤◌, List, [], ◌∷◌, ◌++◌, Bool, true, false, cond, length, take, drop, replicate, get_or, Option, Some, None, Bor, arith}
use Rattle.std.proofs.lemmas.List.{length-drop, length-append, length-replicate, length_push, length-take-le, take-append-le, drop-append-le, take_all, drop-drop, take-take, drop-take}
use Rattle.std.proofs.Math.Nat.{mul-le-mul_left}
use Rattle.std.proofs.lemmas.Str.{IsCharBoundary-from_ascii, IsAscii-append}
use Rattle.std.proofs.lemmas.Str.Ascii.{IsAscii-nil, IsAscii-cons}
use Rattle.std.specs.Str.{IsAscii, IsCharBoundary}
use Rattle.std.specs.Prelude.{slice_range, unwrap_or, is_some, not, IfSome}
use Rattle.std.specs.Option.{option_copied}
use Rattle.definitions.specs.Value.{Value, Null, Text, Texts, SqlType, Char, kind_of}
use Rattle.columns.specs.Texts.{text_values, texts_of}
use Rattle.columns.specs.Cells.{CellList, padded, text_or_null, FitsIn}

-- the value of one cell
abbrev pub text_value : List ℕ → Bool → Value
text_value codes null = cond null Null (Text codes)

pub length-text_values : (n : ℕ) (codes : List ℕ) (nulls : List Bool) → length (text_values n codes nulls) ≡ length nulls
length-text_values n codes [] = refl
length-text_values n codes (b ∷ nulls) = ap suc (length-text_values n (drop n codes) nulls)

-- the characters behind the first text
rest_filled : (n : ℕ) (codes : List ℕ) (b : Bool) (nulls : List Bool) → length codes ≡ n * length (b ∷ nulls) → (n ≤ length codes) × (length (drop n codes) ≡ n * length nulls)
rest_filled n codes b nulls h =
    let k : length codes ≡ n + n * length nulls = omega (arith, h) in
    (omega (arith, k), omega (arith, k, length-drop n codes))

pub text_values-push : (n : ℕ) (codes : List ℕ) (nulls : List Bool) (own : List ℕ) (null : Bool) → length codes ≡ n * length nulls → length own ≡ n
    → text_values n (codes ++ own) (nulls ++ null ∷ []) ≡ text_values n codes nulls ++ text_value own null ∷ []
text_values-push n [] [] own null h l = ap (λ xs. text_value xs null ∷ []) (take_all n own (omega (arith, l)))
text_values-push n (c ∷ codes) [] own null h l = absurd (omega (arith, h))
text_values-push n codes (b ∷ nulls) own null h l =
    let (within, rest) = rest_filled n codes b nulls h in
    let front : take n (codes ++ own) ≡ take n codes = take-append-le n codes own within in
    let back : drop n (codes ++ own) ≡ drop n codes ++ own = drop-append-le n codes own within in
    rw (front, back) (ap (λ vs. text_value (take n codes) b ∷ vs) (text_values-push n (drop n codes) nulls own null rest l))

pub take-text_values : (k n : ℕ) (codes : List ℕ) (nulls : List Bool) → length codes ≡ n * length nulls
    → take k (text_values n codes nulls) ≡ text_values n (take (n * k) codes) (take k nulls)
take-text_values zero n codes nulls h = refl
take-text_values (suc k) n codes [] h = refl
take-text_values (suc k) n codes (b ∷ nulls) h =
    let (within, rest) = rest_filled n codes b nulls h in
    let e : n * suc k ≡ n + n * k = omega arith in
    let front : take n (take (n + n * k) codes) ≡ take n codes = take-take n (n + n * k) codes (omega arith) in
    let back : drop n (take (n + n * k) codes) ≡ take (n * k) (drop n codes) = drop-take n (n * k) codes in
    rw (e, front, back) (ap (λ vs. text_value (take n codes) b ∷ vs) (take-text_values k n (drop n codes) nulls rest))

pub get_or-text_values : (n : ℕ) (codes : List ℕ) (nulls : List Bool) (k : ℕ) (null : Bool) → k < length nulls
    → get_or (text_values n codes nulls) k Null ≡ text_value (take n (drop (n * k) codes)) (get_or nulls k null)
get_or-text_values n codes [] k null h = absurd (omega (arith, h))
get_or-text_values n codes (b ∷ nulls) zero null h = let e : n * zero ≡ 0 = omega arith in rw e refl
get_or-text_values n codes (b ∷ nulls) (suc k) null h =
    let e : n * suc k ≡ n + n * k = omega arith in
    let back : drop (n * k) (drop n codes) ≡ drop (n + n * k) codes = drop-drop (n * k) n codes in
    rw (e, ← back) (get_or-text_values n (drop n codes) nulls k null (omega (arith, h)))

-- the same, of whole columns
pub in_texts : (n : ℕ) (codes : List ℕ) (nulls : List Bool) (v : CellList) (k : ℕ) → length codes ≡ n * length nulls → texts_of n codes nulls ≡ v → k < length v.values
    → (k < length nulls) × (k * n + n ≤ length codes)
in_texts n codes nulls v k h e l =
    let count : length v.values ≡ length nulls = ap (λ (l : CellList). length l.values) (sym e) ∙ length-text_values n codes nulls in
    let m : n * (k + 1) ≤ n * length nulls = mul-le-mul_left n (omega (arith, l, count)) in
    (omega (arith, l, count), omega (arith, m, h))

pub null_in_texts : (n : ℕ) (codes : List ℕ) (nulls : List Bool) (v : CellList) (k : ℕ) (null : Bool) → length codes ≡ n * length nulls → texts_of n codes nulls ≡ v → k < length v.values
    → null ≡ get_or nulls k false → null ≡ true → Null ≡ get_or v.values k Null
null_in_texts n codes nulls v k null h e l i j =
    let own : get_or nulls k false ≡ true = sym i ∙ j in
    ap (text_value (take n (drop (n * k) codes))) (sym own) ∙ sym (get_or-text_values n codes nulls k false (in_texts n codes nulls v k h e l).0) ∙ ap (λ (l : CellList). get_or l.values k Null) e

pub text_in_texts : (n : ℕ) (codes : List ℕ) (nulls : List Bool) (v : CellList) (k : ℕ) (null : Bool) (own : List ℕ) → length codes ≡ n * length nulls → texts_of n codes nulls ≡ v → k < length v.values
    → null ≡ get_or nulls k false → null ≡ false → own ≡ take n (drop (k * n) codes) → Text own ≡ get_or v.values k Null
text_in_texts n codes nulls v k null own h e l i j m =
    let at : k * n ≡ n * k = omega arith in
    let flag : get_or nulls k false ≡ false = sym i ∙ j in
    ap Text (m ∙ ap (λ x. take n (drop x codes)) at) ∙ ap (text_value (take n (drop (n * k) codes))) (sym flag) ∙ sym (get_or-text_values n codes nulls k false (in_texts n codes nulls v k h e l).0)
    ∙ ap (λ (l : CellList). get_or l.values k Null) e

pub pushed_texts : (n : ℕ) (codes codes' own : List ℕ) (nulls nulls' : List Bool) (v : CellList) (null : Bool) → length codes ≡ n * length nulls → texts_of n codes nulls ≡ v
    → length own ≡ n → codes' ≡ codes ++ own → nulls' ≡ nulls ++ null ∷ []
    → texts_of n codes' nulls' ≡ record v { values = v.values ++ text_value own null ∷ [] }
pushed_texts n codes codes' own nulls nulls' v null h e l i j = rw (← e, i, j, text_values-push n codes nulls own null h l) refl

pub cut_texts : (n : ℕ) (codes codes' : List ℕ) (nulls nulls' : List Bool) (v : CellList) (k : ℕ) → length codes ≡ n * length nulls → texts_of n codes nulls ≡ v
    → codes' ≡ take (n * k) codes → nulls' ≡ take k nulls → texts_of n codes' nulls' ≡ record v { values = take k v.values }
cut_texts n codes codes' nulls nulls' v k h e i j = rw (← e, i, j, ← take-text_values k n codes nulls h) refl

-- where characters of ASCII may be cut
pub boundary : (bytes codes : List ℕ) (i : ℕ) → bytes ≡ codes → IsAscii codes → i ≤ length bytes → IsCharBoundary bytes i
boundary bytes codes i e a l = let k : i ≤ length codes = omega (arith, l, ap length e) in rw e (IsCharBoundary-from_ascii codes i a k)

pub own_text : (bytes codes own : List ℕ) (k m n : ℕ) → bytes ≡ codes → m ≡ n → own ≡ slice_range bytes (k * m) (k * m + m) → own ≡ take n (drop (k * n) codes)
own_text bytes codes own k m n e f h =
    let l : k * n + n - k * n ≡ n = omega arith in
    h ∙ ap₂ (λ x y. slice_range x (k * y) (k * y + y)) e f ∙ ap (λ x. take x (drop (k * n) codes)) l

-- the text of a cell, or any text in place of a null
pub pushed_value : (n : ℕ) (o : Option (Bor (List ℕ))) (text e : Bor (List ℕ)) (null : Bool) → text ≡ unwrap_or o e → is_some o ≡ not null
    → text_value (padded n text.now) null ≡ text_or_null (Char n) (option_copied o)
pushed_value n None text e true h i = refl
pushed_value n None text e false h i = absurd cc
pushed_value n (Some t) text e true h i = absurd cc
pushed_value n (Some t) text e false h i = ap (λ (x : Bor (List ℕ)). Text (padded n x.now)) h

pub pushed_fits : (type : SqlType) (n : ℕ) (o : Option (Bor (List ℕ))) (text e : Bor (List ℕ)) → type ≡ Char n → text ≡ unwrap_or o e → e.now ≡ [] → IfSome o (λ t. FitsIn type t.now)
    → (length text.now ≤ n) × IsAscii text.now
pushed_fits type n None text e t h i f =
    let k : text.now ≡ [] = ap (λ (x : Bor (List ℕ)). x.now) h ∙ i in
    rw k (omega arith, IsAscii-nil)
pushed_fits type n (Some x) text e t h i f =
    let k : text.now ≡ x.now = ap (λ (x : Bor (List ℕ)). x.now) h in
    let g = rw t at f in
    rw k g

spaces_ascii : (k : ℕ) → IsAscii (replicate k 32)
spaces_ascii zero = IsAscii-nil
spaces_ascii (suc k) = IsAscii-cons 32 (replicate k 32) (omega arith) (spaces_ascii k)

pub length-padded : (n : ℕ) (codes : List ℕ) → length codes ≤ n → length (padded n codes) ≡ n
length-padded n codes h = omega (arith, length-append codes (replicate (n - length codes) 32), length-replicate {A = ℕ} (n - length codes) 32)

pub padded_ascii : (n : ℕ) (codes : List ℕ) → IsAscii codes → IsAscii (padded n codes)
padded_ascii n codes h = IsAscii-append codes _ h (spaces_ascii (n - length codes))

pub pushed_filled : (n : ℕ) (codes codes' own : List ℕ) (nulls nulls' : List Bool) (null : Bool) → length codes ≡ n * length nulls → length own ≡ n → codes' ≡ codes ++ own → nulls' ≡ nulls ++ null ∷ []
    → length codes' ≡ n * length nulls'
pushed_filled n codes codes' own nulls nulls' null h l e i =
    let k : length nulls' ≡ length nulls + 1 = ap length i ∙ length_push nulls null in
    rw (k, e) (omega (arith, length-append codes own, h, l))

pub cut_filled : (n : ℕ) (codes codes' : List ℕ) (nulls nulls' : List Bool) (k : ℕ) → length codes ≡ n * length nulls → k ≤ length nulls → codes' ≡ take (n * k) codes → nulls' ≡ take k nulls
    → length codes' ≡ n * length nulls'
cut_filled n codes codes' nulls nulls' k h l e i =
    let m : n * k ≤ n * length nulls = mul-le-mul_left n l in
    let a : length codes' ≡ n * k = ap length e ∙ length-take-le (n * k) codes (omega (arith, m, h)) in
    let b : length nulls' ≡ k = ap length i ∙ length-take-le k nulls l in
    rw (a, b) refl

-- so many rows have characters within the memory
pub rows_fit : (n m : ℕ) (codes : List ℕ) (nulls : List Bool) (v : CellList) (k : ℕ) → length codes ≡ n * length nulls → texts_of n codes nulls ≡ v → k ≤ length v.values → m ≡ n
    → (k ≤ length nulls) × (k * m ≤ length codes)
rows_fit n m codes nulls v k h e l i =
    let count : length v.values ≡ length nulls = ap (λ (l : CellList). length l.values) (sym e) ∙ length-text_values n codes nulls in
    let within : k ≤ length nulls = omega (arith, l, count) in
    let bound : n * k ≤ n * length nulls = mul-le-mul_left n within in
    (within, rw i (omega (arith, bound, h)))

pub cut_at : (n m k : ℕ) (codes codes' : List ℕ) → m ≡ n → codes' ≡ take (k * m) codes → codes' ≡ take (n * k) codes
cut_at n m k codes codes' e h = let c : k * n ≡ n * k = omega arith in h ∙ ap (λ x. take (k * x) codes) e ∙ ap (λ x. take x codes) c

pub texts_counted : (n : ℕ) (codes : List ℕ) (nulls : List Bool) (v : CellList) → texts_of n codes nulls ≡ v → length v.values ≡ length nulls
texts_counted n codes nulls v e = ap (λ (l : CellList). length l.values) (sym e) ∙ length-text_values n codes nulls

pub view_type : (n : ℕ) (codes : List ℕ) (nulls : List Bool) (v : CellList) → texts_of n codes nulls ≡ v → kind_of v.type ≡ Texts
view_type n codes nulls v e = ap (λ (l : CellList). kind_of l.type) (sym e)
