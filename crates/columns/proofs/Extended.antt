-- Columns with the values of further rows behind them, which stand together in another column.
use Rattle.std.proofs.Common.{◌≡◌, ◌∙◌, refl, sym, ap, ap₂, ℕ, ◌+◌, ◌-◌, ◌*◌, ◌/◌, ◌%◌, ◌<◌, ◌≤◌, List, [], ◌∷◌, ◌++◌, Bool, false, inl, inr, length, take, drop, get_or, nat_eq, arith}
use Rattle.std.specs.Prelude.{ℤ, All, FitsSigned, slice_range, ◌⊎◌}
use Rattle.std.specs.Int.{bit_at, w64}
use Rattle.std.specs.Str.{IsAscii}
use Rattle.std.proofs.Math.Seq.{take-add, drop-cons, take-append_seam}
use Rattle.std.proofs.Math.Nat.{mul-le-mul_left}
use Rattle.std.proofs.lemmas.Bool.{cases_lt}
use Rattle.std.proofs.lemmas.List.{length-append, length-take-le, length-drop, drop-drop, get_or-take, get_or_append_left, get_or-append_right, take-append-le, drop-append-le, append-nil}
use Rattle.std.proofs.lemmas.List.FromFn.{fill_by_all}
use Rattle.std.proofs.lemmas.List.Elements.{All-append, All-take, All-drop}
use Rattle.std.proofs.lemmas.Str.{IsAscii-append, IsAscii-take, IsAscii-drop}
use Rattle.definitions.specs.Value.{Value, SqlType, Char, scale_of}
use Rattle.definitions.specs.Scanning.{word_of, part_of}
use Rattle.columns.specs.Cells.{CellList}
use Rattle.columns.specs.NullBits.{null_flag}
use Rattle.columns.specs.Numbers.{number_values, numbers_of}
use Rattle.columns.specs.Texts.{text_values, texts_of}
use Rattle.columns.proofs.WordFlags.{bit_at_word}
use Rattle.columns.proofs.NullFlags.{flags, flag_at, flag_read, rows_counted}
use Rattle.columns.proofs.NumberLists.{count, number_value, take-number_values}
use Rattle.columns.proofs.TextLists.{length-text_values, text_value, take-text_values}
use Rattle.columns.proofs.Scans.{drop-number_values, drop-text_values, part-text_values}

-- ---- parts of lists

pub part_long : {A : Type 0} (xs : List A) (from to : ℕ) → from ≤ to → to ≤ length xs → length (take (to - from) (drop from xs)) ≡ to - from
part_long xs from to h l = length-take-le (to - from) (drop from xs) (omega (arith, h, l, length-drop from xs))

-- a part and the next one
pub part_more : {A : Type 0} (old now more xs : List A) (from row n : ℕ) → from ≤ row → now ≡ old ++ take (row - from) (drop from xs) → more ≡ now ++ take n (drop row xs)
    → more ≡ old ++ take (row + n - from) (drop from xs)
part_more {A = A} old now more xs from row n h e f =
    let at : from + (row - from) ≡ row = omega (arith, h) in
    let far : row + n - from ≡ row - from + n = omega (arith, h) in
    let behind : drop (row - from) (drop from xs) ≡ drop row xs = drop-drop (row - from) from xs ∙ ap (λ k. drop k xs) at in
    let whole : take (row + n - from) (drop from xs) ≡ take (row - from) (drop from xs) ++ take n (drop row xs) = ap (λ k. take k (drop from xs)) far ∙ take-add (row - from) n (drop from xs) ∙ ap (λ ys. take (row - from) (drop from xs) ++ take n ys) behind in
    f ∙ ap (λ ys. ys ++ take n (drop row xs)) e ∙ append_again old (take (row - from) (drop from xs)) (take n (drop row xs)) ∙ ap (λ ys. old ++ ys) (sym whole)
  where
    append_again : (xs ys zs : List A) → (xs ++ ys) ++ zs ≡ xs ++ (ys ++ zs)
    append_again [] ys zs = refl
    append_again (x ∷ xs) ys zs = ap (λ ts. x ∷ ts) (append_again xs ys zs)

pub part_one : {A : Type 0} (xs : List A) (row : ℕ) (x d : A) → row < length xs → x ≡ get_or xs row d → x ∷ [] ≡ take 1 (drop row xs)
part_one xs row x d h e = ap (λ y. y ∷ []) e ∙ sym (ap (take 1) (drop-cons xs row d h))

pub beginning_stays : {A : Type 0} (old now more : List A) → now ≡ old ++ more → (length old ≤ length now) × (take (length old) now ≡ old)
beginning_stays old now more e = rw e (let n = length-append old more in omega (arith, n), take-append_seam old more)

-- ---- a word of flags behind others

module _ (words words' : List ℕ) (count more w : ℕ) (old fs : List Bool) (view : flags words count ≡ old) (ended : count % 64 ≡ 0) (enough : count ≤ 64 * length words) (m : more ≡ count + 64) (e : words' ≡ take (count / 64) words ++ w ∷ []) where
  kept : length (take (count / 64) words) ≡ count / 64
  kept = length-take-le (count / 64) words (omega (arith, ended, enough))

  pub words_enough : more ≤ 64 * length words'
  words_enough =
      let n = length-append (take (count / 64) words) (w ∷ []) in
      let l : length words' ≡ length (take (count / 64) words ++ w ∷ []) = ap length e in
      omega (arith, n, l, kept, m, ended)

  word_before : (k : ℕ) → k < count → get_or words' (k / 64) 0 ≡ get_or words (k / 64) 0
  word_before k h =
      let place : k / 64 < count / 64 = omega (arith, h, ended) in
      ap (λ ws. get_or ws (k / 64) 0) e ∙ get_or_append_left (take (count / 64) words) (w ∷ []) 0 (k / 64) (omega (arith, place, kept)) ∙ get_or-take (count / 64) words (k / 64) 0 place

  word_behind : (k : ℕ) → count ≤ k → k < count + 64 → get_or words' (k / 64) 0 ≡ w
  word_behind k h l =
      let place : k / 64 ≡ count / 64 = omega (arith, h, l, ended) in
      let first : k / 64 - count / 64 ≡ 0 = omega (arith, place) in
      ap (λ ws. get_or ws (k / 64) 0) e ∙ get_or-append_right (take (count / 64) words) (w ∷ []) (count / 64) (k / 64) 0 kept (omega (arith, place)) ∙ ap (λ i. get_or (w ∷ []) i 0) first

  pub word_written : length fs ≡ 64 → w ≡ word_of fs → flags words' more ≡ old ++ fs
  word_written long is = ap (λ n. flags words' n) m ∙ sym (fill_by_all (null_flag words') (old ++ fs) (count + 64) false (let n = length-append old fs in omega (arith, n, long, counted)) each)
    where
      counted : count ≡ length old
      counted = rows_counted words count old view

      each : (k : ℕ) → k < count + 64 → get_or (old ++ fs) k false ≡ null_flag words' k
      each k h = of (cases_lt k count)
        where
          of : (k < count) ⊎ (count ≤ k) → get_or (old ++ fs) k false ≡ null_flag words' k
          of (inl l) = get_or_append_left old fs false k (omega (arith, l, counted)) ∙ ap (λ bs. get_or bs k false) (sym view) ∙ flag_at words count k false l ∙ ap (λ x. nat_eq (bit_at x (k % 64)) 1) (sym (word_before k l))
          of (inr l) =
              let bit : k % 64 ≡ k - count = omega (arith, h, l, ended) in
              get_or-append_right old fs count k false (sym counted) l
              ∙ sym (ap₂ (λ x i. nat_eq (bit_at x i) 1) (word_behind k l h ∙ is) bit ∙ ap (λ b. nat_eq b 1) (bit_at_word fs (k - count)) ∙ flag_read (get_or fs (k - count) false))

-- ---- numbers

number_values-append : (scale : ℕ) (us us' : List ℤ) (nulls nulls' : List Bool) → length us ≡ length nulls → number_values scale (us ++ us') (nulls ++ nulls') ≡ number_values scale us nulls ++ number_values scale us' nulls'
number_values-append scale [] us' [] nulls' h = refl
number_values-append scale [] us' (n ∷ ns) nulls' h = absurd (omega (arith, h))
number_values-append scale (u ∷ us) us' [] nulls' h = absurd (omega (arith, h))
number_values-append scale (u ∷ us) us' (n ∷ ns) nulls' h = ap (λ vs. number_value scale u n ∷ vs) (number_values-append scale us us' ns nulls' (omega (arith, h)))

module _ (type type' : SqlType) (us us' more : List ℤ) (nulls nulls' flags' : List Bool) (v v' : CellList) (from to : ℕ) (paired : length us ≡ length nulls) (paired' : length us' ≡ length nulls') (view : numbers_of type us nulls ≡ v) (view' : numbers_of type' us' nulls' ≡ v')
    (alike : v.type ≡ v'.type) (forward : from ≤ to) (within : to ≤ length v'.values) where
  pub numbers_within : (to ≤ length us') × (to ≤ length nulls')
  numbers_within = let n = count type' us' nulls' v' paired' view' in (omega (arith, n, within, paired'), omega (arith, n, within))

  pub numbers_paired : more ≡ us ++ take (to - from) (drop from us') → flags' ≡ nulls ++ take (to - from) (drop from nulls') → length more ≡ length flags'
  numbers_paired e f =
      let a = length-append us (take (to - from) (drop from us')) in
      let b = length-append nulls (take (to - from) (drop from nulls')) in
      let c = part_long us' from to forward numbers_within.0 in
      let d = part_long nulls' from to forward numbers_within.1 in
      let g : length more ≡ length (us ++ take (to - from) (drop from us')) = ap length e in
      let h : length flags' ≡ length (nulls ++ take (to - from) (drop from nulls')) = ap length f in
      omega (arith, a, b, c, d, g, h, paired)

  pub numbers_ranged : All (FitsSigned w64) us → All (FitsSigned w64) us' → more ≡ us ++ take (to - from) (drop from us') → All (FitsSigned w64) more
  numbers_ranged a b e = rw e (All-append (FitsSigned w64) us _ a (All-take (FitsSigned w64) (to - from) _ (All-drop (FitsSigned w64) from us' b)))

  pub numbers_extended : more ≡ us ++ take (to - from) (drop from us') → flags' ≡ nulls ++ take (to - from) (drop from nulls') → numbers_of type more flags' ≡ record v { values = v.values ++ part_of from (to - from) v'.values }
  numbers_extended e f =
      let scales : scale_of type ≡ scale_of type' = ap (λ (l : CellList). scale_of l.type) view ∙ ap scale_of alike ∙ sym (ap (λ (l : CellList). scale_of l.type) view') in
      let part : number_values (scale_of type) (take (to - from) (drop from us')) (take (to - from) (drop from nulls')) ≡ part_of from (to - from) v'.values =
      sym (take-number_values (to - from) (scale_of type) (drop from us') (drop from nulls')) ∙ ap (take (to - from)) (sym (drop-number_values from (scale_of type) us' nulls' paired'))
      ∙ ap (λ s. take (to - from) (drop from (number_values s us' nulls'))) scales ∙ ap (λ (l : CellList). take (to - from) (drop from l.values)) view' in
      ap₂ (λ x y. numbers_of type x y) e f
      ∙ ap (λ vs. record { type = type; values = vs }) (number_values-append (scale_of type) us (take (to - from) (drop from us')) nulls (take (to - from) (drop from nulls')) paired ∙ ap (λ vs. number_values (scale_of type) us nulls ++ vs) part)
      ∙ ap (λ (l : CellList). record l { values = l.values ++ part_of from (to - from) v'.values }) view

-- ---- texts

text_values-append : (n : ℕ) (codes codes' : List ℕ) (nulls nulls' : List Bool) → length codes ≡ n * length nulls → text_values n (codes ++ codes') (nulls ++ nulls') ≡ text_values n codes nulls ++ text_values n codes' nulls'
text_values-append n [] codes' [] nulls' h = refl
text_values-append n (c ∷ codes) codes' [] nulls' h = absurd (omega (arith, h))
text_values-append n codes codes' (b ∷ nulls) nulls' h =
    let k : length codes ≡ n + n * length nulls = omega (arith, h) in
    let within : n ≤ length codes = omega (arith, k) in
    let rest : length (drop n codes) ≡ n * length nulls = omega (arith, k, length-drop n codes) in
    let front : take n (codes ++ codes') ≡ take n codes = take-append-le n codes codes' within in
    let back : drop n (codes ++ codes') ≡ drop n codes ++ codes' = drop-append-le n codes codes' within in
    rw (front, back) (ap (λ vs. text_value (take n codes) b ∷ vs) (text_values-append n (drop n codes) codes' nulls nulls' rest))

parts_wide : (w from to : ℕ) → from ≤ to → to * w - from * w ≡ w * (to - from)
parts_wide w from to h = let z : to ≡ from + (to - from) = omega (arith, h) in let p : w * to ≡ w * (from + (to - from)) = ap (λ x. w * x) z in omega (arith, p)

-- of the first texts only the first characters count
text_values-cut : (n k : ℕ) (codes : List ℕ) (nulls : List Bool) → length codes ≡ n * length nulls → text_values n (take (n * k) codes) (take k nulls) ≡ text_values n codes (take k nulls)
text_values-cut n k codes nulls h = sym (take-text_values k n codes nulls h) ∙ part-text_values k n codes nulls

module _ (n n' w : ℕ) (codes codes' more own : List ℕ) (nulls nulls' flags' : List Bool) (v v' : CellList) (from to : ℕ) (filled : length codes ≡ n * length nulls) (filled' : length codes' ≡ n' * length nulls') (view : texts_of n codes nulls ≡ v) (view' : texts_of n' codes' nulls' ≡ v')
    (alike : v.type ≡ v'.type) (forward : from ≤ to) (within : to ≤ length v'.values) (width : w ≡ n) where
  long_alike : n ≡ n'
  long_alike = of n n' (ap (λ (l : CellList). l.type) view ∙ alike ∙ sym (ap (λ (l : CellList). l.type) view'))
    where
      of : (a b : ℕ) → Char a ≡ Char b → a ≡ b
      of a b e = cc

  pub rows_within : to ≤ length nulls'
  rows_within = let m : length v'.values ≡ length nulls' = ap (λ (l : CellList). length l.values) (sym view') ∙ length-text_values n' codes' nulls' in omega (arith, m, within)

  pub texts_within : (from * w ≤ to * w) × (to * w ≤ length codes')
  texts_within =
      let a : w * from ≤ w * to = mul-le-mul_left w forward in
      let b : w * to ≤ w * length nulls' = mul-le-mul_left w rows_within in
      let c : w * length nulls' ≡ length codes' = ap (λ x. x * length nulls') (width ∙ long_alike) ∙ sym filled' in
      (omega (arith, a), omega (arith, b, c))

  module _ (is : own ≡ slice_range codes' (from * w) (to * w)) (e : more ≡ codes ++ own) (f : flags' ≡ nulls ++ take (to - from) (drop from nulls')) where
    own_is : own ≡ take (n * (to - from)) (drop (from * n') codes')
    own_is =
        let far : to * w - from * w ≡ w * (to - from) = parts_wide w from to forward in
        is ∙ ap (λ k. take k (drop (from * w) codes')) far ∙ ap₂ (λ x y. take (x * (to - from)) (drop (from * y) codes')) width (width ∙ long_alike)

    own_long : length own ≡ n * (to - from)
    own_long =
        let a : length (take (to * w - from * w) (drop (from * w) codes')) ≡ to * w - from * w = part_long codes' (from * w) (to * w) texts_within.0 texts_within.1 in
        let far : to * w - from * w ≡ w * (to - from) = parts_wide w from to forward in
        ap length is ∙ a ∙ far ∙ ap (λ x. x * (to - from)) width

    pub texts_filled : length more ≡ n * length flags'
    texts_filled =
        let a : length more ≡ length codes + length own = ap length e ∙ length-append codes own in
        let b : length flags' ≡ length nulls + (to - from) = ap length f ∙ length-append nulls (take (to - from) (drop from nulls')) ∙ ap (λ k. length nulls + k) (part_long nulls' from to forward rows_within) in
        a ∙ ap₂ (λ x y. x + y) filled own_long ∙ omega arith ∙ ap (λ k. n * k) (sym b)

    pub texts_ascii : IsAscii codes → IsAscii codes' → IsAscii more
    texts_ascii a b = rw (e, own_is) (IsAscii-append codes _ a (IsAscii-take _ (n * (to - from)) (IsAscii-drop codes' (from * n') b)))

    pub texts_extended : texts_of n more flags' ≡ record v { values = v.values ++ part_of from (to - from) v'.values }
    texts_extended =
        let rest : length (drop (from * n') codes') ≡ n * length (drop from nulls') = length-drop (from * n') codes' ∙ ap (λ x. x - from * n') filled' ∙ minus n' (length nulls') from ∙ ap₂ (λ x y. x * y) (sym long_alike) (sym (length-drop from nulls')) in
        let part : text_values n own (take (to - from) (drop from nulls')) ≡ part_of from (to - from) v'.values =
        ap (λ x. text_values n x (take (to - from) (drop from nulls'))) own_is ∙ text_values-cut n (to - from) (drop (from * n') codes') (drop from nulls') rest
        ∙ sym (part-text_values (to - from) n (drop (from * n') codes') (drop from nulls')) ∙ ap (λ x. take (to - from) (text_values x (drop (from * n') codes') (drop from nulls'))) long_alike
        ∙ ap (take (to - from)) (sym (drop-text_values from n' codes' nulls')) ∙ ap (λ (l : CellList). take (to - from) (drop from l.values)) view' in
        ap₂ (λ x y. texts_of n x y) e f
        ∙ ap (λ vs. record { type = Char n; values = vs }) (text_values-append n codes own nulls (take (to - from) (drop from nulls')) filled ∙ ap (λ vs. text_values n codes nulls ++ vs) part)
        ∙ ap (λ (l : CellList). record l { values = l.values ++ part_of from (to - from) v'.values }) view
      where
        minus : (a b c : ℕ) → a * b - c * a ≡ a * (b - c)
        minus a b c = of (cases_lt b c)
          where
            of : (b < c) ⊎ (c ≤ b) → a * b - c * a ≡ a * (b - c)
            of (inl h) = let m : a * b ≤ a * c = mul-le-mul_left a (omega (arith, h)) in let z : b - c ≡ 0 = omega (arith, h) in rw z (omega (arith, m))
            of (inr h) = let m : a * c ≤ a * b = mul-le-mul_left a h in let z : b ≡ c + (b - c) = omega (arith, h) in let p : a * b ≡ a * (c + (b - c)) = ap (λ x. a * x) z in omega (arith, m, p)

-- ---- no further values

pub nothing_added : (v : CellList) (xs : List Value) (from to : ℕ) → from ≡ to → v ≡ record v { values = v.values ++ part_of from (to - from) xs }
nothing_added v xs from to h = let z : to - from ≡ 0 = omega (arith, h) in ap (λ vs. record v { values = vs }) (sym (append-nil v.values) ∙ ap (λ k. v.values ++ take k (drop from xs)) (sym z))
