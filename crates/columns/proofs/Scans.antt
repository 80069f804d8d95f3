-- From the words of units, texts and null bits to those of a scan.
use Rattle.std.proofs.Common.{◌≡◌, ◌∙◌, refl, sym, ap, ap₂, ℕ, zero, suc, ◌+◌, ◌-◌, ◌*◌, ◌^◌, ◌≤◌, List, [], ◌∷◌, Bool, true, false, cond, length, map, take, drop, arith}
use Rattle.std.specs.Prelude.{ℤ, All, FitsSigned, not, ◌&&◌, int_le, None, option_map, unwrap_or, is_none}
use Rattle.std.specs.Int.{w64}
use Rattle.std.specs.Int.Bits.{bit_and}
use Rattle.std.proofs.lemmas.List.{length-map, length-take-le, length-drop, drop-drop, take_all}
use Rattle.std.proofs.Math.Nat.{mul-le-mul_left}
use Rattle.std.proofs.lemmas.List.Elements.{All-head, All-tail, All-take, All-drop}
use Rattle.definitions.specs.Value.{Value, Null, Number, Text, SqlType, scale_of, number_cmp, text_cmp, compare}
use Rattle.definitions.specs.Statement.{ComparisonOperator}
use Rattle.definitions.specs.Truth.{agrees, truth_of}
use Rattle.definitions.specs.Scanning.{word_of, part_of, true_word, unknown_word}
use Rattle.sqlvalue.specs.Meaning.{value_of}
use Rattle.sqlvalue.specs.declared.value.Value as sqlvalue
use Rattle.sqlvalue.specs.declared.value.Value.TheVariants as v
use Rattle.columns.specs.Cells.{CellList}
use Rattle.columns.specs.Numbers.{number_values, numbers_of}
use Rattle.columns.specs.Texts.{text_values, texts_of}
use Rattle.columns.specs.TextRows.{texts_in}
use Rattle.columns.specs.Ranges.{is_in}
use Rattle.columns.specs.declared.range.UnitRange.{UnitRange}
use Rattle.columns.proofs.WordFlags.{and_flags, word_of-not, word_of-below, word_of-none_mapped, word_of-ones_mapped}
use Rattle.columns.proofs.NumberLists.{take-number_values, length-number_values}
use Rattle.columns.proofs.TextLists.{length-text_values}

null_unknown : (v : Value) → compare Null v ≡ None
null_unknown Null = refl
null_unknown (Number u n) = refl
null_unknown (Text t) = refl

-- a cell that is no null and passes
false_at_end : (b : Bool) → (b && false) ≡ false
false_at_end true = refl
false_at_end false = refl

true_at_end : (b : Bool) → (b && true) ≡ b
true_at_end true = refl
true_at_end false = refl

met_cell : (f : Value → Bool) (v : Value) (b null : Bool) → f Null ≡ false → f v ≡ b → (b && not null) ≡ f (cond null Null v)
met_cell f v b true z h = false_at_end b ∙ sym z
met_cell f v b false z h = true_at_end b ∙ sym h

null_cell : (f : Value → Bool) (v : Value) (null : Bool) → f Null ≡ true → f v ≡ false → null ≡ f (cond null Null v)
null_cell f v true z h = sym z
null_cell f v false z h = sym h

alike_cell : (f : Value → Bool) (v : Value) (b null : Bool) → f Null ≡ b → f v ≡ b → f (cond null Null v) ≡ b
alike_cell f v b true z h = z
alike_cell f v b false z h = h

-- whole lists of numbers
pub met_numbers : (f : Value → Bool) (p : ℤ → Bool) (scale : ℕ) (us : List ℤ) (nulls : List Bool) → f Null ≡ false → ((u : ℤ) → FitsSigned w64 u → f (Number u scale) ≡ p u) → All (FitsSigned w64) us
    → length us ≡ length nulls → bit_and (word_of (map p us)) (word_of (map not nulls)) ≡ word_of (map f (number_values scale us nulls))
met_numbers f p scale [] [] z h a l = refl
met_numbers f p scale [] (n ∷ ns) z h a l = absurd (omega (arith, l))
met_numbers f p scale (u ∷ us) [] z h a l = absurd (omega (arith, l))
met_numbers f p scale (u ∷ us) (n ∷ ns) z h a l =
    and_flags (p u) (not n) (word_of (map p us)) (word_of (map not ns))
    ∙ ap₂ (λ b w. cond b 1 0 + 2 * w) (met_cell f (Number u scale) (p u) n z (h u (All-head (FitsSigned w64) u us a)))
    (met_numbers f p scale us ns z h (All-tail (FitsSigned w64) u us a) (omega (arith, l)))

pub null_numbers : (f : Value → Bool) (scale : ℕ) (us : List ℤ) (nulls : List Bool) → f Null ≡ true → ((u : ℤ) → f (Number u scale) ≡ false) → length us ≡ length nulls
    → word_of nulls ≡ word_of (map f (number_values scale us nulls))
null_numbers f scale [] [] z h l = refl
null_numbers f scale [] (n ∷ ns) z h l = absurd (omega (arith, l))
null_numbers f scale (u ∷ us) [] z h l = absurd (omega (arith, l))
null_numbers f scale (u ∷ us) (n ∷ ns) z h l = ap₂ (λ b w. cond b 1 0 + 2 * w) (null_cell f (Number u scale) n z (h u)) (null_numbers f scale us ns z h (omega (arith, l)))

pub alike_numbers : (f : Value → Bool) (b : Bool) (scale : ℕ) (us : List ℤ) (nulls : List Bool) → f Null ≡ b → ((u : ℤ) → f (Number u scale) ≡ b) → length us ≡ length nulls
    → map f (number_values scale us nulls) ≡ map (λ _. b) nulls
alike_numbers f b scale [] [] z h l = refl
alike_numbers f b scale [] (n ∷ ns) z h l = absurd (omega (arith, l))
alike_numbers f b scale (u ∷ us) [] z h l = absurd (omega (arith, l))
alike_numbers f b scale (u ∷ us) (n ∷ ns) z h l = ap₂ (λ x xs. x ∷ xs) (alike_cell f (Number u scale) b n z (h u)) (alike_numbers f b scale us ns z h (omega (arith, l)))

-- parts of them
pub drop-number_values : (k scale : ℕ) (us : List ℤ) (nulls : List Bool) → length us ≡ length nulls → drop k (number_values scale us nulls) ≡ number_values scale (drop k us) (drop k nulls)
drop-number_values zero scale us nulls l = refl
drop-number_values (suc k) scale [] [] l = refl
drop-number_values (suc k) scale [] (n ∷ ns) l = absurd (omega (arith, l))
drop-number_values (suc k) scale (u ∷ us) [] l = absurd (omega (arith, l))
drop-number_values (suc k) scale (u ∷ us) (n ∷ ns) l = drop-number_values k scale us ns (omega (arith, l))

-- whole lists of texts
pub met_texts : (f : Value → Bool) (p : List ℕ → Bool) (n : ℕ) (codes : List ℕ) (nulls : List Bool) → f Null ≡ false → ((t : List ℕ) → f (Text t) ≡ p t)
    → bit_and (word_of (map p (texts_in n (length nulls) codes))) (word_of (map not nulls)) ≡ word_of (map f (text_values n codes nulls))
met_texts f p n codes [] z h = refl
met_texts f p n codes (null ∷ nulls) z h =
    and_flags (p (take n codes)) (not null) (word_of (map p (texts_in n (length nulls) (drop n codes)))) (word_of (map not nulls))
    ∙ ap₂ (λ b w. cond b 1 0 + 2 * w) (met_cell f (Text (take n codes)) (p (take n codes)) null z (h (take n codes))) (met_texts f p n (drop n codes) nulls z h)

pub null_texts : (f : Value → Bool) (n : ℕ) (codes : List ℕ) (nulls : List Bool) → f Null ≡ true → ((t : List ℕ) → f (Text t) ≡ false) → word_of nulls ≡ word_of (map f (text_values n codes nulls))
null_texts f n codes [] z h = refl
null_texts f n codes (null ∷ nulls) z h = ap₂ (λ b w. cond b 1 0 + 2 * w) (null_cell f (Text (take n codes)) null z (h (take n codes))) (null_texts f n (drop n codes) nulls z h)

pub alike_texts : (f : Value → Bool) (b : Bool) (n : ℕ) (codes : List ℕ) (nulls : List Bool) → f Null ≡ b → ((t : List ℕ) → f (Text t) ≡ b) → map f (text_values n codes nulls) ≡ map (λ _. b) nulls
alike_texts f b n codes [] z h = refl
alike_texts f b n codes (null ∷ nulls) z h = ap₂ (λ x xs. x ∷ xs) (alike_cell f (Text (take n codes)) b null z (h (take n codes))) (alike_texts f b n (drop n codes) nulls z h)

pub part-text_values : (k n : ℕ) (codes : List ℕ) (nulls : List Bool) → take k (text_values n codes nulls) ≡ text_values n codes (take k nulls)
part-text_values zero n codes nulls = refl
part-text_values (suc k) n codes [] = refl
part-text_values (suc k) n codes (null ∷ nulls) = ap (λ vs. cond null Null (Text (take n codes)) ∷ vs) (part-text_values k n (drop n codes) nulls)

pub drop-text_values : (k n : ℕ) (codes : List ℕ) (nulls : List Bool) → drop k (text_values n codes nulls) ≡ text_values n (drop (k * n) codes) (drop k nulls)
drop-text_values zero n codes nulls = let e : 0 * n ≡ 0 = omega arith in rw e refl
drop-text_values (suc k) n codes [] = refl
drop-text_values (suc k) n codes (null ∷ nulls) =
    let e : suc k * n ≡ n + k * n = omega arith in
    drop-text_values k n (drop n codes) nulls ∙ ap (λ cs. text_values n cs (drop k nulls)) (drop-drop (k * n) n codes) ∙ ap (λ x. text_values n (drop x codes) (drop k nulls)) (sym e)

-- the units outside a range
turned : (range : UnitRange) (us : List ℤ) → range.outside ≡ true → map (is_in range) us ≡ map not (map (λ u. int_le range.low u && int_le u range.high) us)
turned range [] h = refl
turned range (u ∷ us) h = ap₂ (λ x xs. x ∷ xs) (ap (λ b. cond b (not (int_le range.low u && int_le u range.high)) (int_le range.low u && int_le u range.high)) h) (turned range us h)

pub others_word : (range : UnitRange) (us : List ℤ) (word all : ℕ) → range.outside ≡ true → word ≡ word_of (map (λ u. int_le range.low u && int_le u range.high) us) → all ≡ 2 ^ length us - 1
    → (word ≤ all) × (all - word ≡ word_of (map (is_in range) us))
others_word range us word all h i j =
    let flags = map (λ u. int_le range.low u && int_le u range.high) us in
    let long : length flags ≡ length us = length-map us (λ u. int_le range.low u && int_le u range.high) in
    let whole : all ≡ 2 ^ length flags - 1 = j ∙ ap (λ n. 2 ^ n - 1) (sym long) in
    (omega (arith, whole, i, word_of-below flags), ap₂ (λ x y. x - y) whole i ∙ word_of-not flags ∙ ap word_of (sym (turned range us h)))

-- the flags of a part, as a word, and the word of what is left of its rows
pub part_length : {X : Type 0} (first rows : ℕ) (xs : List X) → first + rows ≤ length xs → length (take rows (drop first xs)) ≡ rows
part_length first rows xs h = length-take-le rows (drop first xs) (omega (arith, h, length-drop first xs))

pub others_of_part : (first rows : ℕ) (nulls : List Bool) (flags all : ℕ) → first + rows ≤ length nulls → flags ≡ word_of (take rows (drop first nulls)) → all ≡ 2 ^ rows - 1
    → (flags ≤ all) × (all - flags ≡ word_of (map not (take rows (drop first nulls))))
others_of_part first rows nulls flags all h i j =
    let part = take rows (drop first nulls) in
    let whole : all ≡ 2 ^ length part - 1 = j ∙ ap (λ n. 2 ^ n - 1) (sym (part_length first rows nulls h)) in
    (omega (arith, whole, i, word_of-below part), ap₂ (λ x y. x - y) whole i ∙ word_of-not part)

-- the values of a part of a column of numbers
pub number_part : (type : SqlType) (us : List ℤ) (nulls : List Bool) (c : CellList) (first rows : ℕ) → length us ≡ length nulls → numbers_of type us nulls ≡ c
    → part_of first rows c.values ≡ number_values (scale_of type) (take rows (drop first us)) (take rows (drop first nulls))
number_part type us nulls c first rows l e =
    ap (λ (x : CellList). part_of first rows x.values) (sym e) ∙ ap (take rows) (drop-number_values first (scale_of type) us nulls l) ∙ take-number_values rows (scale_of type) (drop first us) (drop first nulls)

pub number_rows : (type : SqlType) (us : List ℤ) (nulls : List Bool) (c : CellList) (first rows : ℕ) → length us ≡ length nulls → numbers_of type us nulls ≡ c → first + rows ≤ length c.values
    → (first + rows ≤ length us) × (first + rows ≤ length nulls)
number_rows type us nulls c first rows l e h =
    let count : length c.values ≡ length nulls = ap (λ (x : CellList). length x.values) (sym e) ∙ length-number_values (scale_of type) us nulls l in
    (omega (arith, h, count, l), omega (arith, h, count))

parts_paired : (us : List ℤ) (nulls : List Bool) (first rows : ℕ) → length us ≡ length nulls → first + rows ≤ length nulls → length (take rows (drop first us)) ≡ length (take rows (drop first nulls))
parts_paired us nulls first rows l h = part_length first rows us (omega (arith, l, h)) ∙ sym (part_length first rows nulls h)

pub scanned_numbers : (type : SqlType) (us : List ℤ) (nulls : List Bool) (c : CellList) (first rows : ℕ) (op : ComparisonOperator) (w : ℤ) (n : ℕ) (p : ℤ → Bool) (units : List ℤ) (met flags all : ℕ)
    → length us ≡ length nulls → numbers_of type us nulls ≡ c → All (FitsSigned w64) us → first + rows ≤ length c.values
    → ((u : ℤ) → FitsSigned w64 u → agrees op (number_cmp u (scale_of type) w n) ≡ p u) → units ≡ take rows (drop first us) → met ≡ word_of (map p units)
    → flags ≡ word_of (take rows (drop first nulls)) → all ≡ 2 ^ rows - 1
    → (bit_and met (all - flags) ≡ true_word op (Number w n) (part_of first rows c.values)) × (flags ≡ unknown_word op (Number w n) (part_of first rows c.values))
scanned_numbers type us nulls c first rows op w n p units met flags all l e a h test us' m f g =
    let within = number_rows type us nulls c first rows l e h in
    let part = number_part type us nulls c first rows l e in
    let paired = parts_paired us nulls first rows l within.1 in
    let some = take rows (drop first us) in
    let gone = take rows (drop first nulls) in
    let own : met ≡ word_of (map p some) = m ∙ ap (λ xs. word_of (map p xs)) us' in
    let ranged : All (FitsSigned w64) some = All-take (FitsSigned w64) rows (drop first us) (All-drop (FitsSigned w64) first us a) in (
      ap₂ bit_and own (others_of_part first rows nulls flags all within.1 f g).1
          ∙ met_numbers (λ cell. unwrap_or (truth_of op cell (Number w n)) false) p (scale_of type) some gone refl test ranged paired
          ∙ ap (true_word op (Number w n)) (sym part),
      f ∙ null_numbers (λ cell. is_none (truth_of op cell (Number w n))) (scale_of type) some gone refl (λ u. refl) paired ∙ ap (unknown_word op (Number w n)) (sym part),
    )

-- a value of another kind
pub unlike_numbers : (type : SqlType) (us : List ℤ) (nulls : List Bool) (c : CellList) (first rows : ℕ) (op : ComparisonOperator) (v : Value) (all : ℕ)
    → length us ≡ length nulls → numbers_of type us nulls ≡ c → first + rows ≤ length c.values → ((u : ℤ) → compare (Number u (scale_of type)) v ≡ None) → all ≡ 2 ^ rows - 1
    → (0 ≡ true_word op v (part_of first rows c.values)) × (all ≡ unknown_word op v (part_of first rows c.values))
unlike_numbers type us nulls c first rows op v all l e h none g =
    let within = number_rows type us nulls c first rows l e h in
    let part = number_part type us nulls c first rows l e in
    let paired = parts_paired us nulls first rows l within.1 in
    let some = take rows (drop first us) in
    let gone = take rows (drop first nulls) in
    let long : length gone ≡ rows = part_length first rows nulls within.1 in (
      sym (word_of-none_mapped gone) ∙ ap word_of (sym (alike_numbers (λ cell. unwrap_or (truth_of op cell v) false) false (scale_of type) some gone (ap (λ o. unwrap_or (option_map (agrees op) o) false) (null_unknown v)) (λ u. ap (λ o. unwrap_or (option_map (agrees op) o) false) (none u)) paired))
          ∙ ap (true_word op v) (sym part),
      g ∙ ap (λ n. 2 ^ n - 1) (sym long) ∙ sym (word_of-ones_mapped gone) ∙ ap word_of (sym (alike_numbers (λ cell. is_none (truth_of op cell v)) true (scale_of type) some gone (ap (λ o. is_none (option_map (agrees op) o)) (null_unknown v)) (λ u. ap (λ o. is_none (option_map (agrees op) o)) (none u)) paired))
          ∙ ap (unknown_word op v) (sym part),
    )

-- what no number, or no text, compares with
pub unlike_number : (value : sqlvalue.Value) (scale : ℕ) → ((n : _) → value ≡ v.Num n → ⊥) → (u : ℤ) → compare (Number u scale) (value_of value) ≡ None
unlike_number v.Null scale other u = refl
unlike_number (v.Num n) scale other u = absurd (other n refl)
unlike_number (v.Text t) scale other u = refl

pub unlike_text : (value : sqlvalue.Value) → ((t : _) → value ≡ v.Text t → ⊥) → (codes : List ℕ) → compare (Text codes) (value_of value) ≡ None
unlike_text v.Null other codes = refl
unlike_text (v.Num n) other codes = refl
unlike_text (v.Text t) other codes = absurd (other t refl)

-- a part by its ends
pub part_by_ends : {X : Type 0} (xs ys : List X) (first rows : ℕ) → xs ≡ ys → take (first + rows - first) (drop first xs) ≡ take rows (drop first ys)
part_by_ends xs ys first rows e = let n : first + rows - first ≡ rows = omega arith in ap₂ (λ k zs. take k (drop first zs)) n e

-- the values of a part of a column of texts
pub text_part : (n : ℕ) (codes : List ℕ) (nulls : List Bool) (c : CellList) (first rows : ℕ) → texts_of n codes nulls ≡ c → part_of first rows c.values ≡ text_values n (drop (first * n) codes) (take rows (drop first nulls))
text_part n codes nulls c first rows e =
    ap (λ (x : CellList). part_of first rows x.values) (sym e) ∙ ap (take rows) (drop-text_values first n codes nulls) ∙ part-text_values rows n (drop (first * n) codes) (drop first nulls)

pub text_rows : (n : ℕ) (codes : List ℕ) (nulls : List Bool) (c : CellList) (first rows : ℕ) → length codes ≡ n * length nulls → texts_of n codes nulls ≡ c → first + rows ≤ length c.values
    → (first + rows ≤ length nulls) × (first * n + rows * n ≤ length codes)
text_rows n codes nulls c first rows l e h =
    let count : length c.values ≡ length nulls = ap (λ (x : CellList). length x.values) (sym e) ∙ length-text_values n codes nulls in
    let within : first + rows ≤ length nulls = omega (arith, h, count) in
    let all : n * (first + rows) ≤ n * length nulls = mul-le-mul_left n within in
    let sum : n * (first + rows) ≡ first * n + rows * n = omega arith in
    (within, omega (arith, all, sum, l))

-- the characters behind the rows before a part
pub characters_behind : (bytes codes : List ℕ) (first m n : ℕ) → bytes ≡ codes → m ≡ n → take (length bytes - first * m) (drop (first * m) bytes) ≡ drop (first * n) codes
characters_behind bytes codes first m n e f =
    let here : length (drop (first * m) bytes) ≤ length bytes - first * m = omega (arith, length-drop (first * m) bytes) in
    take_all (length bytes - first * m) (drop (first * m) bytes) here ∙ ap₂ (λ k xs. drop (first * k) xs) f e

pub scanned_texts : (n : ℕ) (codes : List ℕ) (nulls : List Bool) (c : CellList) (first rows : ℕ) (op : ComparisonOperator) (value : List ℕ) (m : ℕ) (characters : List ℕ) (met flags all : ℕ)
    → texts_of n codes nulls ≡ c → first + rows ≤ length nulls → m ≡ n → characters ≡ drop (first * n) codes
    → met ≡ word_of (map (λ text. agrees op (text_cmp text value)) (texts_in m rows characters)) → flags ≡ word_of (take rows (drop first nulls)) → all ≡ 2 ^ rows - 1
    → (bit_and met (all - flags) ≡ true_word op (Text value) (part_of first rows c.values)) × (flags ≡ unknown_word op (Text value) (part_of first rows c.values))
scanned_texts n codes nulls c first rows op value m characters met flags all e h long is w f g =
    let part = text_part n codes nulls c first rows e in
    let gone = take rows (drop first nulls) in
    let behind = drop (first * n) codes in
    let count : length gone ≡ rows = part_length first rows nulls h in
    let own : met ≡ word_of (map (λ text. agrees op (text_cmp text value)) (texts_in n (length gone) behind))
    = w ∙ ap₂ (λ k xs. word_of (map (λ text. agrees op (text_cmp text value)) (texts_in k rows xs))) long is ∙ ap (λ k. word_of (map (λ text. agrees op (text_cmp text value)) (texts_in n k behind))) (sym count) in (
      ap₂ bit_and own (others_of_part first rows nulls flags all h f g).1
          ∙ met_texts (λ cell. unwrap_or (truth_of op cell (Text value)) false) (λ text. agrees op (text_cmp text value)) n behind gone refl (λ t. refl)
          ∙ ap (true_word op (Text value)) (sym part),
      f ∙ null_texts (λ cell. is_none (truth_of op cell (Text value))) n behind gone refl (λ t. refl) ∙ ap (unknown_word op (Text value)) (sym part),
    )

pub unlike_texts : (n : ℕ) (codes : List ℕ) (nulls : List Bool) (c : CellList) (first rows : ℕ) (op : ComparisonOperator) (v : Value) (all : ℕ)
    → texts_of n codes nulls ≡ c → first + rows ≤ length nulls → ((t : List ℕ) → compare (Text t) v ≡ None) → all ≡ 2 ^ rows - 1
    → (0 ≡ true_word op v (part_of first rows c.values)) × (all ≡ unknown_word op v (part_of first rows c.values))
unlike_texts n codes nulls c first rows op v all e h none g =
    let part = text_part n codes nulls c first rows e in
    let gone = take rows (drop first nulls) in
    let behind = drop (first * n) codes in
    let long : length gone ≡ rows = part_length first rows nulls h in (
      sym (word_of-none_mapped gone) ∙ ap word_of (sym (alike_texts (λ cell. unwrap_or (truth_of op cell v) false) false n behind gone (ap (λ o. unwrap_or (option_map (agrees op) o) false) (null_unknown v)) (λ t. ap (λ o. unwrap_or (option_map (agrees op) o) false) (none t))))
          ∙ ap (true_word op v) (sym part),
      g ∙ ap (λ n. 2 ^ n - 1) (sym long) ∙ sym (word_of-ones_mapped gone) ∙ ap word_of (sym (alike_texts (λ cell. is_none (truth_of op cell v)) true n behind gone (ap (λ o. is_none (option_map (agrees op) o)) (null_unknown v)) (λ t. ap (λ o. is_none (option_map (agrees op) o)) (none t))))
          ∙ ap (unknown_word op v) (sym part),
    )

pub rows_behind : (bytes : List ℕ) (start long : ℕ) → start + long ≤ length bytes → long ≤ length (take (length bytes - start) (drop start bytes))
rows_behind bytes start long h =
    let here : length (drop start bytes) ≤ length bytes - start = omega (arith, length-drop start bytes) in
    rw (take_all (length bytes - start) (drop start bytes) here) (omega (arith, h, length-drop start bytes))
