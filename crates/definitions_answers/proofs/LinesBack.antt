-- A line can be read back: where its fields end is seen from the shapes of its columns.
use Rattle.std.proofs.Common.{ℤ, pos, negsuc, nat_abs, ◌≡◌, ◌∙◌, refl, sym, ap, ap₂, subst, ℕ, zero, suc, ◌+◌, ◌*◌, ◌/◌, ◌%◌, ◌^◌, ◌-◌, ◌<◌, ◌≤◌, ◌==◌, List, [], ◌∷◌, ◌++◌, Bool, true, false, cond, length, get_or, replicate, map, arith, append_assoc}
use Rattle.std.specs.Prelude.{decimal, nat_eq, int_lt, ◌||◌}
use Rattle.std.specs.List.{AllByRecursion, list_any, join_with_byte}
use Rattle.std.specs.Str.Parse.{AllDigits, IsNumeral, digits_value, digits_value_after}
use Rattle.std.specs.Cmp.Lexicographic.{pointwise, same_text}
use Rattle.std.proofs.Math.Nat.{div-add-mod, mod-le, div-le_self}
use Rattle.std.proofs.lemmas.Bool.{eqb-true, eqb-false}
use Rattle.std.proofs.lemmas.Bool.Decides.{nat_tests}
use Rattle.std.proofs.lemmas.List.{map-append}
use Rattle.std.proofs.lemmas.Cmp.{nat_list_eq_equiv}
use Rattle.std.proofs.lemmas.Fmt.{decimal_is_IsNumeral_wide}
use Rattle.std.proofs.lemmas.Str.Parse.{digit_from_value}
use Rattle.definitions.specs.Value.{Value, Null, Number, Text}
use Rattle.definitions.specs.Table.{Row}
use Rattle.definitions.specs.Printing.{doubled, digits_text, fraction_text, number_text, value_text, row_line}
use Rattle.definitions.specs.Queries.Grouping.{same_values}
use Rattle.definitions_answers.specs.Lines.{IsInBounds, IsRowOf, EqualLinesAreEqualRows, LinesOneByOne}
use Rattle.definitions_answers.specs.Shapes.{Shape, Numbers, Texts, HasShape, HasShapes}
use Rattle.definitions_answers.proofs.Left.{one_row, row_laws}

-- ---- lists that begin alike

head_is : (x y : ℕ) (xs ys : List ℕ) → x ∷ xs ≡ y ∷ ys → x ≡ y
head_is x y xs ys e = ap (λ l. get_or l 0 0) e

abbrev behind : List ℕ → List ℕ
behind [] = []
behind (x ∷ xs) = xs

tail_is : (x y : ℕ) (xs ys : List ℕ) → x ∷ xs ≡ y ∷ ys → xs ≡ ys
tail_is x y xs ys e = ap behind e

-- ---- digits

abbrev IsDigit : ℕ → Type 0
IsDigit c = (48 ≤ c) × (c ≤ 57)

abbrev IsOther : ℕ → Type 0
IsOther c = IsDigit c → ⊥

-- digits up to something else
digits_back : (xs ys : List ℕ) (c d : ℕ) (a b : List ℕ) → AllDigits 10 xs → AllDigits 10 ys → IsOther c → IsOther d → xs ++ (c ∷ a) ≡ ys ++ (d ∷ b) → (xs ≡ ys) × (c ∷ a ≡ d ∷ b)
digits_back [] [] c d a b p q h k e = (refl, e)
digits_back [] (y ∷ ys) c d a b p q h k e = absurd (h (subst IsDigit (sym (head_is c y a _ e)) (digit_from_value y q.0)))
digits_back (x ∷ xs) [] c d a b p q h k e = absurd (k (subst IsDigit (head_is x d _ b e) (digit_from_value x p.0)))
digits_back (x ∷ xs) (y ∷ ys) c d a b p q h k e = let (same, rest) = digits_back xs ys c d a b p.1 q.1 h k (tail_is x y _ _ e) in (ap₂ (λ z zs. z ∷ zs) (head_is x y _ _ e) same, rest)

numeral : (n : ℕ) → n < 10 ^ 38 → IsNumeral 10 (decimal n) × (digits_value 10 (decimal n) ≡ n)
numeral n h = decimal_is_IsNumeral_wide n (omega (arith, h))

padded_digits : (j : ℕ) (ds : List ℕ) → AllDigits 10 ds → AllDigits 10 (replicate j 48 ++ ds)
padded_digits zero ds h = h
padded_digits (suc j) ds h = (omega arith, padded_digits j ds h)

padded_value : (j : ℕ) (ds : List ℕ) → digits_value_after 10 0 (replicate j 48 ++ ds) ≡ digits_value_after 10 0 ds
padded_value zero ds = refl
padded_value (suc j) ds = padded_value j ds

-- ---- numbers

module _ (k : ℕ) where
  abbrev whole : ℕ → ℕ
  whole n = n / 10 ^ k

  abbrev part : ℕ → ℕ
  part n = n % 10 ^ k

  whole_bound : (n : ℕ) → n < 10 ^ 38 → whole n < 10 ^ 38
  whole_bound n h = let le = div-le_self n (10 ^ k) in omega (arith, h, le)

  part_bound : (n : ℕ) → n < 10 ^ 38 → part n < 10 ^ 38
  part_bound n h = let le = mod-le n (10 ^ k) in omega (arith, h, le)

  from_parts : (m n : ℕ) → whole m ≡ whole n → part m ≡ part n → m ≡ n
  from_parts m n e f = sym (div-add-mod m (10 ^ k)) ∙ ap₂ (λ q r. 10 ^ k * q + r) e f ∙ div-add-mod n (10 ^ k)

  abbrev Magnitude : Bool → ℕ → List ℕ → List ℕ
  Magnitude t n rest = decimal (whole n) ++ (cond t [] (46 ∷ digits_text k (part n)) ++ rest)

  same_decimals : (m n : ℕ) → m < 10 ^ 38 → n < 10 ^ 38 → decimal m ≡ decimal n → m ≡ n
  same_decimals m n h l e = sym (numeral m h).1 ∙ ap (digits_value 10) e ∙ (numeral n l).1

  fraction_digits : (n : ℕ) → n < 10 ^ 38 → AllDigits 10 (digits_text k n)
  fraction_digits n h = padded_digits (k - length (decimal n)) (decimal n) (numeral n h).0.1

  fraction_value : (n : ℕ) → n < 10 ^ 38 → digits_value 10 (digits_text k n) ≡ n
  fraction_value n h = padded_value (k - length (decimal n)) (decimal n) ∙ (numeral n h).1

  magnitude_back : (t : Bool) → (k == 0) ≡ t → (m n c d : ℕ) (a b : List ℕ) → m < 10 ^ 38 → n < 10 ^ 38 → IsOther c → IsOther d → Magnitude t m (c ∷ a) ≡ Magnitude t n (d ∷ b) → (m ≡ n) × (c ∷ a ≡ d ∷ b)
  magnitude_back true is m n c d a b h l p q e =
      let (same, rest) = digits_back (decimal (whole m)) (decimal (whole n)) c d a b (numeral (whole m) (whole_bound m h)).0.1 (numeral (whole n) (whole_bound n l)).0.1 p q e in
      let wholes : whole m ≡ whole n = same_decimals (whole m) (whole n) (whole_bound m h) (whole_bound n l) same in
      (from_parts m n wholes (no_part (eqb-true k 0 is)), rest)
    where
      no_part : k ≡ 0 → part m ≡ part n
      no_part z = subst (λ j. m % 10 ^ j ≡ n % 10 ^ j) (sym z) (omega arith)
  magnitude_back false is m n c d a b h l p q e =
      let (same, rest) = digits_back (decimal (whole m)) (decimal (whole n)) 46 46 (digits_text k (part m) ++ (c ∷ a)) (digits_text k (part n) ++ (d ∷ b)) (numeral (whole m) (whole_bound m h)).0.1 (numeral (whole n) (whole_bound n l)).0.1
      (λ x. absurd (omega (arith, x.0))) (λ x. absurd (omega (arith, x.0))) e in
      let (parts, end) = digits_back (digits_text k (part m)) (digits_text k (part n)) c d a b (fraction_digits (part m) (part_bound m h)) (fraction_digits (part n) (part_bound n l)) p q (tail_is 46 46 _ _ rest) in
      let wholes : whole m ≡ whole n = same_decimals (whole m) (whole n) (whole_bound m h) (whole_bound n l) same in
      let fractions : part m ≡ part n = sym (fraction_value (part m) (part_bound m h)) ∙ ap (digits_value 10) parts ∙ fraction_value (part n) (part_bound n l) in
      (from_parts m n wholes fractions, end)

  -- a magnitude begins with a digit
  begins : (ds rest t : List ℕ) (h : ℕ) → IsNumeral 10 ds → ds ++ rest ≡ h ∷ t → IsDigit h
  begins [] rest t h n e = absurd (omega (arith, n.0))
  begins (x ∷ xs) rest t h n e = subst IsDigit (head_is x h _ t e) (digit_from_value x n.1.0)

  magnitude_begins : (b : Bool) (n : ℕ) (rest t : List ℕ) (h : ℕ) → n < 10 ^ 38 → Magnitude b n rest ≡ h ∷ t → IsDigit h
  magnitude_begins b n rest t h l e = begins (decimal (whole n)) _ t h (numeral (whole n) (whole_bound n l)).0 e

  no_sign : (n : ℕ) → int_lt (pos n) (pos 0) ≡ false
  no_sign n = grind (arith, nat_tests)

  pos_text : (n : ℕ) (rest : List ℕ) → number_text (pos n) k ++ rest ≡ Magnitude (k == 0) n rest
  pos_text n rest = ap (λ t. ((cond t (45 ∷ []) [] ++ decimal (whole n)) ++ fraction_text k (part n)) ++ rest) (no_sign n) ∙ append_assoc (decimal (whole n)) (fraction_text k (part n)) rest

  neg_text : (n : ℕ) (rest : List ℕ) → number_text (negsuc n) k ++ rest ≡ 45 ∷ Magnitude (k == 0) (suc n) rest
  neg_text n rest = ap (λ l. 45 ∷ l) (append_assoc (decimal (whole (suc n))) (fraction_text k (part (suc n))) rest)

  number_back : (u v : ℤ) (c d : ℕ) (a b : List ℕ) → nat_abs u < 10 ^ 38 → nat_abs v < 10 ^ 38 → IsOther c → IsOther d → number_text u k ++ (c ∷ a) ≡ number_text v k ++ (d ∷ b) → (u ≡ v) × (c ∷ a ≡ d ∷ b)
  number_back (pos m) (pos n) c d a b h l p q e =
      let (same, rest) = magnitude_back (k == 0) refl m n c d a b h l p q (sym (pos_text m (c ∷ a)) ∙ e ∙ pos_text n (d ∷ b)) in
      (ap pos same, rest)
  number_back (pos m) (negsuc n) c d a b h l p q e =
      let x = magnitude_begins (k == 0) m (c ∷ a) _ 45 h (sym (pos_text m (c ∷ a)) ∙ e ∙ neg_text n (d ∷ b)) in
      absurd (omega (arith, x.0))
  number_back (negsuc m) (pos n) c d a b h l p q e =
      let x = magnitude_begins (k == 0) n (d ∷ b) _ 45 l (sym (pos_text n (d ∷ b)) ∙ sym e ∙ neg_text m (c ∷ a)) in
      absurd (omega (arith, x.0))
  number_back (negsuc m) (negsuc n) c d a b h l p q e =
      let (same, rest) = magnitude_back (k == 0) refl (suc m) (suc n) c d a b h l p q (tail_is 45 45 _ _ (sym (neg_text m (c ∷ a)) ∙ e ∙ neg_text n (d ∷ b))) in
      let one : m ≡ n = omega (arith, same) in
      (ap negsuc one, rest)

  -- and is no word
  number_is_no_word : {G : Type 0} (u : ℤ) (rest t : List ℕ) (h : ℕ) → nat_abs u < 10 ^ 38 → 57 < h → number_text u k ++ rest ≡ h ∷ t → G
  number_is_no_word (pos m) rest t h l w e = let x = magnitude_begins (k == 0) m rest t h l (sym (pos_text m rest) ∙ e) in absurd (omega (arith, x.1, w))
  number_is_no_word (negsuc m) rest t h l w e = let x : 45 ≡ h = head_is 45 h _ t (sym (neg_text m rest) ∙ e) in absurd (omega (arith, x, w))

-- ---- texts

-- texts of one length, with quotes doubled, up to a quote
text_back : (s t a b : List ℕ) → length s ≡ length t → doubled s ++ (39 ∷ a) ≡ doubled t ++ (39 ∷ b) → (s ≡ t) × (a ≡ b)
text_back [] [] a b l e = (refl, tail_is 39 39 a b e)
text_back [] (y ∷ t) a b l e = absurd (omega (arith, l))
text_back (x ∷ s) [] a b l e = absurd (omega (arith, l))
text_back (x ∷ s) (y ∷ t) a b l e = step (text_back s t a b (omega (arith, l))) (x == 39) (y == 39) refl refl e
  where
    more : x ≡ y → (s ≡ t) × (a ≡ b) → (x ∷ s ≡ y ∷ t) × (a ≡ b)
    more f g = (ap₂ (λ z zs. z ∷ zs) f g.0, g.1)

    step : (doubled s ++ (39 ∷ a) ≡ doubled t ++ (39 ∷ b) → (s ≡ t) × (a ≡ b)) → (p q : Bool) → (x == 39) ≡ p → (y == 39) ≡ q → cond p (39 ∷ 39 ∷ doubled s) (x ∷ doubled s) ++ (39 ∷ a) ≡ cond q (39 ∷ 39 ∷ doubled t) (y ∷ doubled t) ++ (39 ∷ b) → (x ∷ s ≡ y ∷ t) × (a ≡ b)
    step rest true true f g k = more (eqb-true x 39 f ∙ sym (eqb-true y 39 g)) (rest (tail_is 39 39 _ _ (tail_is 39 39 _ _ k)))
    step rest false false f g k = more (head_is x y _ _ k) (rest (tail_is x y _ _ k))
    step rest true false f g k = absurd (eqb-false y 39 g (sym (head_is 39 y _ _ k)))
    step rest false true f g k = absurd (eqb-false x 39 f (head_is x 39 _ _ k))

text_flat : (s rest : List ℕ) → value_text (Text s) ++ rest ≡ 39 ∷ (doubled s ++ (39 ∷ rest))
text_flat s rest = ap (λ l. 39 ∷ l) (append_assoc (doubled s) (39 ∷ []) rest)

-- ---- values

-- a field up to what ends it
field_back : (shape : Shape) (v w : Value) (c d : ℕ) (a b : List ℕ) → HasShape shape v → HasShape shape w → IsInBounds v → IsInBounds w → IsOther c → IsOther d → value_text v ++ (c ∷ a) ≡ value_text w ++ (d ∷ b) → (v ≡ w) × (c ∷ a ≡ d ∷ b)
field_back shape Null Null c d a b p q h k i j e = (refl, tail_is 76 76 _ _ (tail_is 76 76 _ _ (tail_is 85 85 _ _ (tail_is 78 78 _ _ e))))
field_back shape Null (Number u s) c d a b p q h k i j e = number_is_no_word s u (d ∷ b) _ 78 k (omega arith) (sym e)
field_back shape Null (Text t) c d a b p q h k i j e = let x : 78 ≡ 39 = head_is 78 39 _ _ (e ∙ text_flat t (d ∷ b)) in absurd (omega (arith, x))
field_back shape (Number u s) Null c d a b p q h k i j e = number_is_no_word s u (c ∷ a) _ 78 h (omega arith) e
field_back shape (Text t) Null c d a b p q h k i j e = let x : 78 ≡ 39 = head_is 78 39 _ _ (sym e ∙ text_flat t (c ∷ a)) in absurd (omega (arith, x))
field_back (Numbers n) (Number u s) (Number v r) c d a b p q h k i j e =
    let (same, rest) = number_back n u v c d a b h k i j (ap (λ z. number_text u z ++ (c ∷ a)) (sym p) ∙ e ∙ ap (λ z. number_text v z ++ (d ∷ b)) q) in
    (ap₂ Number same (p ∙ sym q), rest)
field_back (Numbers n) (Number u s) (Text t) c d a b p q h k i j e = absurd q
field_back (Numbers n) (Text t) w c d a b p q h k i j e = absurd p
field_back (Texts n) (Number u s) w c d a b p q h k i j e = absurd p
field_back (Texts n) (Text s) (Number u r) c d a b p q h k i j e = absurd q
field_back (Texts n) (Text s) (Text t) c d a b p q h k i j e =
    let (same, rest) = text_back s t (c ∷ a) (d ∷ b) (p ∙ sym q) (tail_is 39 39 _ _ (sym (text_flat s (c ∷ a)) ∙ e ∙ text_flat t (d ∷ b))) in
    (ap Text same, rest)

-- ---- rows

no_digit : (c : ℕ) → 57 < c → IsOther c
no_digit c h x = let l = x.1 in omega (arith, h, l)

end_is_other : IsOther 10
end_is_other x = let l = x.0 in omega (arith, l)

more_fields : (v w : Value) (vs : Row) → row_line (v ∷ w ∷ vs) ≡ value_text v ++ (124 ∷ row_line (w ∷ vs))
more_fields v w vs = append_assoc (value_text v) (124 ∷ join_with_byte 124 (map value_text (w ∷ vs))) (10 ∷ [])

row_back : (shapes : List Shape) (r s : Row) → HasShapes shapes r → HasShapes shapes s → AllByRecursion IsInBounds r → AllByRecursion IsInBounds s → row_line r ≡ row_line s → r ≡ s
row_back [] [] [] p q h k e = refl
row_back [] [] (w ∷ ws) p q h k e = absurd q
row_back [] (v ∷ vs) s p q h k e = absurd p
row_back (shape ∷ shapes) [] s p q h k e = absurd p
row_back (shape ∷ shapes) (v ∷ vs) [] p q h k e = absurd q
row_back (shape ∷ []) (v ∷ []) (w ∷ []) p q h k e = ap (λ x. x ∷ []) (field_back shape v w 10 10 [] [] p.0 q.0 h.0 k.0 end_is_other end_is_other e).0
row_back (shape ∷ []) (v ∷ v' ∷ vs) s p q h k e = absurd p.1
row_back (shape ∷ []) (v ∷ []) (w ∷ w' ∷ ws) p q h k e = absurd q.1
row_back (shape ∷ shape' ∷ shapes) (v ∷ []) s p q h k e = absurd p.1
row_back (shape ∷ shape' ∷ shapes) (v ∷ v' ∷ vs) (w ∷ []) p q h k e = absurd q.1
row_back (shape ∷ shape' ∷ shapes) (v ∷ v' ∷ vs) (w ∷ w' ∷ ws) p q h k e =
    let (first, rest) = field_back shape v w 124 124 (row_line (v' ∷ vs)) (row_line (w' ∷ ws)) p.0 q.0 h.0 k.0 (no_digit 124 (omega arith)) (no_digit 124 (omega arith)) (sym (more_fields v v' vs) ∙ e ∙ more_fields w w' ws) in
    ap₂ (λ x xs. x ∷ xs) first (row_back (shape' ∷ shapes) (v' ∷ vs) (w' ∷ ws) p.1 q.1 h.1 k.1 (tail_is 124 124 _ _ rest))

pub equal_lines_are_equal_rows : EqualLinesAreEqualRows
equal_lines_are_equal_rows shapes r s own other e = row_back shapes r s own.shaped other.shaped own.bounded other.bounded e

-- ---- lines one by one

alike : (a b : Bool) → (a ≡ true → b ≡ true) → (b ≡ true → a ≡ true) → a ≡ b
alike true b f g = sym (f refl)
alike false true f g = g refl
alike false false f g = refl

one_line : (shapes : List Shape) (r row : Row) → IsRowOf shapes r → IsRowOf shapes row → pointwise nat_eq (row_line row) (row_line r) ≡ same_values r row
one_line shapes r row own other =
    alike (pointwise nat_eq (row_line row) (row_line r)) (same_values r row)
    (λ e. subst (λ x. same_values r x ≡ true) (equal_lines_are_equal_rows shapes r row own other (sym (same_text (row_line row) (row_line r) (sym e)))) (row_laws.refl r))
    (λ e. subst (λ x. pointwise nat_eq (row_line x) (row_line r) ≡ true) (one_row shapes r row own.shaped other.shaped e) (nat_list_eq_equiv.refl (row_line r)))

pub any_line : (shapes : List Shape) (rows : List Row) (row : Row) → AllByRecursion (IsRowOf shapes) rows → IsRowOf shapes row → list_any (pointwise nat_eq (row_line row)) (map row_line rows) ≡ list_any (λ before. same_values before row) rows
any_line shapes [] row all own = refl
any_line shapes (r ∷ rows) row all own = ap₂ (λ x y. x || y) (one_line shapes r row all.0 own) (any_line shapes rows row all.1 own)

pub lines_one_by_one : LinesOneByOne
lines_one_by_one shapes rows row all own =
    ap (λ t. cond t (map row_line rows) (map row_line rows ++ row_line row ∷ [])) (any_line shapes rows row all own) ∙ step (list_any (λ before. same_values before row) rows)
  where
    step : (t : Bool) → cond t (map row_line rows) (map row_line rows ++ row_line row ∷ []) ≡ map row_line (cond t rows (rows ++ row ∷ []))
    step true = refl
    step false = sym (map-append row_line rows (row ∷ []))
