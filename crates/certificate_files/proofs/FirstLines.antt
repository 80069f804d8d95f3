-- The lines of bytes, one by one.
use Rattle.std.proofs.Common.{◌≡◌, ◌∙◌, refl, sym, ap, ap₂, subst, ℕ, suc, ◌+◌, ◌-◌, ◌<◌, ◌≤◌, List, [], ◌∷◌, ◌++◌, Bool, true, false, Some, None, length, take, drop, ◌==◌, if◌then◌else◌, cond, length-drop, append_assoc, arith}
use Rattle.std.specs.Prelude.{position, not, bytes_eq, get_or, nat_lt}
use Rattle.std.specs.List.{prefix_len}
use Rattle.std.proofs.lemmas.Bool.{eqb-true, ltb-true, ltb-false}
use Rattle.std.proofs.lemmas.List.{drop-drop, take_all}
use Rattle.std.proofs.Math.Seq.{take-add, take-nil, take-length, drop-length}
use Rattle.definitions.specs.Certificates.Text.{end_line}
use Rattle.definitions.specs.Certificates.File.{before_first, lines_of, own_text, lines_behind}
use Rattle.certificate_files.specs.FirstLine.{IsFirstLine}

-- how many bytes stand before the first LF
abbrev before : List ℕ → ℕ
before bytes = prefix_len (λ byte. not (byte == 10)) bytes

ended : (bytes : List ℕ) → before bytes < length bytes → IsFirstLine bytes (suc (before bytes))
ended [] lt = absurd (omega (arith, lt))
ended (byte ∷ bytes) lt = of_test (byte == 10) refl lt (ended bytes)
  where
    of_test : (t : Bool) → (byte == 10) ≡ t → cond (not t) (1 + before bytes) 0 < suc (length bytes)
        → (before bytes < length bytes → IsFirstLine bytes (suc (before bytes)))
        → (if t then (10 ∷ []) ∷ lines_of bytes else before_first byte (lines_of bytes))
        ≡ take (suc (cond (not t) (1 + before bytes) 0)) (byte ∷ bytes) ∷ lines_of (drop (suc (cond (not t) (1 + before bytes) 0)) (byte ∷ bytes))
    of_test true e lt rest = ap (λ (b : ℕ). (b ∷ []) ∷ lines_of bytes) (sym (eqb-true byte 10 e))
    of_test false e lt rest =
        let one : 1 + before bytes ≡ suc (before bytes) = omega arith in
        ap (before_first byte) (rest (omega (arith, lt))) ∙ ap (λ (n : ℕ). take (suc n) (byte ∷ bytes) ∷ lines_of (drop (suc n) (byte ∷ bytes))) (sym one)

-- without an LF all bytes are one line
open_line : (byte : ℕ) (bytes : List ℕ) → suc (length bytes) ≤ before (byte ∷ bytes) → lines_of (byte ∷ bytes) ≡ (byte ∷ bytes) ∷ []
open_line byte [] le = of_test (byte == 10) le
  where
    of_test : (t : Bool) → 1 ≤ cond (not t) (1 + 0) 0 → (if t then (10 ∷ []) ∷ [] else before_first byte []) ≡ (byte ∷ []) ∷ []
    of_test true le = absurd (omega (arith, le))
    of_test false le = refl
open_line byte (next ∷ bytes) le = of_test (byte == 10) le (open_line next bytes)
  where
    of_test : (t : Bool) → suc (suc (length bytes)) ≤ cond (not t) (1 + before (next ∷ bytes)) 0
        → (suc (length bytes) ≤ before (next ∷ bytes) → lines_of (next ∷ bytes) ≡ (next ∷ bytes) ∷ [])
        → (if t then (10 ∷ []) ∷ lines_of (next ∷ bytes) else before_first byte (lines_of (next ∷ bytes))) ≡ (byte ∷ next ∷ bytes) ∷ []
    of_test true le rest = absurd (omega (arith, le))
    of_test false le rest = ap (before_first byte) (rest (omega (arith, le)))

pub line_at : (bytes : List ℕ) (place : ℕ) → position (λ byte. byte == 10) bytes ≡ Some place → IsFirstLine bytes (place + 1)
line_at bytes place is = of_test (nat_lt (before bytes) (length bytes)) refl is
  where
    of_test : (t : Bool) → nat_lt (before bytes) (length bytes) ≡ t → cond t (Some (before bytes)) None ≡ Some place → IsFirstLine bytes (place + 1)
    of_test true e is =
        let same : before bytes ≡ place = cc in
        let n : suc (before bytes) ≡ place + 1 = omega (arith, same) in
        subst (IsFirstLine bytes) n (ended bytes (ltb-true (before bytes) (length bytes) e))
    of_test false e is = absurd cc

pub line_to_end : (bytes : List ℕ) → position (λ byte. byte == 10) bytes ≡ None → 0 < length bytes → IsFirstLine bytes (length bytes)
line_to_end [] is some = absurd (omega (arith, some))
line_to_end (byte ∷ bytes) is some =
    open_line byte bytes (of_test (nat_lt (before (byte ∷ bytes)) (suc (length bytes))) refl is)
    ∙ ap₂ (λ (l r : List ℕ). l ∷ lines_of r) (sym (take-length (byte ∷ bytes))) (sym (drop-length (byte ∷ bytes)))
  where
    of_test : (t : Bool) → nat_lt (before (byte ∷ bytes)) (suc (length bytes)) ≡ t → cond t (Some (before (byte ∷ bytes))) None ≡ None → suc (length bytes) ≤ before (byte ∷ bytes)
    of_test true e is = absurd cc
    of_test false e is = ltb-false (before (byte ∷ bytes)) (suc (length bytes)) e

-- ---- one line more

own_further : (line : List ℕ) (lines : List (List ℕ)) → bytes_eq line end_line ≡ false → own_text (line ∷ lines) ≡ line ++ own_text lines
own_further line lines e = rw e refl

own_ends : (line : List ℕ) (lines : List (List ℕ)) → bytes_eq line end_line ≡ true → own_text (line ∷ lines) ≡ line
own_ends line lines e = rw e refl

behind_further : (line : List ℕ) (lines : List (List ℕ)) → bytes_eq line end_line ≡ false → lines_behind (line ∷ lines) ≡ lines_behind lines
behind_further line lines e = rw e refl

behind_ends : (line : List ℕ) (lines : List (List ℕ)) → bytes_eq line end_line ≡ true → lines_behind (line ∷ lines) ≡ lines
behind_ends line lines e = rw e refl

module _ (bytes : List ℕ) (at n : ℕ) (first : IsFirstLine (drop at bytes) n) where
  abbrev line : List ℕ
  line = take n (drop at bytes)

  further : drop (at + n) bytes ≡ drop n (drop at bytes)
  further = sym (drop-drop n at bytes)

  pub own_more : bytes_eq line end_line ≡ false → take at bytes ++ own_text (lines_of (drop at bytes)) ≡ own_text (lines_of bytes)
      → take (at + n) bytes ++ own_text (lines_of (drop (at + n) bytes)) ≡ own_text (lines_of bytes)
  own_more e so_far =
      ap₂ (λ (a b : List ℕ). a ++ own_text (lines_of b)) (take-add at n bytes) further
      ∙ append_assoc (take at bytes) line (own_text (lines_of (drop n (drop at bytes))))
      ∙ ap (λ (l : List ℕ). take at bytes ++ l) (sym (own_further line (lines_of (drop n (drop at bytes))) e) ∙ ap own_text (sym first))
      ∙ so_far

  pub behind_more : bytes_eq line end_line ≡ false → lines_behind (lines_of (drop at bytes)) ≡ lines_behind (lines_of bytes)
      → lines_behind (lines_of (drop (at + n) bytes)) ≡ lines_behind (lines_of bytes)
  behind_more e so_far =
      ap (λ (l : List ℕ). lines_behind (lines_of l)) further
      ∙ sym (behind_further line (lines_of (drop n (drop at bytes))) e) ∙ ap lines_behind (sym first)
      ∙ so_far

  pub own_is : bytes_eq line end_line ≡ true → take at bytes ++ own_text (lines_of (drop at bytes)) ≡ own_text (lines_of bytes) → take (at + n) bytes ≡ own_text (lines_of bytes)
  own_is e so_far = take-add at n bytes ∙ ap (λ (l : List ℕ). take at bytes ++ l) (sym (own_ends line (lines_of (drop n (drop at bytes))) e) ∙ ap own_text (sym first)) ∙ so_far

  pub behind_is : bytes_eq line end_line ≡ true → lines_behind (lines_of (drop at bytes)) ≡ lines_behind (lines_of bytes) → lines_of (drop (at + n) bytes) ≡ lines_behind (lines_of bytes)
  behind_is e so_far = ap lines_of further ∙ sym (behind_ends line (lines_of (drop n (drop at bytes))) e) ∙ ap lines_behind (sym first) ∙ so_far

pub whole_left : (bytes : List ℕ) (at : ℕ) → take (length bytes - at) (drop at bytes) ≡ drop at bytes
whole_left bytes at = take_all (length bytes - at) (drop at bytes) (omega (arith, length-drop at bytes))

pub something_left : (bytes : List ℕ) (at : ℕ) → at < length bytes → 0 < length (drop at bytes)
something_left bytes at lt = omega (arith, lt, length-drop at bytes)

-- ---- the first line

pub first_of : (bytes : List ℕ) (n : ℕ) → (0 < length bytes → IsFirstLine bytes n) → take n bytes ≡ get_or (lines_of bytes) 0 []
first_of [] n first = take-nil n
first_of (byte ∷ bytes) n first = let is : IsFirstLine (byte ∷ bytes) n = first (omega arith) in ap (λ (ls : List (List ℕ)). get_or ls 0 []) (sym is)
