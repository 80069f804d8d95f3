-- Fields with a bar between each two, written one after another.
use Rattle.std.proofs.Common.{ℕ, ◌+◌, ◌<◌, ◌≡◌, ◌∙◌, sym, ap, zero, suc, List, [], ◌∷◌, ◌++◌, arith}
use Rattle.std.specs.List.{join_with_byte}
use Rattle.std.proofs.lemmas.List.{append-nil, append_assoc}

-- fields that stand behind others
abbrev pub behind : List (List ℕ) → List ℕ
behind [] = []
behind (f ∷ fs) = 124 ∷ f ++ behind fs

-- what is left to write of a line where so many fields are written
abbrev pub fields_left : ℕ → List (List ℕ) → List ℕ
fields_left zero fs = join_with_byte 124 fs
fields_left (suc i) fs = behind fs

joined : (f : List ℕ) (fs : List (List ℕ)) → join_with_byte 124 (f ∷ fs) ≡ f ++ behind fs
joined f [] = sym (append-nil f)
joined f (g ∷ fs) = ap (λ rest. f ++ 124 ∷ rest) (joined g fs)

next_place : (i : ℕ) → i + 1 ≡ suc i
next_place i = omega arith

-- a field that is not the first
pub later_field : (i : ℕ) (out field all : List ℕ) (left fields : List (List ℕ)) → left ≡ field ∷ fields → 0 < i → out ++ fields_left i left ≡ all → ((out ++ 124 ∷ []) ++ field) ++ fields_left (i + 1) fields ≡ all
later_field zero out field all left fields e p h = absurd (omega (arith, p))
later_field (suc i) out field all left fields e p h =
    ap (λ n. ((out ++ 124 ∷ []) ++ field) ++ fields_left n fields) (next_place (suc i)) ∙ append_assoc (out ++ 124 ∷ []) field _ ∙ append_assoc out (124 ∷ []) _ ∙ ap (λ fs. out ++ behind fs) (sym e) ∙ h

-- the first field
pub first_field : (i : ℕ) (out field all : List ℕ) (left fields : List (List ℕ)) → left ≡ field ∷ fields → i ≡ 0 → out ++ fields_left i left ≡ all → (out ++ field) ++ fields_left (i + 1) fields ≡ all
first_field zero out field all left fields e p h = append_assoc out field _ ∙ ap (λ rest. out ++ rest) (sym (joined field fields)) ∙ ap (λ fs. out ++ join_with_byte 124 fs) (sym e) ∙ h
first_field (suc i) out field all left fields e p h = absurd (omega (arith, p))
