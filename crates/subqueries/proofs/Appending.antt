-- What is made of the elements of a list, one after another, and appended.
use Rattle.std.proofs.Common.{◌≡◌, ◌∙◌, sym, ap, ℕ, ◌+◌, ◌<◌, List, ◌∷◌, ◌++◌, length, drop, get_or, append_assoc}
use Rattle.std.proofs.lemmas.List.{drop_more}

-- the next of them
pub one_appended : {X Y : Type 0} (F : List X → List Y) (before all : List Y) (xs : List X) (i : ℕ) (after own : List Y) (x : X)
    → i < length xs → x ≡ get_or xs i x → F (x ∷ drop (i + 1) xs) ≡ own ++ F (drop (i + 1) xs) → after ≡ before ++ own → before ++ F (drop i xs) ≡ all → after ++ F (drop (i + 1) xs) ≡ all
one_appended F before all xs i after own x h e split append now =
    ap (λ ys. ys ++ F (drop (i + 1) xs)) append
    ∙ append_assoc before own (F (drop (i + 1) xs))
    ∙ ap (λ ys. before ++ ys) (sym (ap F (drop_more xs i x h ∙ ap (λ y. y ∷ drop (i + 1) xs) (sym e)) ∙ split))
    ∙ now
