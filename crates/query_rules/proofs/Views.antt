-- Lists that are seen by a view of their elements.
use Rattle.std.proofs.Common.{◌≡◌, ◌∙◌, refl, sym, ap, ℕ, ◌+◌, ◌<◌, ◌≤◌, List, [], ◌∷◌, ◌++◌, length, map, drop, get_or}
use Rattle.std.proofs.lemmas.List.{append-nil, append_assoc, drop_more, map-append}
use Rattle.query_rules.proofs.Columns.{drop_behind}

pub seen_next : {A X : Type 0} (view : A → X) (xs : List A) (i : ℕ) (x : A) → i < length xs → x ≡ get_or xs i x → map view (drop i xs) ≡ view x ∷ map view (drop (i + 1) xs)
seen_next view xs i x h e = ap (map view) (drop_more xs i x h ∙ ap (λ y. y ∷ drop (i + 1) xs) (sym e))

pub seen_behind : {A X : Type 0} (view : A → X) (xs : List A) (i : ℕ) → length xs ≤ i → map view (drop i xs) ≡ []
seen_behind view xs i h = ap (map view) (drop_behind xs i h)

-- an element that is pushed, and what is still to come
pub pushed : {A X : Type 0} (view : A → X) (xs ys : List A) (x : A) (rest : List X) → ys ≡ xs ++ x ∷ [] → map view ys ++ rest ≡ map view xs ++ (view x ∷ rest)
pushed view xs ys x rest e = rw (e, map-append view xs (x ∷ []), append_assoc (map view xs) (view x ∷ []) rest) refl

pub seen_all : {A X : Type 0} (view : A → X) (ys : List X) (xs : List A) (i : ℕ) (all : List X) → length xs ≤ i → ys ++ map view (drop i xs) ≡ all → ys ≡ all
seen_all view ys xs i all h e = sym (append-nil ys) ∙ (rw (seen_behind view xs i h) at e)
