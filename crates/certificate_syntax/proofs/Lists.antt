-- Things of one kind, one behind the other.
use Rattle.std.proofs.Common.{◌≡◌, ◌≢◌, ◌∙◌, refl, sym, ap, subst, ℕ, List, [], ◌∷◌, ◌++◌, get_or, append-nil, append_assoc}
use Rattle.certificate_syntax.specs.declared.stop.TextStop.{TextStop}
use Rattle.certificate_syntax.specs.declared.stop.TextStop.TheVariants as stop
use Rattle.certificate_syntax.specs.Reading.{Refuses, Only, Many, AllIn}

many_more : {X : Type 0} (One : List ℕ → X → List ℕ → Type 0) (text : List ℕ) (xs : List X) (rest : List ℕ) (x : X) (mid : List ℕ)
    → Many One text xs rest → One rest x mid → Many One text (xs ++ x ∷ []) mid
many_more One text [] rest x mid h k = (mid, subst (λ (l : List ℕ). One l x mid) (sym h) k, refl)
many_more One text (y ∷ xs) rest x mid h k = (h.0, h.1, many_more One h.0 xs rest x mid h.2 k)

module _ {X : Type 0} (One : List ℕ → X → List ℕ → Type 0) (byte : ℕ) where
  -- so much has been read, and what stands there goes on with what is left
  abbrev pub HasRead : List ℕ → List X → List ℕ → Type 0
  HasRead text xs rest = Many One text xs rest
      × ((ys : List X) (other : List ℕ) → AllIn One byte text ys other → (more : List X) × AllIn One byte rest more other × (ys ≡ xs ++ more))

  pub begun : (text : List ℕ) → HasRead text [] text
  begun text = (refl, λ ys other h. (ys, h, refl))

  module _ (starts : (text : List ℕ) (x : X) (rest : List ℕ) → One text x rest → get_or text 0 0 ≡ byte) where
    pub goes_on : (text : List ℕ) (xs : List X) (rest : List ℕ) (x : X) (mid : List ℕ) → HasRead text xs rest → Only (One rest) x mid → HasRead text (xs ++ x ∷ []) mid
    goes_on text xs rest x mid read only = (many_more One text xs rest x mid read.0 only.0, λ ys other h. let k = read.1 ys other h in of_cases ys other k.0 k.1 k.2)
      where
        of_cases : (ys : List X) (other : List ℕ) (more : List X) → AllIn One byte rest more other → ys ≡ xs ++ more
            → (less : List X) × AllIn One byte mid less other × (ys ≡ (xs ++ x ∷ []) ++ less)
        of_cases ys other [] k e = absurd (k.1 (ap (λ (l : List ℕ). get_or l 0 0) (sym k.0) ∙ starts rest x mid only.0))
        of_cases ys other (y ∷ more) k e =
            let s = only.1 y k.0.0 k.0.1 in
            (more, (subst (λ (l : List ℕ). Many One l more other) s.1 k.0.2, k.1), e ∙ ap (λ (z : X). xs ++ (z ∷ more)) s.0 ∙ sym (append_assoc xs (x ∷ []) more))

    pub ended : (text : List ℕ) (xs : List X) (rest : List ℕ) → HasRead text xs rest → get_or rest 0 0 ≢ byte → Only (AllIn One byte text) xs rest
    ended text xs rest read over = ((read.0, over), λ ys other h. let k = read.1 ys other h in of_cases ys other k.0 k.1 k.2)
      where
        of_cases : (ys : List X) (other : List ℕ) (more : List X) → AllIn One byte rest more other → ys ≡ xs ++ more → (ys ≡ xs) × (other ≡ rest)
        of_cases ys other [] k e = (e ∙ append-nil xs, sym k.0)
        of_cases ys other (y ∷ more) k e = absurd (over (starts rest y k.0.0 k.0.1))

  pub refused : (text : List ℕ) (xs : List X) (rest : List ℕ) → HasRead text xs rest → get_or rest 0 0 ≡ byte → (e : TextStop) → Refuses (One rest) e → Refuses (AllIn One byte text) e
  refused text xs rest read here (stop.Form left expected) none = λ ys other h. let k = read.1 ys other h in of_cases other k.0 k.1
    where
      of_cases : (other : List ℕ) (more : List X) → AllIn One byte rest more other → ⊥
      of_cases other [] k = k.1 (ap (λ (l : List ℕ). get_or l 0 0) (sym k.0) ∙ here)
      of_cases other (y ∷ more) k = none y k.0.0 k.0.1
  refused text xs rest read here stop.Memory none = tt
