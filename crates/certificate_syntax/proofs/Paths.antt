-- Paths in texts.
use Rattle.std.proofs.Common.{◌≡◌, ◌≢◌, ◌∙◌, refl, sym, ap, ℕ, List, [], ◌∷◌, ◌++◌, Bool, true, false, get_or, arith, append_assoc}
use Rattle.std.specs.Prelude.{codes, decimal, ◌&&◌}
use Rattle.std.specs.List.{list_all}
use Rattle.std.proofs.lemmas.Bool.{false≢true}
use Rattle.definitions.specs.Characters.{is_digit}
use Rattle.definitions.specs.Plans.Path.{Path, SegmentScan, IndexScan, MatchingScan}
use Rattle.definitions.specs.Estimates.Version.{Version, One, Two, Three}
use Rattle.definitions.specs.Certificates.Text.{conjuncts_text, direction_text}
use Rattle.definitions.specs.Certificates.Form.{is_number, is_direction, is_match}
use Rattle.definitions.proofs.CertificateTheory.Reading.{and_left, and_right, match_numbers}
use Rattle.certificate_syntax.specs.declared.stop.TextStop.{TextStop}
use Rattle.certificate_syntax.specs.declared.stop.TextStop.TheVariants as stop
use Rattle.certificate_syntax.specs.Reading.{Refuses, Only, IsBehindDigits, WordIn, NumberIn, NumberBetween, DirectionIn, Many, AllIn, SlashedIn, MatchIn, PathIn}
use Rattle.certificate_syntax.proofs.Sequences.{Then, Tells}

pub and_true : (a b : Bool) → a ≡ true → b ≡ true → (a && b) ≡ true
and_true true b h k = k
and_true false b h k = h

pub first_of : (text own : List ℕ) → text ≡ own → get_or text 0 0 ≡ get_or own 0 0
first_of text own e = ap (λ (l : List ℕ). get_or l 0 0) e

-- ---- directions

pub forward_tells : (version : Version) (text : List ℕ) → get_or text 0 0 ≢ 32 → Tells (WordIn (codes ")") text) (λ (u : Unit {0}). false) (DirectionIn version text)
forward_tells version text not = ((λ u rest h. (allowed version, h)), from)
  where
    allowed : (version : Version) → is_direction version false ≡ true
    allowed One = refl
    allowed Two = refl
    allowed Three = refl

    from : (b : Bool) (rest : List ℕ) → DirectionIn version text b rest → (u : Unit {0}) × WordIn (codes ")") text u rest × (b ≡ false)
    from false rest h = (tt, h.1, refl)
    from true rest h = absurd (not (first_of text _ h.1))

pub backward_tells : (version : Version) (text : List ℕ) → is_direction version true ≡ true → get_or text 0 0 ≡ 32
    → Tells (Then (WordIn (codes " BACK") text) (λ (u : Unit {0}). WordIn (codes ")"))) (λ (x : Unit {0} × Unit {0}). true) (DirectionIn version text)
backward_tells version text allowed first = ((λ x rest h. (allowed, h.1 ∙ ap (λ (l : List ℕ). codes " BACK" ++ l) h.2)), from)
  where
    from : (b : Bool) (rest : List ℕ) → DirectionIn version text b rest → (x : Unit {0} × Unit {0}) × Then (WordIn (codes " BACK") text) (λ (u : Unit {0}). WordIn (codes ")")) x rest × (b ≡ true)
    from true rest h = ((tt, tt), (codes ")" ++ rest, h.1, refl), refl)
    from false rest h = absurd (let k = first_of text _ h.1 in omega (arith, k, first))

-- ---- conjuncts

pub slashed_tells : (text : List ℕ) → Tells (Then (WordIn (codes "/") text) (λ (u : Unit {0}). NumberIn)) (λ (x : Unit {0} × ℕ). x.1) (SlashedIn text)
slashed_tells text = (
  (λ x rest h. (h.2.0, h.2.1, h.1 ∙ ap (λ (l : List ℕ). codes "/" ++ l) h.2.2)),
  (λ n rest h. ((tt, n), (decimal n ++ rest, h.2, (h.0, h.1, refl)), refl)),
)

pub slash_starts : (text : List ℕ) (n : ℕ) (rest : List ℕ) → SlashedIn text n rest → get_or text 0 0 ≡ 47
slash_starts text n rest h = first_of text _ h.2

conjunct_flat : (g gs rest : List ℕ) → (codes "/" ++ g ++ gs) ++ rest ≡ codes "/" ++ (g ++ (gs ++ rest))
conjunct_flat g gs rest = simp append_assoc

pub behind_conjuncts : (gs rest : List ℕ) → IsBehindDigits rest → IsBehindDigits (conjuncts_text gs ++ rest)
behind_conjuncts [] rest h = h
behind_conjuncts (g ∷ gs) rest h = refl

many_text : (text gs rest : List ℕ) → IsBehindDigits text → Many SlashedIn text gs rest → (list_all is_number gs ≡ true) × IsBehindDigits rest × (text ≡ conjuncts_text gs ++ rest)
many_text text [] rest b h = (refl, ap (λ (l : List ℕ). is_digit (get_or l 0 0)) (sym h) ∙ b, h)
many_text text (g ∷ gs) rest b h =
    let own = h.1 in
    let k = many_text h.0 gs rest own.1 h.2 in
    (and_true _ _ own.0 k.0, k.1, own.2 ∙ ap (λ (l : List ℕ). codes "/" ++ (decimal g ++ l)) k.2 ∙ sym (conjunct_flat (decimal g) (conjuncts_text gs) rest))

text_many : (text gs rest : List ℕ) → list_all is_number gs ≡ true → IsBehindDigits rest → text ≡ conjuncts_text gs ++ rest → Many SlashedIn text gs rest
text_many text [] rest h b e = e
text_many text (g ∷ gs) rest h b e = (
  conjuncts_text gs ++ rest,
  (and_left _ _ h, behind_conjuncts gs rest b, e ∙ conjunct_flat (decimal g) (conjuncts_text gs) rest),
  text_many (conjuncts_text gs ++ rest) gs rest (and_right _ _ h) b refl,
)

match_all : (version : Version) (gs : List ℕ) → is_match version gs ≡ true → list_all is_number gs ≡ true
match_all version [] h = refl
match_all version (g ∷ gs) h = match_numbers version g gs h

module _ (version : Version) (text : List ℕ) (behind : IsBehindDigits text) where
  slashed : (gs rest : List ℕ) → MatchIn version text gs rest → AllIn SlashedIn 47 text gs rest
  slashed gs rest h = (text_many text gs rest (match_all version gs h.0) h.1 h.3, h.2)

  pub slashed_numbers : (gs rest : List ℕ) → AllIn SlashedIn 47 text gs rest → list_all is_number gs ≡ true
  slashed_numbers gs rest h = (many_text text gs rest behind h.0).0

  pub match_only : (gs rest : List ℕ) → is_match version gs ≡ true → Only (AllIn SlashedIn 47 text) gs rest → Only (MatchIn version text) gs rest
  match_only gs rest is only =
      let k = many_text text gs rest behind only.0.0 in
      ((is, k.1, only.0.1, k.2), λ ys other h. only.1 ys other (slashed ys other h))

  pub no_match : (gs rest : List ℕ) → is_match version gs ≡ false → Only (AllIn SlashedIn 47 text) gs rest → (ys other : List ℕ) → MatchIn version text ys other → ⊥
  no_match gs rest is only ys other h =
      let e = only.1 ys other (slashed ys other h) in
      false≢true (sym is ∙ ap (is_match version) (sym e.0) ∙ h.0)

  pub match_refused : (e : TextStop) → Refuses (AllIn SlashedIn 47 text) e → Refuses (MatchIn version text) e
  match_refused (stop.Form left expected) none = λ ys other h. none ys other (slashed ys other h)
  match_refused stop.Memory none = tt

-- ---- paths

pub segment_tells : (version : Version) (text : List ℕ) → get_or text 0 0 ≡ 83 → Tells (NumberBetween (codes "SEG ") (codes ")") text) SegmentScan (PathIn version text)
segment_tells version text first = ((λ t rest h. h), from)
  where
    from : (p : Path) (rest : List ℕ) → PathIn version text p rest → (t : ℕ) × NumberBetween (codes "SEG ") (codes ")") text t rest × (p ≡ SegmentScan t)
    from (SegmentScan t) rest h = (t, h, refl)
    from (IndexScan t i b) rest h = absurd (let k = first_of text _ h.1 in omega (arith, k, first))
    from (MatchingScan t i gs b) rest h = absurd (let k = first_of text _ h.1 in omega (arith, k, first))

index_flat : (t i d r : List ℕ) → (codes "IDX " ++ t ++ codes "." ++ i ++ d) ++ r ≡ codes "IDX " ++ (t ++ (codes "." ++ (i ++ (d ++ r))))
index_flat t i d r = simp append_assoc

behind_direction : (b : Bool) (rest : List ℕ) → IsBehindDigits (direction_text b ++ (codes ")" ++ rest)) × (get_or (direction_text b ++ (codes ")" ++ rest)) 0 0 ≢ 47)
behind_direction true rest = (refl, λ e. omega (arith, e))
behind_direction false rest = (refl, λ e. omega (arith, e))

abbrev pub index_told : ℕ × (ℕ × Bool) → Path
index_told x = IndexScan x.0 x.1.0 x.1.1

abbrev IndexSteps : (version : Version) (text : List ℕ) → ℕ × (ℕ × Bool) → List ℕ → Type 0
IndexSteps version text = Then (NumberBetween (codes "IDX ") (codes ".") text) (λ (t : ℕ) (m : List ℕ). Then (NumberIn m) (λ (i : ℕ). DirectionIn version))

pub index_tells : (version : Version) (text : List ℕ) → get_or text 0 0 ≡ 73
    → Tells (Then (NumberBetween (codes "IDX ") (codes ".") text) (λ (t : ℕ) (m : List ℕ). Then (NumberIn m) (λ (i : ℕ). DirectionIn version))) index_told (PathIn version text)
index_tells version text first = (to, from)
  where
    to : (x : ℕ × (ℕ × Bool)) (rest : List ℕ) → IndexSteps version text x rest → PathIn version text (index_told x) rest
    to x rest h =
        let table = h.1 in
        let number = h.2.1 in
        let direction = h.2.2 in (
          and_true _ _ (and_true _ _ table.0 number.0) direction.0,
          table.1 ∙ ap (λ (l : List ℕ). codes "IDX " ++ (decimal x.0 ++ (codes "." ++ l))) (number.2 ∙ ap (λ (l : List ℕ). decimal x.1.0 ++ l) direction.1)
              ∙ sym (index_flat (decimal x.0) (decimal x.1.0) (direction_text x.1.1) (codes ")" ++ rest)),
        )

    from : (p : Path) (rest : List ℕ) → PathIn version text p rest → (x : ℕ × (ℕ × Bool)) × IndexSteps version text x rest × (p ≡ index_told x)
    from (SegmentScan t) rest h = absurd (let k = first_of text _ h.1 in omega (arith, k, first))
    from (IndexScan t i b) rest h =
        let last : List ℕ = direction_text b ++ (codes ")" ++ rest) in (
          (t, (i, b)),
          (
            decimal i ++ last,
            (and_left _ _ (and_left _ _ h.0), h.1 ∙ index_flat (decimal t) (decimal i) (direction_text b) (codes ")" ++ rest)),
            (last, (and_right _ _ (and_left _ _ h.0), (behind_direction b rest).0, refl), (and_right _ _ h.0, refl)),
          ),
          refl,
        )
    from (MatchingScan t i gs b) rest h = absurd (let k = first_of text _ h.1 in omega (arith, k, first))

match_flat : (t i g d r : List ℕ) → (codes "MATCH " ++ t ++ codes "." ++ i ++ g ++ d) ++ r ≡ codes "MATCH " ++ (t ++ (codes "." ++ (i ++ (g ++ (d ++ r)))))
match_flat t i g d r = simp append_assoc

abbrev pub match_told : ℕ × (ℕ × (List ℕ × Bool)) → Path
match_told x = MatchingScan x.0 x.1.0 x.1.1.0 x.1.1.1

abbrev MatchSteps : (version : Version) (text : List ℕ) → ℕ × (ℕ × (List ℕ × Bool)) → List ℕ → Type 0
MatchSteps version text = Then (NumberBetween (codes "MATCH ") (codes ".") text) (λ (t : ℕ) (m : List ℕ). Then (NumberIn m) (λ (i : ℕ) (n : List ℕ). Then (MatchIn version n) (λ (gs : List ℕ). DirectionIn version)))

pub match_tells : (version : Version) (text : List ℕ) → get_or text 0 0 ≡ 77
    → Tells (Then (NumberBetween (codes "MATCH ") (codes ".") text) (λ (t : ℕ) (m : List ℕ). Then (NumberIn m) (λ (i : ℕ) (n : List ℕ). Then (MatchIn version n) (λ (gs : List ℕ). DirectionIn version))))
    match_told (PathIn version text)
match_tells version text first = (to, from)
  where
    to : (x : ℕ × (ℕ × (List ℕ × Bool))) (rest : List ℕ) → MatchSteps version text x rest → PathIn version text (match_told x) rest
    to x rest h =
        let table = h.1 in
        let number = h.2.1 in
        let conjuncts = h.2.2.1 in
        let direction = h.2.2.2 in (
          and_true _ _ (and_true _ _ (and_true _ _ table.0 number.0) conjuncts.0) direction.0,
          table.1
              ∙ ap (λ (l : List ℕ). codes "MATCH " ++ (decimal x.0 ++ (codes "." ++ l))) (number.2 ∙ ap (λ (l : List ℕ). decimal x.1.0 ++ l) (conjuncts.3 ∙ ap (λ (l : List ℕ). conjuncts_text x.1.1.0 ++ l) direction.1))
              ∙ sym (match_flat (decimal x.0) (decimal x.1.0) (conjuncts_text x.1.1.0) (direction_text x.1.1.1) (codes ")" ++ rest)),
        )

    from : (p : Path) (rest : List ℕ) → PathIn version text p rest → (x : ℕ × (ℕ × (List ℕ × Bool))) × MatchSteps version text x rest × (p ≡ match_told x)
    from (SegmentScan t) rest h = absurd (let k = first_of text _ h.1 in omega (arith, k, first))
    from (IndexScan t i b) rest h = absurd (let k = first_of text _ h.1 in omega (arith, k, first))
    from (MatchingScan t i gs b) rest h =
        let last : List ℕ = direction_text b ++ (codes ")" ++ rest) in
        let ends = behind_direction b rest in
        let h3 = and_left _ _ h.0 in
        let h2 = and_left _ _ h3 in (
          (t, (i, (gs, b))),
          (
            decimal i ++ (conjuncts_text gs ++ last),
            (and_left _ _ h2, h.1 ∙ match_flat (decimal t) (decimal i) (conjuncts_text gs) (direction_text b) (codes ")" ++ rest)),
            (
              conjuncts_text gs ++ last,
              (and_right _ _ h2, behind_conjuncts gs last ends.0, refl),
              (last, (and_right _ _ h3, ends.0, ends.1, refl), (and_right _ _ h.0, refl)),
            ),
          ),
          refl,
        )
