-- Plans in texts.
use Rattle.std.proofs.Common.{◌≡◌, ◌≢◌, ◌∙◌, refl, sym, ap, ℕ, ◌+◌, ◌<◌, List, ◌++◌, Bool, true, false, get_or, arith, append_assoc, ◌==◌}
use Rattle.std.specs.Prelude.{codes, decimal}
use Rattle.definitions.specs.Plans.Path.{Path, SegmentScan, IndexScan, MatchingScan}
use Rattle.definitions.specs.Plans.Plan.{Plan, Access, Loop, Merge, Sort}
use Rattle.definitions.specs.Estimates.Version.{Version}
use Rattle.definitions.specs.Certificates.Text.{path_text, sorted_text, plan_text}
use Rattle.definitions.specs.Certificates.Form.{is_plan, word_count}
use Rattle.definitions.proofs.CertificateTheory.Reading.{and_left, and_right}
use Rattle.certificate_syntax.specs.declared.plan.Around.{Around}
use Rattle.certificate_syntax.specs.declared.plan.Around.TheVariants as around
use Rattle.certificate_syntax.specs.declared.written.WrittenPlan as e
use Rattle.certificate_syntax.specs.declared.written.WrittenPlan.TheVariants as w
use Rattle.certificate_syntax.specs.declared.written.WrittenPlan.TheOpen as o
use Rattle.certificate_syntax.specs.declared.written.WrittenPlan.TheFolds as folds
use Rattle.certificate_syntax.specs.Said.{path_said, plan_layer, plan_said}
use Rattle.certificate_syntax.specs.Reading.{WordIn, NumberBetween, PathIn, around_text, AroundIn, SortedIn, WrappedIn, PlanIn}
use Rattle.certificate_syntax.proofs.Sequences.{Then, Tells}
use Rattle.certificate_syntax.proofs.Paths.{and_true, first_of}

-- ---- what they stand for

pub of_access : (path : _) → plan_said (e.Access path) ≡ Access (path_said path)
of_access path = ap plan_said (sym (w.rolls-Access path)) ∙ folds.fold-roll-WrittenPlan Plan plan_layer (o.Access path)

-- ---- words

same_around : (a b : Around) → get_or (around_text a) 0 0 ≡ get_or (around_text b) 0 0 → a ≡ b
same_around around.Loop around.Loop e = refl
same_around around.Merge around.Merge e = refl
same_around around.Sort around.Sort e = refl
same_around around.Loop around.Merge e = absurd (omega (arith, e))
same_around around.Loop around.Sort e = absurd (omega (arith, e))
same_around around.Merge around.Loop e = absurd (omega (arith, e))
same_around around.Merge around.Sort e = absurd (omega (arith, e))
same_around around.Sort around.Loop e = absurd (omega (arith, e))
same_around around.Sort around.Merge e = absurd (omega (arith, e))

begins : (a : Around) (rest : List ℕ) → get_or (around_text a ++ rest) 0 0 ≡ get_or (around_text a) 0 0
begins around.Loop rest = refl
begins around.Merge rest = refl
begins around.Sort rest = refl

pub opened_tells : (text word : List ℕ) (a : Around) → word ≡ around_text a → get_or text 0 0 ≡ get_or (around_text a) 0 0 → Tells (WordIn word text) (λ (u : Unit {0}). a) (AroundIn text)
opened_tells text word a spelled first = (
  (λ u rest h. h ∙ ap (λ (l : List ℕ). l ++ rest) spelled),
  (λ b rest h.
      let e : b ≡ a = same_around b a (sym (begins b rest) ∙ sym (first_of text _ h) ∙ first) in
      (tt, h ∙ ap (λ (c : Around). around_text c ++ rest) e ∙ ap (λ (l : List ℕ). l ++ rest) (sym spelled), e)),
)

pub unopened : (text : List ℕ) → get_or text 0 0 ≢ 76 → get_or text 0 0 ≢ 77 → get_or text 0 0 ≢ 83 → (a : Around) (rest : List ℕ) → AroundIn text a rest → ⊥
unopened text l m s around.Loop rest h = l (first_of text _ h)
unopened text l m s around.Merge rest h = m (first_of text _ h)
unopened text l m s around.Sort rest h = s (first_of text _ h)

pub sorted_tells : (text : List ℕ) → (get_or text 1 0 == 79) ≡ true → Tells (WordIn (codes "SORTED ") text) (λ (u : Unit {0}). true) (SortedIn text)
sorted_tells text is = ((λ u rest h. (sym is, h)), from)
  where
    from : (b : Bool) (rest : List ℕ) → SortedIn text b rest → (u : Unit {0}) × WordIn (codes "SORTED ") text u rest × (b ≡ true)
    from true rest h = (tt, h.1, refl)
    from false rest h = absurd (cc (h.0, is))

-- ---- what is behind the plan below

abbrev LoopSteps : (version : Version) (text : List ℕ) → Unit {0} × Path → List ℕ → Type 0
LoopSteps version text = Then (WordIn (codes ",") text) (λ (u : Unit {0}). PathIn version)

pub loop_tells : (version : Version) (below : Plan) (text : List ℕ)
    → Tells (Then (WordIn (codes ",") text) (λ (u : Unit {0}). PathIn version)) (λ (x : Unit {0} × Path). Loop below x.1) (WrappedIn version around.Loop below text)
loop_tells version below text = ((λ x rest h. (refl, h.2.0, h.1 ∙ ap (λ (l : List ℕ). codes "," ++ l) h.2.1)), from)
  where
    from : (p : Plan) (rest : List ℕ) → WrappedIn version around.Loop below text p rest → (x : Unit {0} × Path) × LoopSteps version text x rest × (p ≡ Loop below x.1)
    from (Loop outer path) rest h = ((tt, path), (path_text path ++ (codes ")" ++ rest), h.2, (h.1, refl)), ap (λ (o : Plan). Loop o path) h.0)
    from (Access path) rest h = absurd h
    from (Merge outer conjunct inner) rest h = absurd h
    from (Sort input order) rest h = absurd h

abbrev pub merge_told : Plan → ℕ × (Bool × Path) → Plan
merge_told below x = Merge below x.0 (record { path = x.1.1; sorted = x.1.0 })

abbrev MergeSteps : (version : Version) (text : List ℕ) → ℕ × (Bool × Path) → List ℕ → Type 0
MergeSteps version text = Then (NumberBetween (codes ",") (codes ",") text) (λ (g : ℕ) (m : List ℕ). Then (SortedIn m) (λ (s : Bool). PathIn version))

pub merge_tells : (version : Version) (below : Plan) (text : List ℕ)
    → Tells (Then (NumberBetween (codes ",") (codes ",") text) (λ (g : ℕ) (m : List ℕ). Then (SortedIn m) (λ (s : Bool). PathIn version))) (merge_told below)
    (WrappedIn version around.Merge below text)
merge_tells version below text = (to, from)
  where
    to : (x : ℕ × (Bool × Path)) (rest : List ℕ) → MergeSteps version text x rest → WrappedIn version around.Merge below text (merge_told below x) rest
    to x rest h =
        let number = h.1 in
        let sorted = h.2.1 in
        let path = h.2.2 in (
          refl,
          number.0,
          path.0,
          number.1 ∙ ap (λ (l : List ℕ). codes "," ++ (decimal x.0 ++ (codes "," ++ l))) (sorted.1 ∙ ap (λ (l : List ℕ). sorted_text x.1.0 ++ l) path.1),
        )

    second_letter : (sorted : Bool) (path : Path) (rest : List ℕ) → sorted ≡ (get_or (sorted_text sorted ++ (path_text path ++ (codes ")" ++ rest))) 1 0 == 79)
    second_letter true path rest = refl
    second_letter false (SegmentScan t) rest = refl
    second_letter false (IndexScan t i b) rest = refl
    second_letter false (MatchingScan t i gs b) rest = refl

    from : (p : Plan) (rest : List ℕ) → WrappedIn version around.Merge below text p rest → (x : ℕ × (Bool × Path)) × MergeSteps version text x rest × (p ≡ merge_told below x)
    from (Merge outer conjunct inner) rest h =
        let last : List ℕ = path_text inner.path ++ (codes ")" ++ rest) in (
          (conjunct, (inner.sorted, inner.path)),
          (sorted_text inner.sorted ++ last, (h.1, h.3), (last, (second_letter inner.sorted inner.path rest, refl), (h.2, refl))),
          ap (λ (o : Plan). Merge o conjunct inner) h.0,
        )
    from (Access path) rest h = absurd h
    from (Loop outer path) rest h = absurd h
    from (Sort input order) rest h = absurd h

pub sort_tells : (version : Version) (below : Plan) (text : List ℕ)
    → Tells (NumberBetween (codes ",") (codes ")") text) (λ (k : ℕ). Sort below k) (WrappedIn version around.Sort below text)
sort_tells version below text = ((λ k rest h. (refl, h.0, h.1)), from)
  where
    from : (p : Plan) (rest : List ℕ) → WrappedIn version around.Sort below text p rest → (k : ℕ) × NumberBetween (codes ",") (codes ")") text k rest × (p ≡ Sort below k)
    from (Sort input order) rest h = (order, (h.1, h.2), ap (λ (o : Plan). Sort o order) h.0)
    from (Access path) rest h = absurd h
    from (Loop outer path) rest h = absurd h
    from (Merge outer conjunct inner) rest h = absurd h

-- ---- plans

access_flat : (p r : List ℕ) → (codes "ACCESS(" ++ p ++ codes ")") ++ r ≡ codes "ACCESS(" ++ (p ++ (codes ")" ++ r))
access_flat p r = simp append_assoc

loop_flat : (p a r : List ℕ) → (codes "LOOP(" ++ p ++ codes "," ++ a ++ codes ")") ++ r ≡ codes "LOOP(" ++ (p ++ (codes "," ++ (a ++ (codes ")" ++ r))))
loop_flat p a r = simp append_assoc

merge_flat : (p g s a r : List ℕ) → (codes "MERGE(" ++ p ++ codes "," ++ g ++ codes "," ++ s ++ a ++ codes ")") ++ r
    ≡ codes "MERGE(" ++ (p ++ (codes "," ++ (g ++ (codes "," ++ (s ++ (a ++ (codes ")" ++ r)))))))
merge_flat p g s a r = simp append_assoc

sort_flat : (p k r : List ℕ) → (codes "SORT(" ++ p ++ codes "," ++ k ++ codes ")") ++ r ≡ codes "SORT(" ++ (p ++ (codes "," ++ (k ++ (codes ")" ++ r))))
sort_flat p k r = simp append_assoc

pub access_tells : (version : Version) (words : ℕ) (text : List ℕ) → 0 < words → get_or text 0 0 ≡ 65
    → Tells (Then (WordIn (codes "ACCESS(") text) (λ (u : Unit {0}). PathIn version)) (λ (x : Unit {0} × Path). Access x.1) (PlanIn version words text)
access_tells version words text some first =
    ((λ x rest h. (h.2.0, some, h.1 ∙ ap (λ (l : List ℕ). codes "ACCESS(" ++ l) h.2.1 ∙ sym (access_flat (path_text x.1) rest))), from)
  where
    from : (p : Plan) (rest : List ℕ) → PlanIn version words text p rest
        → (x : Unit {0} × Path) × Then (WordIn (codes "ACCESS(") text) (λ (u : Unit {0}). PathIn version) x rest × (p ≡ Access x.1)
    from (Access path) rest h = ((tt, path), (path_text path ++ (codes ")" ++ rest), h.2 ∙ access_flat (path_text path) rest, (h.0, refl)), refl)
    from (Loop outer path) rest h = absurd (let k = first_of text _ h.2 in omega (arith, k, first))
    from (Merge outer conjunct inner) rest h = absurd (let k = first_of text _ h.2 in omega (arith, k, first))
    from (Sort input order) rest h = absurd (let k = first_of text _ h.2 in omega (arith, k, first))

pub no_words : (version : Version) (words : ℕ) (text : List ℕ) → words ≡ 0 → (p : Plan) (rest : List ℕ) → PlanIn version words text p rest → ⊥
no_words version words text is (Access path) rest h = omega (arith, h.1, is)
no_words version words text is (Loop outer path) rest h = omega (arith, h.1, is)
no_words version words text is (Merge outer conjunct inner) rest h = omega (arith, h.1, is)
no_words version words text is (Sort input order) rest h = omega (arith, h.1, is)

abbrev PlanSteps : (version : Version) (left : ℕ) (text : List ℕ) → Around × (Plan × Plan) → List ℕ → Type 0
PlanSteps version left text = Then (AroundIn text) (λ (a : Around) (m : List ℕ). Then (PlanIn version left m) (λ (below : Plan). WrappedIn version a below))

pub plan_tells : (version : Version) (words left : ℕ) (text : List ℕ) → words ≡ left + 1 → get_or text 0 0 ≢ 65
    → Tells (Then (AroundIn text) (λ (a : Around) (m : List ℕ). Then (PlanIn version left m) (λ (below : Plan). WrappedIn version a below))) (λ (x : Around × (Plan × Plan)). x.1.1)
    (PlanIn version words text)
plan_tells version words left text is other = ((λ x rest h. to x.0 x.1.0 x.1.1 h.0 h.2.0 rest h.1 h.2.1 h.2.2), from)
  where
    to : (a : Around) (below p : Plan) (m n rest : List ℕ) → AroundIn text a m → PlanIn version left m below n → WrappedIn version a below n p rest → PlanIn version words text p rest
    to around.Loop below (Loop outer path) m n rest h k w = (
      and_true _ _ (ap (is_plan version) w.0 ∙ k.0) w.1,
      omega (arith, ap word_count w.0, k.1, is),
      h ∙ ap (λ (l : List ℕ). codes "LOOP(" ++ l) (k.2 ∙ ap (λ (q : Plan). plan_text q ++ n) (sym w.0) ∙ ap (λ (l : List ℕ). plan_text outer ++ l) w.2)
          ∙ sym (loop_flat (plan_text outer) (path_text path) rest),
    )
    to around.Merge below (Merge outer conjunct inner) m n rest h k w = (
      and_true _ _ (and_true _ _ (ap (is_plan version) w.0 ∙ k.0) w.1) w.2,
      omega (arith, ap word_count w.0, k.1, is),
      h ∙ ap (λ (l : List ℕ). codes "MERGE(" ++ l) (k.2 ∙ ap (λ (q : Plan). plan_text q ++ n) (sym w.0) ∙ ap (λ (l : List ℕ). plan_text outer ++ l) w.3)
          ∙ sym (merge_flat (plan_text outer) (decimal conjunct) (sorted_text inner.sorted) (path_text inner.path) rest),
    )
    to around.Sort below (Sort input order) m n rest h k w = (
      and_true _ _ (ap (is_plan version) w.0 ∙ k.0) w.1,
      omega (arith, ap word_count w.0, k.1, is),
      h ∙ ap (λ (l : List ℕ). codes "SORT(" ++ l) (k.2 ∙ ap (λ (q : Plan). plan_text q ++ n) (sym w.0) ∙ ap (λ (l : List ℕ). plan_text input ++ l) w.2)
          ∙ sym (sort_flat (plan_text input) (decimal order) rest),
    )
    to _ below _ m n rest h k w = absurd w

    from : (p : Plan) (rest : List ℕ) → PlanIn version words text p rest → (x : Around × (Plan × Plan)) × PlanSteps version left text x rest × (p ≡ x.1.1)
    from (Access path) rest h = absurd (other (first_of text _ h.2))
    from (Loop outer path) rest h =
        let last : List ℕ = codes "," ++ (path_text path ++ (codes ")" ++ rest)) in (
          (around.Loop, (outer, Loop outer path)),
          (
            plan_text outer ++ last,
            h.2 ∙ loop_flat (plan_text outer) (path_text path) rest,
            (last, (and_left _ _ h.0, omega (arith, h.1, is), refl), (refl, and_right _ _ h.0, refl)),
          ),
          refl,
        )
    from (Merge outer conjunct inner) rest h =
        let last : List ℕ = codes "," ++ (decimal conjunct ++ (codes "," ++ (sorted_text inner.sorted ++ (path_text inner.path ++ (codes ")" ++ rest))))) in (
          (around.Merge, (outer, Merge outer conjunct inner)),
          (
            plan_text outer ++ last,
            h.2 ∙ merge_flat (plan_text outer) (decimal conjunct) (sorted_text inner.sorted) (path_text inner.path) rest,
            (last, (and_left _ _ (and_left _ _ h.0), omega (arith, h.1, is), refl), (refl, and_right _ _ (and_left _ _ h.0), and_right _ _ h.0, refl)),
          ),
          refl,
        )
    from (Sort input order) rest h =
        let last : List ℕ = codes "," ++ (decimal order ++ (codes ")" ++ rest)) in (
          (around.Sort, (input, Sort input order)),
          (
            plan_text input ++ last,
            h.2 ∙ sort_flat (plan_text input) (decimal order) rest,
            (last, (and_left _ _ h.0, omega (arith, h.1, is), refl), (refl, and_right _ _ h.0, refl)),
          ),
          refl,
        )
