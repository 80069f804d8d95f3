-- A text says one thing at most; it is the spelling of one plan and certificate, or has one fault.
use Rattle.std.proofs.Common.{◌≡◌, ◌∙◌, refl, sym, ap, subst, ℕ, ◌-◌, ◌<◌, ◌≤◌, ◌⊎◌, inl, inr, List, [], ◌∷◌, true, arith, length}
use Rattle.std.specs.Prelude.{bytes_eq, position}
use Rattle.std.proofs.lemmas.Slice.Eq.{bytes_eq-Decides}
use Rattle.std.proofs.lemmas.Bool.{leb-true}
use Rattle.definitions.specs.Plans.Order.{SortKey}
use Rattle.definitions.specs.Plans.Path.{Path, SegmentScan, IndexScan, MatchingScan}
use Rattle.definitions.specs.Plans.Plan.{Plan, Access, Loop, Merge, Sort}
use Rattle.definitions.specs.Plans.Space.{order_at}
use Rattle.definitions.specs.Plans.TableSet.{Has}
use Rattle.definitions.specs.Plans.Certificate.{StateCost, Certificate, Precedes, AreRising, IsCertificate}
use Rattle.definitions.specs.Plans.Cost.{limit}
use Rattle.definitions.specs.Estimates.Version.{Version, One, Two, Three}
use Rattle.definitions.specs.Certificates.CertifiedBlock.{CertifiedBlock, is_on_column}
use Rattle.definitions.specs.Certificates.Text.{Written, text_of}
use Rattle.definitions.specs.Certificates.Form.{has_form, word_limit, Says}
use Rattle.definitions.specs.Certificates.Spelling.{plan_meant, IsOneOf, IndexIsThere, ConjunctIsThere, PathIsThere, PlanIsThere, StateIsThere, AreThere, AreBelow, Spells}
use Rattle.definitions.specs.Certificates.Fault.{Fault, BadForm, NoSuchNumber, BadStates, HasFault}
use Rattle.definitions.specs.Certificates.Laws.{IsSpelling}
use Rattle.definitions.proofs.CertificateTheory.Reading.{and_left, and_right, read, read_back}
use Rattle.definitions.proofs.CertificateTheory.Decisions.{Decided, both_decided, three_decided, either_decided, less_decided, at_most_decided, same_decided, true_decided, some_decided, all_decided}

-- ---- what a text says

pub says_read : (words : ℕ) → word_limit ≤ words → (version : Version) (bytes : List ℕ) (said : Written) → Says version bytes said → read words bytes ≡ said
says_read words le version bytes said (form, is) = ap (read words) is ∙ read_back words le version said form

pub says_once : (version : Version) (bytes : List ℕ) (a b : Written) → Says version bytes a → Says version bytes b → a ≡ b
says_once version bytes a b g h = sym (says_read word_limit (omega arith) version bytes a g) ∙ says_read word_limit (omega arith) version bytes b h

says_something : (version : Version) (bytes : List ℕ) → Decided ((said : Written) × Says version bytes said)
says_something version bytes = of_cases (both_decided (true_decided (has_form version (read word_limit bytes))) (true_decided (bytes_eq bytes (text_of version (read word_limit bytes)))))
  where
    of_cases : Decided ((has_form version (read word_limit bytes) ≡ true) × (bytes_eq bytes (text_of version (read word_limit bytes)) ≡ true)) → Decided ((said : Written) × Says version bytes said)
    of_cases (inl (form, same)) = inl (read word_limit bytes, (form, (bytes_eq-Decides bytes (text_of version (read word_limit bytes))).0 same))
    of_cases (inr not) = inr (λ h.
        let e : h.0 ≡ read word_limit bytes = sym (says_read word_limit (omega arith) version bytes h.0 h.1) in
        let k : Says version bytes (read word_limit bytes) = subst (Says version bytes) e h.1 in
        not (k.0, (bytes_eq-Decides bytes (text_of version (read word_limit bytes))).1 k.1))

-- ---- numbers that are there

one_of_decided : (count n : ℕ) → Decided (IsOneOf count n)
one_of_decided count n = both_decided (less_decided 0 n) (at_most_decided n count)

index_decided : (version : Version) (indexes : List (List ℕ)) (n : ℕ) → Decided (IndexIsThere version indexes n)
index_decided One indexes n = both_decided (less_decided 0 n) (some_decided (position (is_on_column (n - 1)) indexes))
index_decided Two indexes n = one_of_decided (length indexes) n
index_decided Three indexes n = one_of_decided (length indexes) n

module _ (block : CertifiedBlock) where
  path_decided : (path : Path) → Decided (PathIsThere block path)
  path_decided (SegmentScan t) = one_of_decided _ t
  path_decided (IndexScan t i backward) = both_decided (one_of_decided _ t) (index_decided _ _ i)
  path_decided (MatchingScan t i gs backward) = three_decided (one_of_decided _ t) (index_decided _ _ i) (all_decided (ConjunctIsThere block) (one_of_decided _) gs)

  plan_decided : (plan : Plan) → Decided (PlanIsThere block plan)
  plan_decided (Access path) = path_decided path
  plan_decided (Loop outer path) = both_decided (plan_decided outer) (path_decided path)
  plan_decided (Merge outer g inner) = three_decided (plan_decided outer) (one_of_decided _ g) (path_decided inner.path)
  plan_decided (Sort input k) = both_decided (plan_decided input) (less_decided _ _)

  state_decided : (state : StateCost) → Decided (StateIsThere block state)
  state_decided state = three_decided (less_decided _ _) (at_most_decided _ _) (both_decided (less_decided _ _) (all_decided (λ (key : SortKey). Has state.tables key.column.table) (λ key. same_decided _ _) (order_at block.space state.order)))

  there_decided : (said : Written) → Decided (AreThere block said)
  there_decided said = three_decided (same_decided _ _) (plan_decided said.plan) (all_decided (StateIsThere block) state_decided said.certificate.states)

rising_decided : (states : List StateCost) → Decided (AreRising states)
rising_decided [] = inl tt
rising_decided (s ∷ ss) = both_decided (all_decided (Precedes s) (λ t. either_decided (less_decided _ _) (both_decided (same_decided _ _) (less_decided _ _))) ss) (rising_decided ss)

below_decided : (certificate : Certificate) → Decided (AreBelow certificate)
below_decided c = both_decided (rising_decided c.states) (all_decided (λ (state : StateCost). state.cost < c.target) (λ state. less_decided _ _) c.states)

-- ---- spelled or faulty

module _ (block : CertifiedBlock) where
  pub spells_once : (bytes : List ℕ) (p q : Plan) (c d : Certificate) → Spells block bytes p c → Spells block bytes q d → (p ≡ q) × (c ≡ d)
  spells_once bytes p q c d g h =
      let e = says_once block.version bytes g.said h.said g.says h.says in
      (g.meant ∙ ap (λ (s : Written). plan_meant block s.plan) e ∙ sym h.meant, g.as_written ∙ ap (λ (s : Written). s.certificate) e ∙ sym h.as_written)

  pub spelled_certificate : (bytes : List ℕ) (plan : Plan) (certificate : Certificate) → Spells block bytes plan certificate → IsCertificate block.space certificate
  spelled_certificate bytes plan certificate s = subst (IsCertificate block.space) (sym s.as_written) (record {
    target = leb-true s.said.certificate.target limit (and_right _ _ (and_left _ _ s.says.0));
    costs = s.below.1;
    states = record {
      tables = λ i d l. let t = s.there.2 i d l in (t.0, t.1);
      orders = λ i d l. (s.there.2 i d l).2;
      rising = s.below.0;
    };
  })

  pub spelled_or_faulty : (bytes : List ℕ) → IsSpelling block bytes ⊎ ((fault : Fault) × HasFault block bytes fault)
  spelled_or_faulty bytes = of_said (says_something block.version bytes)
    where
      of_below : (said : Written) → Says block.version bytes said → AreThere block said → Decided (AreBelow said.certificate) → IsSpelling block bytes ⊎ ((fault : Fault) × HasFault block bytes fault)
      of_below said says there (inl below) = inl
          (plan_meant block said.plan, said.certificate, record { said = said; says = says; there = there; meant = refl; as_written = refl; below = below })
      of_below said says there (inr not) = inr (BadStates, (said, says, there, not))

      of_there : (said : Written) → Says block.version bytes said → Decided (AreThere block said) → IsSpelling block bytes ⊎ ((fault : Fault) × HasFault block bytes fault)
      of_there said says (inl there) = of_below said says there (below_decided said.certificate)
      of_there said says (inr not) = inr (NoSuchNumber, (said, says, not))

      of_said : Decided ((said : Written) × Says block.version bytes said) → IsSpelling block bytes ⊎ ((fault : Fault) × HasFault block bytes fault)
      of_said (inl (said, says)) = of_there said says (there_decided block said)
      of_said (inr not) = inr (BadForm, λ said says. not (said, says))

  same_there : (bytes : List ℕ) (a b : Written) → Says block.version bytes a → Says block.version bytes b → AreThere block a → AreThere block b
  same_there bytes a b g h there = subst (AreThere block) (says_once block.version bytes a b g h) there

  same_below : (bytes : List ℕ) (a b : Written) → Says block.version bytes a → Says block.version bytes b → AreBelow a.certificate → AreBelow b.certificate
  same_below bytes a b g h below = subst (λ (s : Written). AreBelow s.certificate) (says_once block.version bytes a b g h) below

  pub faultless : (bytes : List ℕ) (fault : Fault) → IsSpelling block bytes → HasFault block bytes fault → ⊥
  faultless bytes BadForm (plan, certificate, s) none = none s.said s.says
  faultless bytes NoSuchNumber (plan, certificate, s) (said, says, not) = not (same_there bytes s.said said s.says says s.there)
  faultless bytes BadStates (plan, certificate, s) (said, says, there, not) = not (same_below bytes s.said said s.says says s.below)

  pub one_fault : (bytes : List ℕ) (a b : Fault) → HasFault block bytes a → HasFault block bytes b → a ≡ b
  one_fault bytes BadForm BadForm g h = refl
  one_fault bytes BadForm NoSuchNumber g h = absurd (g h.0 h.1)
  one_fault bytes BadForm BadStates g h = absurd (g h.0 h.1)
  one_fault bytes NoSuchNumber BadForm g h = absurd (h g.0 g.1)
  one_fault bytes NoSuchNumber NoSuchNumber g h = refl
  one_fault bytes NoSuchNumber BadStates g h = absurd (g.2 (same_there bytes h.0 g.0 h.1 g.1 h.2))
  one_fault bytes BadStates BadForm g h = absurd (h g.0 g.1)
  one_fault bytes BadStates NoSuchNumber g h = absurd (h.2 (same_there bytes g.0 h.0 g.1 h.1 g.2))
  one_fault bytes BadStates BadStates g h = refl
