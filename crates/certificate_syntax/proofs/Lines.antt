-- Lines in texts.
use Rattle.std.proofs.Common.{◌≡◌, ◌∙◌, refl, sym, ap, ℕ, ◌≤◌, List, [], ◌∷◌, ◌++◌, true, false, ◌==◌, subst, get_or, length, arith, append_assoc, append-nil, Result, Ok, Err}
use Rattle.std.specs.Prelude.{codes, decimal, flat_map}
use Rattle.std.specs.List.{list_all}
use Rattle.std.specs.Result.{IsErrAnd}
use Rattle.std.proofs.lemmas.Bool.{eqb-true, leb-true, le-leb, false≢true}
use Rattle.std.proofs.lemmas.List.Concat.{flat_map-cons}
use Rattle.definitions.specs.Printing.{line}
use Rattle.definitions.specs.Plans.Plan.{Plan}
use Rattle.definitions.specs.Plans.Certificate.{StateCost}
use Rattle.definitions.specs.Estimates.Version.{Version}
use Rattle.definitions.specs.Certificates.Text.{Written, plan_text, state_line, first_line, end_line, text_of}
use Rattle.definitions.specs.Certificates.Form.{is_number, is_plan, is_state, word_count, word_limit, has_form, Says}
use Rattle.definitions.proofs.CertificateTheory.Reading.{and_left, and_right}
use Rattle.certificate_syntax.specs.declared.fault.Expected.{Expected}
use Rattle.certificate_syntax.specs.declared.fault.FormFault.{FormFault}
use Rattle.certificate_syntax.specs.declared.fault.FormFault.TheVariants as fault
use Rattle.certificate_syntax.specs.declared.stop.TextStop.{TextStop}
use Rattle.certificate_syntax.specs.declared.stop.TextStop.TheVariants as stop
use Rattle.certificate_syntax.specs.declared.written.Written as w
use Rattle.certificate_syntax.specs.Reading.{Refuses, Only, WordIn, NumberBefore, NumberBetween, Many, AllIn, PlanIn, StateIn, BlockIn, PlanLineIn, TextIn, SaysNothing, IsFaultOf, SaysAll}
use Rattle.certificate_syntax.proofs.Sequences.{Then, Tells}
use Rattle.certificate_syntax.proofs.Paths.{and_true, first_of}

-- ---- states

state_flat : (s k v r : List ℕ) → line (codes "STATE " ++ s ++ codes " " ++ k ++ codes " " ++ v) ++ r ≡ codes "STATE " ++ (s ++ (codes " " ++ (k ++ (codes " " ++ (v ++ (codes "\n" ++ r))))))
state_flat s k v r = simp append_assoc

abbrev pub state_told : ℕ × (ℕ × ℕ) → StateCost
state_told x = record { tables = x.0; order = x.1.0; cost = x.1.1 }

pub state_tells : (text : List ℕ)
    → Tells (Then (NumberBetween (codes "STATE ") (codes " ") text) (λ (s : ℕ) (m : List ℕ). Then (NumberBefore (codes " ") m) (λ (k : ℕ). NumberBefore (codes "\n")))) state_told (StateIn text)
state_tells text = (
  (λ x rest h. (
    and_true _ _ (and_true _ _ h.1.0 h.2.1.0) h.2.2.0,
    h.1.1 ∙ ap (λ (l : List ℕ). codes "STATE " ++ (decimal x.0 ++ (codes " " ++ l))) (h.2.1.1 ∙ ap (λ (l : List ℕ). decimal x.1.0 ++ (codes " " ++ l)) h.2.2.1)
        ∙ sym (state_flat (decimal x.0) (decimal x.1.0) (decimal x.1.1) rest),
  )),
  (λ s rest h.
      let last : List ℕ = decimal s.cost ++ (codes "\n" ++ rest) in (
        (s.tables, (s.order, s.cost)),
        (
          decimal s.order ++ (codes " " ++ last),
          (and_left _ _ (and_left _ _ h.0), h.1 ∙ state_flat (decimal s.tables) (decimal s.order) (decimal s.cost) rest),
          (last, (and_right _ _ (and_left _ _ h.0), refl), (and_right _ _ h.0, refl)),
        ),
        refl,
      )),
)

pub state_starts : (text : List ℕ) (s : StateCost) (rest : List ℕ) → StateIn text s rest → get_or text 0 0 ≡ 83
state_starts text s rest h = first_of text _ h.1

states_flat : (s : StateCost) (ss : List StateCost) (rest : List ℕ) → flat_map state_line (s ∷ ss) ++ rest ≡ state_line s ++ (flat_map state_line ss ++ rest)
states_flat s ss rest = ap (λ (l : List ℕ). l ++ rest) (flat_map-cons state_line s ss) ∙ append_assoc (state_line s) (flat_map state_line ss) rest

many_text : (text : List ℕ) (ss : List StateCost) (rest : List ℕ) → Many StateIn text ss rest → (list_all is_state ss ≡ true) × (text ≡ flat_map state_line ss ++ rest)
many_text text [] rest h = (refl, h)
many_text text (s ∷ ss) rest h =
    let k = many_text h.0 ss rest h.2 in
    (and_true _ _ h.1.0 k.0, h.1.1 ∙ ap (λ (l : List ℕ). state_line s ++ l) k.1 ∙ sym (states_flat s ss rest))

text_many : (text : List ℕ) (ss : List StateCost) (rest : List ℕ) → list_all is_state ss ≡ true → text ≡ flat_map state_line ss ++ rest → Many StateIn text ss rest
text_many text [] rest h e = e
text_many text (s ∷ ss) rest h e =
    (flat_map state_line ss ++ rest, (and_left _ _ h, e ∙ states_flat s ss rest), text_many (flat_map state_line ss ++ rest) ss rest (and_right _ _ h) refl)

-- ---- other lines

line_flat : (a b r : List ℕ) → line (a ++ b) ++ r ≡ a ++ (b ++ (codes "\n" ++ r))
line_flat a b r = simp append_assoc

pub block_tells : (version : Version) (text : List ℕ)
    → Tells (Then (WordIn (first_line version) text) (λ (u : Unit {0}). NumberBetween (codes "BLOCK ") (codes "\n"))) (λ (x : Unit {0} × ℕ). x.1) (BlockIn version text)
block_tells version text = (
  (λ x rest h. (h.2.0, h.1 ∙ ap (λ (l : List ℕ). first_line version ++ l) (h.2.1 ∙ sym (line_flat (codes "BLOCK ") (decimal x.1) rest)))),
  (λ n rest h. ((tt, n), (line (codes "BLOCK " ++ decimal n) ++ rest, h.1, (h.0, line_flat (codes "BLOCK ") (decimal n) rest)), refl)),
)

pub plan_line_tells : (version : Version) (text : List ℕ)
    → Tells (Then (WordIn (codes "PLAN ") text) (λ (u : Unit {0}) (m : List ℕ). Then (PlanIn version word_limit m) (λ (p : Plan). WordIn (codes "\n")))) (λ (x : Unit {0} × (Plan × Unit {0})). x.1.0)
    (PlanLineIn version text)
plan_line_tells version text = (
  (λ x rest h. (
    h.2.1.0,
    h.2.1.1,
    h.1 ∙ ap (λ (l : List ℕ). codes "PLAN " ++ l) (h.2.1.2 ∙ ap (λ (l : List ℕ). plan_text x.1.0 ++ l) h.2.2) ∙ sym (line_flat (codes "PLAN ") (plan_text x.1.0) rest),
  )),
  (λ p rest h. (
    (tt, (p, tt)),
    (plan_text p ++ (codes "\n" ++ rest), h.2 ∙ line_flat (codes "PLAN ") (plan_text p) rest, (codes "\n" ++ rest, (h.0, h.1, refl), refl)),
    refl,
  )),
)

-- ---- whole texts

abbrev pub text_told : ℕ × (Plan × (ℕ × (List StateCost × Unit {0}))) → Written
text_told x = record { block = x.0; plan = x.1.0; certificate = record { target = x.1.1.0; states = x.1.1.1.0 } }

text_flat : (f b p t x e r : List ℕ) → (f ++ b ++ p ++ line (codes "TARGET " ++ t) ++ x ++ e) ++ r ≡ f ++ (b ++ (p ++ (codes "TARGET " ++ (t ++ (codes "\n" ++ (x ++ (e ++ r)))))))
text_flat f b p t x e r = simp append_assoc

abbrev TextSteps : (version : Version) (text : List ℕ) → ℕ × (Plan × (ℕ × (List StateCost × Unit {0}))) → List ℕ → Type 0
TextSteps version text = Then (BlockIn version text) (λ (b : ℕ) (m : List ℕ). Then (PlanLineIn version m) (λ (p : Plan) (n : List ℕ).
    Then (NumberBetween (codes "TARGET ") (codes "\n") n) (λ (t : ℕ) (o : List ℕ). Then (AllIn StateIn 83 o) (λ (ss : List StateCost). WordIn end_line))))

form_parts : (version : Version) (said : Written) → has_form version said ≡ true
    → (is_number said.block ≡ true) × (is_plan version said.plan ≡ true) × (word_count said.plan ≤ word_limit) × (is_number said.certificate.target ≡ true)
    × (list_all is_state said.certificate.states ≡ true)
form_parts version said h =
    let h4 = and_left _ _ h in
    let h3 = and_left _ _ h4 in
    let h2 = and_left _ _ h3 in
    (and_left _ _ h2, and_right _ _ h2, leb-true (word_count said.plan) word_limit (and_right _ _ h3), and_right _ _ h4, and_right _ _ h)

flat : (version : Version) (said : Written) (rest : List ℕ) → text_of version said ++ rest
    ≡ first_line version ++ (line (codes "BLOCK " ++ decimal said.block) ++ (line (codes "PLAN " ++ plan_text said.plan)
    ++ (codes "TARGET " ++ (decimal said.certificate.target ++ (codes "\n" ++ (flat_map state_line said.certificate.states ++ (end_line ++ rest)))))))
flat version said rest = text_flat (first_line version) (line (codes "BLOCK " ++ decimal said.block)) (line (codes "PLAN " ++ plan_text said.plan)) (decimal said.certificate.target)
    (flat_map state_line said.certificate.states) end_line rest

pub text_tells : (version : Version) (text : List ℕ)
    → Tells (Then (BlockIn version text) (λ (b : ℕ) (m : List ℕ). Then (PlanLineIn version m) (λ (p : Plan) (n : List ℕ).
    Then (NumberBetween (codes "TARGET ") (codes "\n") n) (λ (t : ℕ) (o : List ℕ). Then (AllIn StateIn 83 o) (λ (ss : List StateCost). WordIn end_line)))))
    text_told (TextIn version text)
text_tells version text = (to, from)
  where
    to : (x : ℕ × (Plan × (ℕ × (List StateCost × Unit {0})))) (rest : List ℕ) → TextSteps version text x rest → TextIn version text (text_told x) rest
    to x rest h =
        let block = h.1 in
        let plan = h.2.1 in
        let target = h.2.2.1 in
        let states = many_text h.2.2.0 x.1.1.1.0 h.2.2.2.0 h.2.2.2.1.0 in
        let end = h.2.2.2.2 in (
          and_true _ _ (and_true _ _ (and_true _ _ (and_true _ _ block.0 plan.0) (le-leb (word_count x.1.0) word_limit plan.1)) target.0) states.0,
          block.1 ∙ ap (λ (l : List ℕ). first_line version ++ (line (codes "BLOCK " ++ decimal x.0) ++ l)) (plan.2
              ∙ ap (λ (l : List ℕ). line (codes "PLAN " ++ plan_text x.1.0) ++ l) (target.1
              ∙ ap (λ (l : List ℕ). codes "TARGET " ++ (decimal x.1.1.0 ++ (codes "\n" ++ l))) (states.1 ∙ ap (λ (l : List ℕ). flat_map state_line x.1.1.1.0 ++ l) end)))
              ∙ sym (flat version (text_told x) rest),
        )

    from : (said : Written) (rest : List ℕ) → TextIn version text said rest → (x : ℕ × (Plan × (ℕ × (List StateCost × Unit {0})))) × TextSteps version text x rest × (said ≡ text_told x)
    from said rest h =
        let f = form_parts version said h.0 in
        let states : List ℕ = flat_map state_line said.certificate.states ++ (end_line ++ rest) in
        let target : List ℕ = codes "TARGET " ++ (decimal said.certificate.target ++ (codes "\n" ++ states)) in (
          (said.block, (said.plan, (said.certificate.target, (said.certificate.states, tt)))),
          (
            line (codes "PLAN " ++ plan_text said.plan) ++ target,
            (f.0, h.1 ∙ flat version said rest),
            (
              target,
              (f.1, f.2, refl),
              (
                states,
                (f.3, refl),
                (end_line ++ rest, (text_many states said.certificate.states (end_line ++ rest) f.4 refl, λ e. omega (arith, e)), refl),
              ),
            ),
          ),
          refl,
        )

empty_of : (l : List ℕ) → (length l == 0) ≡ true → l ≡ []
empty_of [] h = refl
empty_of (x ∷ l) h = absurd (omega (arith, eqb-true (length (x ∷ l)) 0 h))

pub all_said : (version : Version) (bytes : List ℕ) (said : Written) (rest : List ℕ) → Only (TextIn version bytes) said rest → (length rest == 0) ≡ true → Says version bytes said
all_said version bytes said rest only none =
    (only.0.0, only.0.1 ∙ ap (λ (l : List ℕ). text_of version said ++ l) (empty_of rest none) ∙ append-nil (text_of version said))

says_text : (version : Version) (bytes : List ℕ) (said : Written) → Says version bytes said → TextIn version bytes said []
says_text version bytes said h = (h.0, h.1 ∙ sym (append-nil (text_of version said)))

pub more_behind : (version : Version) (bytes : List ℕ) (own : Written) (rest : List ℕ) → Only (TextIn version bytes) own rest → (length rest == 0) ≡ false
    → (e : TextStop) (left : ℕ) (expected : Expected) → e ≡ stop.Form left expected → SaysAll version bytes (Err e)
more_behind version bytes own rest only some e left expected is = subst (λ (f : TextStop). SaysAll version bytes (Err f)) (sym is) none
  where
    none : (said : Written) → Says version bytes said → ⊥
    none said h = false≢true (sym some ∙ ap (λ (l : List ℕ). length l == 0) (sym (only.1 said [] (says_text version bytes said h)).1))

pub none_said : (version : Version) (bytes : List ℕ) (r : Result w.Written TextStop) (e : TextStop) → IsErrAnd r (λ f. f ≡ e) → Refuses (TextIn version bytes) e → SaysAll version bytes r
none_said version bytes (Ok written) e is none = absurd is
none_said version bytes (Err (stop.Form left expected)) (stop.Form l x) is none = λ said h. none said [] (says_text version bytes said h)
none_said version bytes (Err (stop.Form left expected)) stop.Memory is none = absurd (cc is)
none_said version bytes (Err stop.Memory) e is none = tt

pub fault_says : (version : Version) (bytes : List ℕ) (f : FormFault) (e : TextStop) → IsFaultOf f e → SaysAll version bytes (Err e) → SaysNothing version bytes f
fault_says version bytes (fault.Form at expected) (stop.Form left sought) of none = none
fault_says version bytes fault.Memory stop.Memory of none = tt
fault_says version bytes (fault.Form at expected) stop.Memory of none = absurd of
fault_says version bytes fault.Memory (stop.Form left sought) of none = absurd of
