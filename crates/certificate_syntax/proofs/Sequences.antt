-- What is read by several steps.
use denote.Ref.{Bor}
use Rattle.std.proofs.Common.{◌≡◌, ◌∙◌, sym, ap, ap₂, subst, ℕ, List, Result, Ok, Err}
use Rattle.std.specs.Result.{IsErrAnd}
use Rattle.certificate_syntax.specs.declared.fault.Expected.{Expected}
use Rattle.certificate_syntax.specs.declared.stop.TextStop.{TextStop}
use Rattle.certificate_syntax.specs.declared.stop.TextStop.TheVariants as stop
use Rattle.certificate_syntax.specs.Reading.{Refuses, Only, Reads}

-- ---- stops

pub stopped : {X : Type 0} (R : X → List ℕ → Type 0) (e : TextStop) (left : ℕ) (expected : Expected) → e ≡ stop.Form left expected
    → ((x : X) (rest : List ℕ) → R x rest → ⊥) → Refuses R e
stopped R e left expected is none = subst (Refuses R) (sym is) none

pub at_exit : {X Y : Type 0} (view : Y → X) (R : X → List ℕ → Type 0) (r : Result (Y × Bor (List ℕ)) TextStop) (e : TextStop) → IsErrAnd r (λ f. f ≡ e) → Refuses R e → Reads view R r
at_exit view R (Ok read) e is h = absurd is
at_exit view R (Err f) e is h = subst (Refuses R) (sym is) h

pub at_memory : {X Y : Type 0} (view : Y → X) (R : X → List ℕ → Type 0) (r : Result (Y × Bor (List ℕ)) TextStop) → IsErrAnd r (λ f. f ≡ stop.Memory) → Reads view R r
at_memory view R r is = at_exit view R r stop.Memory is tt

-- ---- one thing behind another

module _ {X Y : Type 0} (R : X → List ℕ → Type 0) (S : X → List ℕ → Y → List ℕ → Type 0) where
  abbrev pub Then : X × Y → List ℕ → Type 0
  Then pair rest = (mid : List ℕ) × R pair.0 mid × S pair.0 mid pair.1 rest

  same_step : (x : X) (mid : List ℕ) → Only R x mid → (z : X) (m : List ℕ) → R z m → (y : Y) (rest : List ℕ) → S z m y rest → S x mid y rest
  same_step x mid only z m h y rest s =
      let e = only.1 z m h in
      subst (λ (w : X). S w mid y rest) e.0 (subst (λ (l : List ℕ). S z l y rest) e.1 s)

  pub then_only : (x : X) (mid : List ℕ) (y : Y) (rest : List ℕ) → Only R x mid → Only (S x mid) y rest → Only Then (x, y) rest
  then_only x mid y rest first second = (
    (mid, first.0, second.0),
    λ pair other h.
        let e = first.1 pair.0 h.0 h.1 in
        let f = second.1 pair.1 other (same_step x mid first pair.0 h.0 h.1 pair.1 other h.2) in
        (ap₂ (λ (a : X) (b : Y). (a, b)) e.0 f.0, f.1),
  )

  pub first_refused : (e : TextStop) → Refuses R e → Refuses Then e
  first_refused (stop.Form left expected) none = λ pair rest h. none pair.0 h.0 h.1
  first_refused stop.Memory none = tt

  pub then_refused : (x : X) (mid : List ℕ) (e : TextStop) → Only R x mid → Refuses (S x mid) e → Refuses Then e
  then_refused x mid (stop.Form left expected) first none = λ pair rest h. none pair.1 rest (same_step x mid first pair.0 h.0 h.1 pair.1 rest h.2)
  then_refused x mid stop.Memory first none = tt

  pub then_reads : {V : Type 0} (view : V → Y) (x : X) (mid : List ℕ) → Only R x mid → (r : Result (V × Bor (List ℕ)) TextStop)
      → Reads view (S x mid) r → Reads (λ (v : V). (x, view v)) Then r
  then_reads view x mid only (Ok read) h = then_only x mid (view read.0) read.1.now only h
  then_reads view x mid only (Err e) h = then_refused x mid e only h

-- ---- the same thing, told otherwise

module _ {X Y : Type 0} (R : X → List ℕ → Type 0) (tell : X → Y) (Q : Y → List ℕ → Type 0) where
  abbrev pub Tells : Type 0
  Tells = ((x : X) (rest : List ℕ) → R x rest → Q (tell x) rest) × ((y : Y) (rest : List ℕ) → Q y rest → (x : X) × R x rest × (y ≡ tell x))

  pub only_told : Tells → (x : X) (rest : List ℕ) → Only R x rest → Only Q (tell x) rest
  only_told tells x rest only = (
    tells.0 x rest only.0,
    λ y other h.
        let k = tells.1 y other h in
        let e = only.1 k.0 other k.1 in
        (k.2 ∙ ap tell e.0, e.1),
  )

  pub refused_told : Tells → (e : TextStop) → Refuses R e → Refuses Q e
  refused_told tells (stop.Form left expected) none = λ y rest h. let k = tells.1 y rest h in none k.0 rest k.1
  refused_told tells stop.Memory none = tt

-- ---- two steps that tell one thing

module _ {X Y Z : Type 0} (R : X → List ℕ → Type 0) (S : X → List ℕ → Y → List ℕ → Type 0) (tell : X × Y → Z) (Q : Z → List ℕ → Type 0)
    (tells : Tells (Then R S) tell Q) where
  pub first : (e : TextStop) → Refuses R e → Refuses Q e
  first e none = refused_told (Then R S) tell Q tells e (first_refused R S e none)

  pub second : (x : X) (mid : List ℕ) → Only R x mid → (e : TextStop) → Refuses (S x mid) e → Refuses Q e
  second x mid only e none = refused_told (Then R S) tell Q tells e (then_refused R S x mid e only none)

  pub both : (x : X) (mid : List ℕ) → Only R x mid → (y : Y) (rest : List ℕ) → Only (S x mid) y rest → Only Q (tell (x, y)) rest
  both x mid only y rest then = only_told (Then R S) tell Q tells (x, y) rest (then_only R S x mid y rest only then)

  -- where the second step's answer is the answer
  pub last : {V : Type 0} (view : V → Y) (x : X) (mid : List ℕ) → Only R x mid → (r : Result (V × Bor (List ℕ)) TextStop)
      → Reads view (S x mid) r → Reads (λ (v : V). tell (x, view v)) Q r
  last view x mid only (Ok read) h = both x mid only (view read.0) read.1.now h
  last view x mid only (Err e) h = second x mid only e h
