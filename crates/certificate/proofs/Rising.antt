-- States that rise, one behind another.
use Rattle.std.proofs.Common.{◌≡◌, ◌∙◌, sym, subst, ℕ, ◌+◌, ◌<◌, ◌≤◌, inl, inr, List, [], ◌∷◌, length, get_or, drop, map, Option, Some, None, arith}
use Rattle.std.specs.List.{AllByRecursion}
use Rattle.std.proofs.lemmas.List.{drop_all}
use Rattle.std.proofs.lemmas.List.Elements.{All-from_recursion, recursion_from_All}
use Rattle.definitions.specs.Plans.Certificate.{StateCost, Precedes, AreRising}
use Rattle.definitions.specs.Certificates.Spelling.{AreBelow}
use Rattle.plan_tree.specs.Certificates.{state_of}
use Rattle.plan_tree.specs.declared.states.State.{State}
use Rattle.certificate.specs.Reads.{claimed, Follows}
use Rattle.certificate.proofs.Elements.{from_element}

precedes_on : (a b d : StateCost) → Precedes a b → Precedes b d → Precedes a d
precedes_on a b d (inl lt) (inl lt') = inl (omega arith)
precedes_on a b d (inl lt) (inr (e, lt')) = inl (omega arith)
precedes_on a b d (inr (e, lt)) (inl lt') = inl (omega arith)
precedes_on a b d (inr (e, lt)) (inr (e', lt')) = inr (e ∙ e', omega arith)

-- ---- each behind the one before it and below the target, from a state on

abbrev pub Continues : ℕ → Option State → List State → Type 0
Continues target before [] = Unit {0}
Continues target before (state ∷ states) = Follows before (state_of state) × (state.cost < target) × Continues target (Some state) states

abbrev AllFollow : Option State → List StateCost → Type 0
AllFollow before = AllByRecursion (Follows before)

abbrev AreUnder : ℕ → List StateCost → Type 0
AreUnder target = AllByRecursion (λ (state : StateCost). state.cost < target)

follow_on : (before : Option State) (own : State) (x : StateCost) → Follows before (state_of own) → Precedes (state_of own) x → Follows before x
follow_on None own x h k = tt
follow_on (Some other) own x h k = precedes_on (state_of other) (state_of own) x h k

all_follow : (before : Option State) (own : State) → Follows before (state_of own) → (xs : List StateCost) → AllFollow (Some own) xs → AllFollow before xs
all_follow before own h [] hs = tt
all_follow before own h (x ∷ xs) (k, ks) = (follow_on before own x h k, all_follow before own h xs ks)

rises : (target : ℕ) (before : Option State) (states : List State) → Continues target before states
    → AllFollow before (map state_of states) × AreRising (map state_of states) × AreUnder target (map state_of states)
rises target before [] h = (tt, tt, tt)
rises target before (s ∷ ss) (follows, lt, rest) =
    let r = rises target (Some s) ss rest in
    ((follows, all_follow before s follows (map state_of ss) r.0), (All-from_recursion (Follows (Some s)) (map state_of ss) r.0, r.1), (lt, r.2))

continues : (target : ℕ) (before : Option State) (states : List State) → AllFollow before (map state_of states) → AreRising (map state_of states)
    → AreUnder target (map state_of states) → Continues target before states
continues target before [] all rising under = tt
continues target before (s ∷ ss) (follows, all) (behind, rising) (lt, under) =
    (follows, lt, continues target (Some s) ss (recursion_from_All (Follows (Some s)) (map state_of ss) behind) rising under)

none_before : (xs : List StateCost) → AllFollow None xs
none_before [] = tt
none_before (x ∷ xs) = (tt, none_before xs)

pub below_all : (target : ℕ) (states : List State) → Continues target None states → AreBelow (claimed target (map state_of states))
below_all target states h =
    let r = rises target None states h in
    (r.1, All-from_recursion (λ (state : StateCost). state.cost < target) (map state_of states) r.2)

pub all_below : (target : ℕ) (states : List State) → AreBelow (claimed target (map state_of states)) → Continues target None states
all_below target states h =
    continues target None states (none_before (map state_of states)) h.0 (recursion_from_All (λ (state : StateCost). state.cost < target) (map state_of states) h.1)

pub stops : (target : ℕ) (before : Option State) (states : List State) (i : ℕ) (s : State) → i < length states → s ≡ get_or states i s
    → (Follows before (state_of s) × (s.cost < target) → ⊥) → Continues target before (drop i states) → ⊥
stops target before states i s lt e not h =
    let k : Continues target before (s ∷ drop (i + 1) states) = subst (Continues target before) (from_element states i s lt e) h in
    not (k.0, k.1)

pub ends : (target : ℕ) (before : Option State) (states : List State) (i : ℕ) → length states ≤ i → Continues target before (drop i states)
ends target before states i le = subst (Continues target before) (sym (drop_all i states le)) tt
