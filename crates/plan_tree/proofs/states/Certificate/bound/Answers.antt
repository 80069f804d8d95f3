use Rattle.std.proofs.Common.{sym, subst, ◌≡◌, ◌∙◌, List, ℕ, ◌<◌, ◌≤◌, arith, rules, length, map, get_or, true, false}
use Rattle.std.proofs.lemmas.List.Sorted.{IsPartitionPoint-from_clause}
use Rattle.definitions.specs.Plans.Certificate.{listed_or, AreRising}
use Rattle.plan_tree.specs.Sets.{set_of}
use Rattle.plan_tree.specs.Preceding.{precedes, is_at}
use Rattle.plan_tree.specs.Certificates.{state_of}
use Rattle.plan_tree.specs.declared.states.State.{State}
use Rattle.plan_tree.proofs.Placing.{parted, placed, unplaced}
use Rattle.plan_tree.proofs.states.Certificate.bound.Goals.{in_default-via-in-Some+else-is_at, in_default-via-in_default}
use Rattle.plan_tree.proofs.states.Certificate.bound.Goals as goal

pub returns-in-Some : goal.returns-in-Some
returns-in-Some c =
    let lookup = rw c.deref-2.ensures.value at c.in-Some.ensures.lookup in
    let at : is_at (set_of c.args.tables) c.args.order (state_of c.in-Some.state.now) ≡ true = sym c.is_at.ensures ∙ c.if-is_at.true in
    let at' = subst (λ (s : State). is_at (set_of c.args.tables) c.args.order (state_of s) ≡ true) lookup.1 at in
    subst (λ (s : State). s.cost ≡ listed_or c.args.self.now.target (map state_of c.args.self.now.states.items) (set_of c.args.tables) c.args.order) (sym lookup.1)
    (placed state_of c.args.self.now.target c.args.self.now.states.items (set_of c.args.tables) c.args.order c.partition_point-place.result c.requires c.in-Some.state.now lookup.3.0 at')

pub returns-in_default : goal.returns-in_default
returns-in_default c =
    unplaced state_of c.args.self.now.target c.args.self.now.states.items (set_of c.args.tables) c.args.order c.partition_point-place.result c.requires point.0 point.1 other
  where
    point : ((i : ℕ) (d : State) → 0 ≤ i → i < c.partition_point-place.result → precedes (set_of c.args.tables) c.args.order (state_of (get_or c.args.self.now.states.items i d)) ≡ true)
        × ((i : ℕ) (d : State) → c.partition_point-place.result ≤ i → i < length c.args.self.now.states.items → precedes (set_of c.args.tables) c.args.order (state_of (get_or c.args.self.now.states.items i d)) ≡ false)
    point =
        let rising = subst (λ (xs : List State). AreRising (map state_of xs)) (sym c.deref.ensures.value) c.requires in
        let p = IsPartitionPoint-from_clause (λ (s : State). precedes (set_of c.args.tables) c.args.order (state_of s)) c.deref.result.now c.partition_point-place.result c.partition_point-place.ensures.partitioned (parted state_of c.deref.result.now (set_of c.args.tables) c.args.order rising) (λ a r q k. search rules) in
        rw c.deref.ensures.value at p

    other : (d : State) → c.partition_point-place.result < length c.args.self.now.states.items → is_at (set_of c.args.tables) c.args.order (state_of (get_or c.args.self.now.states.items c.partition_point-place.result d)) ≡ false
    other d lt =
        elim c.in_default.branch [
          | in_default-via-in-Some+else-is_at w ↦
              let lookup = rw c.deref-2.ensures.value at w.in-Some.ensures.lookup in
              let at : is_at (set_of c.args.tables) c.args.order (state_of w.in-Some.state.now) ≡ false = sym w.is_at.ensures ∙ w.if-is_at.false in
              subst (λ (s : State). is_at (set_of c.args.tables) c.args.order (state_of s) ≡ false) (lookup.3.1 d) at
          | in_default-via-in_default w ↦
              let lookup = rw c.deref-2.ensures.value at w.in_default.ensures.lookup in
              absurd (omega (arith, lookup.3, lt))
        ]
