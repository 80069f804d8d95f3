use Rattle.std.proofs.Common.{◌≡◌, ◌∙◌, refl, true, false, map, length, get_or, sym, subst, ◌<◌, arith}
use Rattle.std.proofs.lemmas.List.{length-map, get_or_default}
use Rattle.std.specs.Prelude.{All, List, ℕ}
use Rattle.query_tree.specs.Bound.{column_of}
use Rattle.plan_tree.specs.Sets.{set_of}
use Rattle.interesting_orders.specs.Labels.{IsBetween, Joins}
use Rattle.interesting_orders.specs.declared.equivalence_classes.Equality.{Equality}
use Rattle.interesting_orders.proofs.Labelling.{begin, pass, join}
use Rattle.interesting_orders.proofs.equivalence_classes.label.Goals as goal
use Rattle.interesting_orders.proofs.equivalence_classes.label.Goals.{then-has_both, else-has_both}

abbrev no_equation : Equality
no_equation = record { left = 0; right = 0 }

pub equations-init : goal.equations-init
equations-init c =
    let count = length-map c.args.columns.now column_of in
    begin (set_of c.args.tables) (map column_of c.args.columns.now) c.args.equations.now c.separate.new.labels (c.separate.ensures.len ∙ c.requires.paired ∙ sym count)
    (λ i h. c.separate.ensures.apart i (omega (arith, h, count, c.requires.paired)))

false≢true : false ≡ true → ⊥
false≢true e = absurd cc

-- the equation at a place, whatever stands for one past the end
at_place : (equations : List Equality) (i : ℕ) (d : Equality) → i < length equations → get_or equations i d ≡ get_or equations i no_equation
at_place equations i d h = get_or_default equations i d no_equation h

pub equations-preserved : goal.equations-preserved
equations-preserved c =
    let columns = map column_of c.args.columns.now in
    let equations = c.args.equations.now in
    let i = c.equations.equation-index in
    let x = get_or equations i no_equation in
    let count = length-map c.args.columns.now column_of in
    let between : All (IsBetween (length columns)) equations = rw count c.requires.between in
    elim c.if-has_both.branch [
      | then-has_both w ↦ (
          let both = (w.if-has_both.ensures).0 refl in
          rw w.labels-is (join (set_of c.args.tables) columns equations c.equations.labels w.relabel.new.labels i x c.equations.invariant c.equations-test.true
          (sym (at_place equations i x c.equations-test.true)) between both.0 both.1 w.relabel.ensures.len (λ k h. w.relabel.ensures.merged k (omega (arith, h, c.equations.invariant.len)))))
      | else-has_both w ↦ (
          rw w.labels-is (pass (set_of c.args.tables) columns equations c.equations.labels i c.equations.invariant
          (λ d. subst (Joins (set_of c.args.tables) columns c.equations.labels) (sym (at_place equations i d c.equations-test.true)) (λ hx hy. absurd (false≢true ((w.if-has_both.ensures).1 (hx, hy)))))))
    ]
