use Rattle.std.proofs.Common.{◌≡◌, ◌-◌, ◌^◌, ◌∙◌, sym, ap, subst, length}
use Rattle.definitions.specs.Plans.TableSet.{TableSet}
use Rattle.plan_tree.specs.Sets.{set_of}
use Rattle.interesting_orders.specs.Equated.{AreClassesOf}
use Rattle.definitions.specs.Plans.Space.{whole}
use Rattle.interesting_orders.proofs.Numbered.{is_asked}
use Rattle.interesting_orders.proofs.interesting_orders.InterestingOrders.new.Goals as goal

pub returns : goal.returns
returns c = λ space count conjuncts orders required.
    let equated = c.in_ok-equated.ensures space conjuncts in
    let is_whole : whole space ≡ set_of c.first.result = ap (λ n. 2 ^ n - 1) count ∙ sym c.first.ensures in
    let classes = subst (λ (s : TableSet). AreClassesOf space s c.in_ok-equated.equated c.classes-classes.result) (sym is_whole) (c.classes-classes.ensures space equated) in
    let uses = c.in_ok-orders.ensures.exact in
    record {
      equated = equated;
      orders = record {
        len = uses.len ∙ ap length (sym orders);
        each = λ place x d is. uses.each place x d (rw orders at is) space equated classes required;
      };
      asked = is_asked c.args.required.now space.required c.is_empty.result required c.is_empty.ensures;
    }
