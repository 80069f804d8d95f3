use Rattle.std.proofs.Common.{◌∙◌, refl, sym, ap, subst, length, arith, map, [], ◌∷◌, ◌++◌}
use Rattle.std.proofs.lemmas.List.{length-map}
use Rattle.syntax_cursor.proofs.Outcomes.{then_fails, no_memory}
use Rattle.syntax_cursor.proofs.Lists.{Lists, list_begins, list_fails, list_ends, fewer}
use Rattle.syntax_cursor.proofs.Places.{whole, seen_as}
use Rattle.parse_tree.specs.Lists.{most_of}
use Rattle.syntax.specs.Places.{all}
use Rattle.syntax.proofs.Places.{all_push}
use Rattle.syntax.proofs.KeptLists.{few_kept, some_kept, list_read_on, kept_on, list_ended}
use Rattle.syntax.proofs.Stops.{stops}
use Rattle.syntax.proofs.element.comma_list.Goals as goal

pub returns-in_err-first-clause-reads : goal.returns-in_err-first-clause-reads
returns-in_err-first-clause-reads g c l k = stops _ _ c.from_residual.ensures.1 (then_fails (then_fails (c.in_err-first.ensures.reads l k)))

pub returns-in_err-push-clause-reads : goal.returns-in_err-push-clause-reads
returns-in_err-push-clause-reads g c l k = stops _ _ c.from_residual-in_err-push.ensures.1 (no_memory refl)

pub elements-init : goal.elements-init
elements-init g c = let first = c.in_ok-push.ensures.items ∙ ap (λ ys. ys ++ c.in_ok-first.first ∷ []) c.new-elements.ensures.items in
    record {
      reads = λ l k. subst (λ xs. Lists (λ m. g.T.Element.rule) (most_of c.args.place.kind) l k c.args.cursor.now c.read.new.cursor xs) (sym (ap (map g.T.Element.tree_of) first))
          (list_begins (λ m. g.T.Element.rule) (most_of c.args.place.kind) l k (λ m. g.T.Element.reads_one_way) c.args.cursor.now c.read.new.cursor (g.T.Element.tree_of c.in_ok-first.first) k (c.in_ok-first.ensures.reads l k));
      few = let n = ap length first in omega (arith, n);
      some = let n = ap length first in omega (arith, n);
      placed = whole (seen_as (ap (all g.T.Element.leaves) first ∙ all_push g.T.Element.leaves [] _) c.in_ok-first.ensures.placed);
    }

pub returns-in_err-element-clause-reads : goal.returns-in_err-element-clause-reads
returns-in_err-element-clause-reads g c l k = stops _ _ c.from_residual-in_err-element.ensures.1 (list_fails (λ m. g.T.Element.rule) (most_of c.args.place.kind) l k (λ m. g.T.Element.reads_one_way) c.args.cursor.now c.elements.cursor c.eat_symbol.new.self c.read-in-elements.new.cursor (map g.T.Element.tree_of c.elements.elements.items) _ (c.elements.invariant.reads l k) c.if-not-eat_symbol.ensures (c.in_err-element.ensures.reads l k))

pub elements-smaller : goal.elements-smaller
elements-smaller g c = fewer (λ m. g.T.Element.rule) 0 0 c.elements.cursor c.eat_symbol.new.self c.read-in-elements.new.cursor _ _ g.T.Element.reads_one_way c.if-not-eat_symbol.ensures (c.in_ok-element.ensures.reads 0 0)

pub elements-preserved : goal.elements-preserved
elements-preserved g c = record {
  reads = λ l k. list_read_on (λ m. g.T.Element.rule) (most_of c.args.place.kind) l k (λ m. g.T.Element.reads_one_way) g.T.Element.tree_of c.args.cursor.now c.elements.cursor c.eat_symbol.new.self c.read-in-elements.new.cursor c.elements.elements.items c.keep.new.kept.items c.in_ok-element.element k
      c.elements.invariant.few (c.elements.invariant.reads l k) c.if-not-eat_symbol.ensures (c.in_ok-element.ensures.reads l k) c.in_ok-keep.ensures.ok;
  few = few_kept (most_of c.args.place.kind) c.elements.elements.items c.keep.new.kept.items c.in_ok-element.element c.elements.invariant.few c.in_ok-keep.ensures.ok;
  some = some_kept (most_of c.args.place.kind) c.elements.elements.items c.keep.new.kept.items c.in_ok-element.element c.elements.invariant.some c.in_ok-keep.ensures.ok;
  placed = kept_on (most_of c.args.place.kind) g.T.Element.leaves c.elements.elements.items c.keep.new.kept.items c.in_ok-element.element c.elements.invariant.placed c.if-not-eat_symbol.ensures c.in_ok-element.ensures.placed c.in_ok-keep.ensures.ok;
}

pub returns-in_err-keep-clause-reads : goal.returns-in_err-keep-clause-reads
returns-in_err-keep-clause-reads g c l k = stops _ _ c.from_residual-in_err-keep.ensures.1 (no_memory c.in_err-keep.ensures.memory)

pub returns-in_err-end_list-clause-reads : goal.returns-in_err-end_list-clause-reads
returns-in_err-end_list-clause-reads g c l k = stops _ _ c.from_residual-in_err-end_list.ensures.1 (no_memory c.in_err-end_list.ensures.memory)

pub returns-clause-reads : goal.returns-clause-reads
returns-clause-reads g c l k = list_ends (λ m. g.T.Element.rule) (most_of c.args.place.kind) l k (λ m. g.T.Element.reads_one_way) c.args.cursor.now c.elements.cursor c.eat_symbol.new.self c.end_list.new.self (map g.T.Element.tree_of c.elements.elements.items) c.len.result
    (let n = length-map c.elements.elements.items g.T.Element.tree_of in let few = c.elements.invariant.few in omega (arith, n, few)) (c.elements.invariant.reads l k) c.if-not-eat_symbol.ensures c.in_ok-end_list.ensures.ok

pub returns-clause-placed : goal.returns-clause-placed
returns-clause-placed g c = list_ended _ c.elements.elements c.len.result c.len.ensures c.elements.invariant.placed c.if-not-eat_symbol.ensures.1 c.in_ok-end_list.ensures.ok
