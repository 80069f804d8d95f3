use Rattle.std.proofs.Common.{◌+◌, ◌-◌, ◌<◌, ◌≤◌, ℕ, length, map}
use Rattle.syntax_cursor.proofs.Places.{Kept}
use Rattle.syntax_cursor.proofs.Lists.{Lists}
use Rattle.parse_tree.specs.Lists.{most_of}
use Rattle.syntax.specs.Places.{all}
use Rattle.syntax.proofs.element.comma_list.Given as goal

abbrev pub invariant-elements : goal.invariant-elements
invariant-elements g l = record {
  reads : (levels least : ℕ) → Lists (λ m. g.T.Element.rule) (most_of l.place.kind) levels least l.fn.cursor l.cursor (map g.T.Element.tree_of l.elements.items);
  few : length l.elements.items ≤ (most_of l.place.kind) + 1;
  some : 0 < length l.elements.items;
  placed : Kept (most_of l.place.kind) (length l.elements.items) l.fn.cursor l.cursor (all g.T.Element.leaves l.elements.items);
}

abbrev pub decreases-elements : goal.decreases-elements
decreases-elements g l = length l.cursor.tokens - l.cursor.at
