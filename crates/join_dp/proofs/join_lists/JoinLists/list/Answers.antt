use Rattle.plan_space.specs.Planned.{space_in}
use Rattle.std.proofs.Common.{◌≡◌, ◌∙◌, ◌++◌, [], ◌∷◌, ap, map, List, length, set, Some, refl, subst, sym, arith}
use Rattle.std.proofs.lemmas.List.{length-map}
use Rattle.plan_space.specs.declared.join_relation.JoinRelation.{JoinRelation}
use Rattle.plan_tree.specs.Sets.{set_of}
use Rattle.join_dp.specs.JoinLists.{joins_in, IsRelationAt}
use Rattle.join_dp.specs.Views.{added_of}
use Rattle.join_dp.specs.declared.join_lists.Places.{Places}
use Rattle.join_dp.proofs.JoinsListed.{longer_same, longer_more, joins_none, joins_more, more_lists, relation_here, listed_here, listed_others, joins_of}
use Rattle.join_dp.proofs.join_lists.JoinLists.list.Goals as goal

pub tables-init : goal.tables-init
tables-init c = record {
  longer = longer_same (joins_in c.args.self.now);
  joins = joins_none (space_in c.args.space.now) (joins_in c.args.self.now) (set_of c.args.outer.tables);
  places = refl;
  relations = refl;
}

pub tables-preserved : goal.tables-preserved
tables-preserved c =
    let i = c.tables.invariant in
    let o = c.in_ok-push_last.ensures in
    record {
      longer = longer_more (joins_in c.args.self.now) (joins_in c.tables.self) (map added_of c.push_last.new.joins.items) i.longer o.longer;
      joins = joins_more (space_in c.args.space.now) (joins_in c.tables.self) (map added_of c.push_last.new.joins.items) (set_of c.args.outer.tables) (length (joins_in c.args.self.now)) c.tables.table o.longer i.joins
          (rw (length-map c.tables.self.joins.items added_of, length-map c.push_last.new.joins.items added_of) o.joins);
      places = i.places;
      relations = i.relations;
    }

pub returns-clause-lists : goal.returns-clause-lists
returns-clause-lists c =
    let space = space_in c.args.space.now in
    let i = c.tables.invariant in
    let before = c.args.self.now.relations.items in
    let n : c.tables.table ≡ space.table_count = omega (arith, c.tables-test.false, c.tables.auto.table-end, c.table_count-table-end.ensures.exact) in
    let start : length (joins_in c.args.self.now) ≡ c.len-start.result = omega (arith, c.len-start.ensures, length-map c.args.self.now.joins.items added_of, c.args.self.now.joins.small, c.args.self.now.joins.ok.0, c.args.self.now.joins.ok.1) in
    let end : length (joins_in c.tables.self) ≡ c.len-end.result = omega (arith, c.len-end.ensures, length-map c.tables.self.joins.items added_of, c.tables.self.joins.small, c.tables.self.joins.ok.0, c.tables.self.joins.ok.1) in
    let place : c.len-relation.result ≡ length before = omega (arith, c.len-relation.ensures, ap (λ (rs : List JoinRelation). length rs) i.relations, c.tables.self.relations.small, c.tables.self.relations.ok.0, c.tables.self.relations.ok.1) in
    let are = joins_of space (joins_in c.tables.self) (set_of c.args.outer.tables) _ _ _ c.len-start.result c.len-end.result space.table_count start end n i.joins in
    let pushed : c.push.new.self.items ≡ before ++ c.args.outer ∷ [] = c.in_ok-push.ensures.items ∙ ap (λ (rs : List JoinRelation). rs ++ c.args.outer ∷ []) i.relations in
    let here = subst (λ (rs : List JoinRelation). IsRelationAt space rs c.len-relation.result (set_of c.args.outer.tables)) (sym pushed) (relation_here space before c.args.outer c.len-relation.result place c.requires.outer) in
    more_lists space c.args.self.now _ (set_of c.args.outer.tables) (record { relation = c.len-relation.result; start = c.len-start.result; end = c.len-end.result }) c.args.outer c.requires.lists c.requires.set i.longer are pushed here
    (rw (c.place.ensures.exact, i.places) refl)

pub returns-clause-here : goal.returns-clause-here
returns-clause-here c =
    let i = c.tables.invariant in
    let sets = c.requires.lists.sets in
    let places : Places = record { relation = c.len-relation.result; start = c.len-start.result; end = c.len-end.result } in
    listed_here c.args.self.now.places.items (set c.tables.self.places.items c.place.result (Some places)) (set_of c.args.outer.tables) places
    (omega (arith, c.requires.set, sets)) (rw (c.place.ensures.exact, i.places) refl)

pub returns-clause-others : goal.returns-clause-others
returns-clause-others c = λ other ne.
    let i = c.tables.invariant in
    let sets = c.requires.lists.sets in
    let places : Places = record { relation = c.len-relation.result; start = c.len-start.result; end = c.len-end.result } in
    listed_others c.args.self.now.places.items (set c.tables.self.places.items c.place.result (Some places)) (set_of c.args.outer.tables) places
    (omega (arith, c.requires.set, sets)) (rw (c.place.ensures.exact, i.places) refl) other ne
