use Rattle.std.proofs.Common.{◌∙◌, ap, ◌∷◌, map, subst, sym}
use Rattle.std.specs.List.{AllByRecursion, list_all}
use Rattle.std.proofs.lemmas.List.{take_all}
use Rattle.definitions.specs.Queries.BoundBlock.{InList}
use Rattle.definitions.specs.Queries.Conjuncts.{condition_tables, member_values}
use Rattle.query_tree.specs.Bound.{condition_of, member_of, value_of}
use Rattle.predicates.proofs.Naming.{still_few}
use Rattle.predicates.proofs.Saying.{NamesFewTables, each_few}
use Rattle.filters.proofs.Few.{member_few}
use Rattle.query_tree.proofs.Views.{of_in_list}
use Rattle.sqlvalue.specs.Meaning.{op_of}
use Rattle.filters.specs.Comparisons.{is_list_beside, is_member_beside, AreMembersOf}
use Rattle.filters.proofs.Listed.{all_beside, apart_here, beside_too, compared_too}
use Rattle.filters.proofs.member_list.list_of.Goals as goal

pub compared_member-requires : goal.compared_member-requires
compared_member-requires c =
    let e = c.in-InList in
    let xs = c.deref-member-items.result.now in
    let is = ap condition_tables (ap condition_of e.is ∙ of_in_list e.negated e.value e.members) in
    let all = each_few (value_of e.value ∷ member_values (map member_of e.members.items)) (still_few _ _ is c.requires.few) in
    let here = subst (λ ms. AllByRecursion NamesFewTables (member_values (map member_of ms))) (sym c.deref-member-items.ensures.value) all.1 in
    record { few = member_few member_of xs c.members.member-index c.member-item.result here c.members-test.true c.member-item.is }

pub members-preserved : goal.members-preserved
members-preserved c =
    let xs = c.deref-member-items.result.now in
    let own = value_of c.in-InList.value in
    let op = op_of c.member_operator-op.result in
    record {
      compared = compared_too c.args.table op own xs c.members.member-index c.member-item.result c.members-test.true c.member-item.is c.members.comparisons.items c.push.new.self.items c.in-Some.comparison c.in_ok-push.ensures.items c.members.invariant.compared c.in-Some.ensures.same;
      left = beside_too c.args.table op own xs c.members.member-index c.member-item.result c.members-test.true c.member-item.is (sym c.in-Some.ensures.some) c.members.invariant.left;
    }

pub returns-in_default-compared_member-clause-some : goal.returns-in_default-compared_member-clause-some
returns-in_default-compared_member-clause-some c =
    let xs = c.deref-member-items.result.now in
    let e = c.in-InList in
    let whole = ap condition_of e.is ∙ of_in_list e.negated e.value e.members in
    apart_here c.args.table (op_of c.member_operator-op.result) (value_of e.value) xs c.members.member-index c.member-item.result c.members-test.true c.member-item.is (sym c.in_default-compared_member.ensures.some) c.members.invariant.left
    ∙ ap (λ ms. list_all (is_member_beside c.args.table (value_of e.value)) (map member_of ms)) c.deref-member-items.ensures.value
    ∙ ap (is_list_beside c.args.table) (sym whole)

pub returns-clause-some : goal.returns-clause-some
returns-clause-some c =
    let xs = c.deref-member-items.result.now in
    let e = c.in-InList in
    let whole = ap condition_of e.is ∙ of_in_list e.negated e.value e.members in
    all_beside c.args.table (op_of c.member_operator-op.result) (value_of e.value) xs c.members.member-index c.members-test.false c.members.invariant.left
    ∙ ap (λ ms. list_all (is_member_beside c.args.table (value_of e.value)) (map member_of ms)) c.deref-member-items.ensures.value
    ∙ ap (is_list_beside c.args.table) (sym whole)

pub returns-clause-same : goal.returns-clause-same
returns-clause-same c =
    let xs = c.deref-member-items.result.now in
    let e = c.in-InList in
    record {
      own = value_of e.value;
      members = map member_of xs;
      same =
          ap condition_of e.is
          ∙ of_in_list e.negated e.value e.members
          ∙ ap (λ ms. InList e.negated (value_of e.value) (map member_of ms)) (sym c.deref-member-items.ensures.value);
      compared =
          subst (λ op. AreMembersOf c.args.table op (value_of e.value) (map member_of xs) c.members.comparisons.items) c.member_operator-op.ensures
          (subst (λ ys. AreMembersOf c.args.table (op_of c.member_operator-op.result) (value_of e.value) (map member_of ys) c.members.comparisons.items) (take_all c.members.member-index xs c.members-test.false) c.members.invariant.compared);
    }
