-- Queries whose names are bound, from trees; and queries that are refused.
use Rattle.std.proofs.Common.{◌≡◌, refl, ℕ, [], ◌∷◌, true, false, inl, inr, lit<, lit≤, ap, subst, zero, suc, arith}
use Rattle.std.specs.Prelude.{is_none, Contains}
use Rattle.std.specs.Fmt.{digits}
use Rattle.definitions.specs.Binding.Formed as g
use Rattle.definitions.specs.Refusal as r
use Rattle.definitions.specs.Binding.Faults as f
use Rattle.definitions.specs.Binding.Faults.{QueryFaulty}
use Rattle.definitions.specs.Examples.Binding.{t_and_u, faultless, x_column, v_column, t_table, u_table, outer_block, inner_block, two_blocks, SubqueriesBind, FormsOfQueries, RefusedQueries}

is_not : true ≡ false → ⊥
is_not e = cc

is_not' : false ≡ true → ⊥
is_not' e = cc

no_fault_of_block : (fault : r.Refusal) → f.BlockFaulty t_and_u (record { outer = []; block = faultless.block }) fault → ⊥
no_fault_of_block fault (f.name_twice h) = h (tt, tt)
no_fault_of_block fault (f.no_table (inl h)) = is_not' (ap is_none h)
no_fault_of_block fault (f.too_fine g (inr (inr (inl h)))) = omega (arith, h)
no_fault_of_block fault (f.too_fine g (inl h)) = h
no_fault_of_block fault (f.too_fine g (inr (inl h))) = h
no_fault_of_block fault (f.too_fine g (inr (inr (inr (inl h))))) = h
no_fault_of_block fault (f.no_column g (inl h)) = h
no_fault_of_block fault (f.no_column g (inr (inl h))) = h
no_fault_of_block fault (f.no_column g (inr (inr (inl h)))) = h
no_fault_of_block fault (f.no_column g (inr (inr (inr (inl h))))) = h
no_fault_of_block fault (f.mixed_kinds g (inl h)) = h refl
no_fault_of_block fault (f.mixed_kinds g (inr (inl h))) = h
no_fault_of_block fault (f.mixed_kinds g (inr (inr (inl h)))) = h
no_fault_of_block fault (f.mixed_kinds g (inr (inr (inr (inl h))))) = h
no_fault_of_block fault (f.wrong_operand (inl h)) = is_not h
no_fault_of_block fault (f.wrong_operand (inr (inl h))) = is_not h
no_fault_of_block fault (f.wrong_operand (inr (inr (inl h)))) = is_not h
no_fault_of_block fault (f.wrong_operand (inr (inr (inr (inl h))))) = is_not h
no_fault_of_block fault (f.wrong_condition (inl h)) = is_not h
no_fault_of_block fault (f.wrong_value (inl h)) = is_not' h
no_fault_of_block fault (f.function_in_where (inl h)) = is_not' h
no_fault_of_block fault (f.function_in_where (inr (inl h))) = is_not' h
no_fault_of_block fault (f.function_in_where (inr (inr (inl h)))) = is_not' h
no_fault_of_block fault (f.ungrouped g few (inl h) k) = h refl
no_fault_of_block fault (f.ungrouped g few (inr (inl h)) k) = h refl
no_fault_of_block fault (f.ungrouped g few (inr (inr (inl h))) k) = is_not' h
no_fault_of_block fault (f.star_of_groups (inl h) k) = h refl
no_fault_of_block fault (f.star_of_groups (inr (inl h)) k) = h refl
no_fault_of_block fault (f.star_of_groups (inr (inr (inl h))) k) = is_not' h
no_fault_of_block fault (f.many_tables h) = omega (arith, h)
no_fault_of_block fault (f.many_conjuncts (inl h)) = omega (arith, h)
no_fault_of_block fault (f.many_members (inl h)) = h
no_fault_of_block fault (f.many_members (inr (inl h))) = h
no_fault_of_block fault (f.many_members (inr (inr (inl h)))) = h
no_fault_of_block fault (f.many_members (inr (inr (inr (inl h))))) = h
no_fault_of_block fault (f.many_items h) = omega (arith, h)
no_fault_of_block fault (f.many_groups h) = omega (arith, h)
no_fault_of_block fault (f.misplaced_query h) = h refl
no_fault_of_block _ (f.no_table (inr h)) = elim h [ ]
no_fault_of_block _ (f.too_fine g (inr (inr (inr (inr h))))) = elim h [ ]
no_fault_of_block _ (f.no_column g (inr (inr (inr (inr h))))) = elim h [ ]
no_fault_of_block _ (f.group_not_own g h) = elim h [ ]
no_fault_of_block _ (f.mixed_kinds g (inr (inr (inr (inr h))))) = elim h [ ]
no_fault_of_block _ (f.wrong_operand (inr (inr (inr (inr h))))) = elim h [ ]
no_fault_of_block _ (f.wrong_condition (inr h)) = elim h [ ]
no_fault_of_block _ (f.wrong_value (inr h)) = elim h [ ]
no_fault_of_block _ (f.function_in_where (inr (inr (inr h)))) = elim h [ ]
no_fault_of_block _ (f.function_in_function h) = elim h [ ]
no_fault_of_block _ (f.outer_in_function g h) = elim h [ ]
no_fault_of_block _ (f.ungrouped g few (inr (inr (inr h))) k) = elim h [ ]
no_fault_of_block _ (f.star_of_groups (inr (inr (inr h))) k) = elim h [ ]
no_fault_of_block _ (f.many_conjuncts (inr h)) = elim h [ ]
no_fault_of_block _ (f.many_members (inr (inr (inr (inr h))))) = elim h [ ]

pub faultless_is_accepted : f.IsAcceptedQuery t_and_u faultless
faultless_is_accepted fault (f.QueryFaulty.block fault' (inl h)) = no_fault_of_block fault' h
faultless_is_accepted fault (f.QueryFaulty.block fault' (inr h)) = elim h [ ]
faultless_is_accepted fault (f.many_blocks h) = omega (arith, h)
faultless_is_accepted fault (f.many_keys h) = omega (arith, h)
faultless_is_accepted fault (f.bad_key g few h) = h

outer_is_formed : g.IsFormedBlock t_and_u two_blocks [] 0 outer_block
outer_is_formed = record {
  some = lit< tt;
  tables = (lit< tt, tt);
  count = lit≤ tt;
  items = (((0, t_table, x_column, refl, refl, refl, refl), refl), tt);
  condition = (tt, refl, ((lit< tt, lit< tt), tt));
  conjuncts = lit≤ tt;
  groups = tt;
  having = tt;
  functions = tt;
  order = tt;
}

inner_is_formed : g.IsFormedBlock t_and_u two_blocks (outer_block ∷ []) 1 inner_block
inner_is_formed = record {
  some = lit< tt;
  tables = (lit< tt, tt);
  count = lit≤ tt;
  items = (((1, u_table, v_column, refl, refl, refl, refl), refl), tt);
  condition = ((((1, u_table, v_column, refl, refl, refl, refl), refl), (((outer_block, refl, (0, t_table, x_column, refl, refl, refl, refl)), refl), tt)), refl, tt);
  conjuncts = lit≤ tt;
  groups = tt;
  having = tt;
  functions = tt;
  order = tt;
}

pub correlated_is_formed : g.AreFormed t_and_u two_blocks [] 0
correlated_is_formed = g.formed [] 0 outer_block refl outer_is_formed inside
  where
    inside : (k : ℕ) → Contains (1 ∷ []) k → g.AreFormed t_and_u two_blocks (outer_block ∷ []) k
    inside k (zero, below, is) = subst (g.AreFormed t_and_u two_blocks (outer_block ∷ [])) is (g.formed (outer_block ∷ []) 1 inner_block refl inner_is_formed (λ j none. absurd (omega (arith, none.1))))
    inside k (suc i, below, is) = absurd (omega (arith, below))

pub subqueries_bind : SubqueriesBind
subqueries_bind = record {
  scalar_subquery_raises = refl;
  exists_binds = refl;
  exists_raises = refl;
}

pub forms_of_queries : FormsOfQueries
unfolding digits
forms_of_queries = record {
  one_table_twice = refl;
  blocks_in_text_order = refl;
  functions_in_text_order = refl;
}

pub refused_queries : RefusedQueries
refused_queries = record {
  name_twice_in_from = f.QueryFaulty.block r.NameTaken (inl (f.name_twice (λ h. cc)));
  no_such_table = f.QueryFaulty.block r.NotFound (inl (f.no_table (inl refl)));
  nineteen_digits_behind_the_point = f.QueryFaulty.block r.ScaleTooGreat (inl (f.too_fine refl (inl (lit< tt))));
  unknown_column = f.QueryFaulty.block r.UnknownColumn (inl (f.no_column refl (inl tt)));
  ambiguous_column = f.QueryFaulty.block r.UnknownColumn (inl (f.no_column refl (inr (inl tt))));
  number_against_text = f.QueryFaulty.block r.MixedKinds (inl (f.mixed_kinds refl (inl (λ h. cc))));
  two_columns_for_values = f.QueryFaulty.block r.MixedKinds (inl (f.mixed_kinds refl (inl (inl (refl, λ h. cc)))));
  value_for_condition = f.QueryFaulty.block r.MisplacedCondition (inl (f.wrong_condition (inl refl)));
  count_in_where = f.QueryFaulty.block r.MisplacedFunction (inl (f.function_in_where (inr (inl refl))));
  column_beside_count = f.QueryFaulty.block r.UngroupedColumn (inl (f.ungrouped refl (lit≤ tt) (inr (inr (inr (inl refl)))) (inl (λ h. h))));
  no_such_position = f.bad_key refl (lit≤ tt) (inl (inr (lit< tt)));
  fifteen_tables = f.QueryFaulty.block r.ManyTables (inl (f.many_tables (lit< tt)));
  subquery_in_select_list = f.QueryFaulty.block r.OverQueryLimit (inl (f.misplaced_query (λ h. cc)));
  faultless_is_accepted = faultless_is_accepted;
}
