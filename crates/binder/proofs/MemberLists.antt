-- The members of an IN list, one after another.
use Rattle.std.proofs.Common.{◌≡◌, ◌∙◌, refl, sym, ap, ap₂, subst, inl, inr, ◌≤◌, Bool, true, false, List, [], ◌∷◌, ◌++◌, Option, Some, None, length}
use Rattle.std.specs.Prelude.{not, ◌&&◌, IsFalse}
use Rattle.std.proofs.lemmas.List.{append_assoc}
use Rattle.definitions.specs.Limits.{most_blocks}
use Rattle.definitions.specs.Refusal.{Refusal, MisplacedCondition, MixedKinds, OverQueryLimit}
use Rattle.definitions.specs.Statement as t
use Rattle.definitions.specs.Statement.{Expr, Members, NoMember, NullMember, Member}
use Rattle.definitions.specs.Table.{Database}
use Rattle.definitions.specs.ValueType.{ValueType, type_kind}
use Rattle.definitions.specs.Binding.Scopes.{Scopes}
use Rattle.definitions.specs.Binding.Parts.{parts, member_parts, placed_blocks_in, member_blocks}
use Rattle.definitions.specs.Binding.BoundForm.{bound_members}
use Rattle.definitions.specs.Binding.Faults.{is_condition, SomeMemberDiffers, members_are_values, HasManyMembers}
use Rattle.definitions.specs.Queries.BoundBlock as b
use Rattle.query_rules.specs.Judging.{ClauseKind, PartFaulty, mixed_kinds, wrong_operand, many_members, Refuses, Progress, BindsValue, BindsCondition, BindsMembers, RefusesValue, RefusesCondition, RefusesMembers}
use Rattle.binder.proofs.Bundles.{add_node, add_none, add_both, fault_here, fault_behind, fault_left, fault_right}
use Rattle.binder.proofs.Nodes.{sound, alike, unlike, next_after, blocks_after}

module _ (db : Database) (scopes : Scopes) (place : ClauseKind) where
  pub no_members : (s : Progress) (k : ValueType) → length s.blocks ≤ most_blocks → BindsMembers db scopes place s s k NoMember []
  no_members s k few = record { adds = add_none db scopes place s few; are = refl; alike = λ x. x; values = refl }

  null_member : (old new : Progress) (k : ValueType) (ms : Members) (out : List (Option b.ValueExpr)) → BindsMembers db scopes place old new k ms out → BindsMembers db scopes place old new k (NullMember ms) (None ∷ out)
  null_member old new k ms out h = record { adds = h.adds; are = ap (λ xs. None ∷ xs) h.are; alike = h.alike; values = h.values }

  next_member : (old mid new : Progress) (k l : ValueType) (e : Expr) (v : b.ValueExpr) (ms : Members) (out : List (Option b.ValueExpr)) → BindsValue db scopes place old mid e v l → type_kind k ≡ type_kind l → BindsMembers db scopes place mid new k ms out
      → BindsMembers db scopes place old new k (Member e ms) (Some v ∷ out)
  next_member old mid new k l e v ms out h same m = record {
    adds = add_both db scopes place old mid new (parts e) (member_parts ms) (placed_blocks_in db scopes e) (member_blocks db scopes ms) h.adds m.adds;
    are = ap₂ (λ x xs. Some x ∷ xs) h.bound (m.are ∙ ap (λ n. bound_members db scopes n ms) (next_after db scopes place old mid e h.adds));
    alike = λ x. elim x [ inl d ↦ alike db scopes place (Some k) _ k l refl h.typed same d | inr d ↦ m.alike d ];
    values = taken (is_condition e) (members_are_values ms) h.is_value m.values;
  }
    where
      taken : (x y : Bool) → x ≡ false → y ≡ true → not x && y ≡ true
      taken false y p q = q
      taken true y p q = absurd cc

  wrong_first : (x y : Bool) → x ≡ true → not x && y ≡ false
  wrong_first true y h = refl
  wrong_first false y h = absurd cc

  wrong_later : (x y : Bool) → y ≡ false → not x && y ≡ false
  wrong_later true y h = refl
  wrong_later false y h = h

  member_operand : (s : Progress) (k : ValueType) (e : Expr) (ms : Members) (r : Refusal) → RefusesValue db scopes place s e r → RefusesMembers db scopes place s k (Member e ms) r
  member_operand s k e ms r (inl f) = inl (fault_left db scopes place (length s.blocks) (parts e) (member_parts ms) (placed_blocks_in db scopes e) (member_blocks db scopes ms) r f)
  member_operand s k e ms r (inr (x, same)) = inr (inr (wrong_first (is_condition e) (members_are_values ms) x, same))

  member_mixed : (old mid : Progress) (k l : ValueType) (e : Expr) (v : b.ValueExpr) (ms : Members) → BindsValue db scopes place old mid e v l → (type_kind k ≡ type_kind l → ⊥) → RefusesMembers db scopes place old k (Member e ms) MixedKinds
  member_mixed old mid k l e v ms h apart = inr (inl (inl (unlike db scopes place (Some k) _ k l refl h.typed apart), refl))

  later_member : (old mid : Progress) (k l : ValueType) (e : Expr) (v : b.ValueExpr) (ms : Members) (r : Refusal) → BindsValue db scopes place old mid e v l → RefusesMembers db scopes place mid k ms r → RefusesMembers db scopes place old k (Member e ms) r
  later_member old mid k l e v ms r h (inl f) =
      inl (fault_right db scopes place (length old.blocks) (parts e) (member_parts ms) (placed_blocks_in db scopes e) (member_blocks db scopes ms) r
      (subst (λ n. Refuses db scopes place n (member_parts ms) (member_blocks db scopes ms) r) (blocks_after db scopes place old mid (parts e) (placed_blocks_in db scopes e) h.adds) f))
  later_member old mid k l e v ms r h (inr (inl (d, same))) = inr (inl (inr d, same))
  later_member old mid k l e v ms r h (inr (inr (x, same))) = inr (inr (wrong_later (is_condition e) (members_are_values ms) x, same))

  -- ---- members of which some are left

  pub record MembersLeft (old : Progress) (k : ValueType) (all : Members) (now : Progress) (done : List (Option b.ValueExpr)) (rest : Members) : Type 0 where
    pub few : length now.blocks ≤ most_blocks
    pub binds : (new : Progress) (out : List (Option b.ValueExpr)) → BindsMembers db scopes place now new k rest out → BindsMembers db scopes place old new k all (done ++ out)
    pub refuses : (r : Refusal) → RefusesMembers db scopes place now k rest r → RefusesMembers db scopes place old k all r

  pub begin_members : (s : Progress) (k : ValueType) (all : Members) → length s.blocks ≤ most_blocks → MembersLeft s k all s [] all
  begin_members s k all few = record { few = few; binds = λ new out h. h; refuses = λ r f. f }

  pub past_null : (old : Progress) (k : ValueType) (all : Members) (now : Progress) (done : List (Option b.ValueExpr)) (rest : Members) → MembersLeft old k all now done (NullMember rest) → MembersLeft old k all now (done ++ None ∷ []) rest
  past_null old k all now done rest h = record {
    few = h.few;
    binds = λ new out m. subst (BindsMembers db scopes place old new k all) (sym (append_assoc done (None ∷ []) out)) (h.binds new (None ∷ out) (null_member now new k rest out m));
    refuses = λ r f. h.refuses r f;
  }

  pub past_value : (old : Progress) (k l : ValueType) (all : Members) (now next : Progress) (done : List (Option b.ValueExpr)) (e : Expr) (v : b.ValueExpr) (rest : Members) → MembersLeft old k all now done (Member e rest)
      → BindsValue db scopes place now next e v l → type_kind k ≡ type_kind l → length next.blocks ≤ most_blocks → MembersLeft old k all next (done ++ Some v ∷ []) rest
  past_value old k l all now next done e v rest h b same few = record {
    few = few;
    binds = λ new out m. subst (BindsMembers db scopes place old new k all) (sym (append_assoc done (Some v ∷ []) out)) (h.binds new (Some v ∷ out) (next_member now next new k l e v rest out b same m));
    refuses = λ r f. h.refuses r (later_member now next k l e v rest r b f);
  }

  pub fault_at_value : (old : Progress) (k : ValueType) (all : Members) (now : Progress) (done : List (Option b.ValueExpr)) (e : Expr) (rest : Members) (r : Refusal) → MembersLeft old k all now done (Member e rest) → RefusesValue db scopes place now e r → RefusesMembers db scopes place old k all r
  fault_at_value old k all now done e rest r h f = h.refuses r (member_operand now k e rest r f)

  pub kinds_at_value : (old : Progress) (k l : ValueType) (all : Members) (now next : Progress) (done : List (Option b.ValueExpr)) (e : Expr) (v : b.ValueExpr) (rest : Members) → MembersLeft old k all now done (Member e rest)
      → BindsValue db scopes place now next e v l → (type_kind k ≡ type_kind l → ⊥) → RefusesMembers db scopes place old k all MixedKinds
  kinds_at_value old k l all now next done e v rest h b apart = h.refuses MixedKinds (member_mixed now next k l e v rest b apart)

  nothing_more : (xs : List (Option b.ValueExpr)) → xs ++ [] ≡ xs
  nothing_more [] = refl
  nothing_more (x ∷ xs) = ap (λ ys. x ∷ ys) (nothing_more xs)

  pub end_members : (old : Progress) (k : ValueType) (all : Members) (now : Progress) (done : List (Option b.ValueExpr)) → MembersLeft old k all now done NoMember → BindsMembers db scopes place old now k all done
  end_members old k all now done h = subst (BindsMembers db scopes place old now k all) (nothing_more done) (h.binds now [] (no_members now k h.few))

  -- ---- IN and its list

  pub binds_in_list : (old mid new : Progress) (negated : Bool) (e : Expr) (ms : Members) (v : b.ValueExpr) (k : ValueType) (out : List (Option b.ValueExpr)) → BindsValue db scopes place old mid e v k → BindsMembers db scopes place mid new k ms out
      → (HasManyMembers (t.InList negated e ms) → ⊥) → BindsCondition db scopes place old new (t.InList negated e ms) (b.InList negated v out)
  binds_in_list old mid new negated e ms v k out h m few = record {
    adds = add_node db scopes place old new (t.InList negated e ms) (parts e ++ member_parts ms) (placed_blocks_in db scopes e ++ member_blocks db scopes ms) refl (sound db scopes place (t.InList negated e ms) (record {
      fine = λ z. z;
      named = λ z. z;
      kinds = λ d. m.alike (subst (λ o. SomeMemberDiffers db scopes o ms) h.typed d);
      right = right (is_condition e) (members_are_values ms) h.is_value m.values;
      members = few;
      function = refl;
      outer = λ z. z;
      grouped = λ columns z. z;
      argument = refl;
    })) (add_both db scopes place old mid new (parts e) (member_parts ms) (placed_blocks_in db scopes e) (member_blocks db scopes ms) h.adds m.adds);
    bound = ap₂ (b.InList negated) h.bound (m.are ∙ ap (λ n. bound_members db scopes n ms) (next_after db scopes place old mid e h.adds));
    untyped = refl;
    is_condition = refl;
  }
    where
      right : (x y : Bool) → x ≡ false → y ≡ true → not x && y ≡ true
      right false y p q = q
      right true y p q = absurd cc

  list_here : (s : Progress) (negated : Bool) (e : Expr) (ms : Members) (r : Refusal) → PartFaulty db scopes place (t.InList negated e ms) r → RefusesCondition db scopes place s (t.InList negated e ms) r
  list_here s negated e ms r h = inl (fault_here db scopes place (length s.blocks) (t.InList negated e ms) (parts e ++ member_parts ms) (placed_blocks_in db scopes e ++ member_blocks db scopes ms) r h)

  wrong : (b : Bool) → b ≡ false → IsFalse b
  wrong false h = search
  wrong true h = absurd cc

  pub many_in_list : (s : Progress) (negated : Bool) (e : Expr) (ms : Members) → HasManyMembers (t.InList negated e ms) → RefusesCondition db scopes place s (t.InList negated e ms) OverQueryLimit
  many_in_list s negated e ms h = list_here s negated e ms OverQueryLimit (many_members h)

  pub in_list_operand : (s : Progress) (negated : Bool) (e : Expr) (ms : Members) (r : Refusal) → RefusesValue db scopes place s e r → RefusesCondition db scopes place s (t.InList negated e ms) r
  in_list_operand s negated e ms r (inl f) =
      inl (fault_behind db scopes place (length s.blocks) (t.InList negated e ms) (parts e ++ member_parts ms) (placed_blocks_in db scopes e ++ member_blocks db scopes ms) r
      (fault_left db scopes place (length s.blocks) (parts e) (member_parts ms) (placed_blocks_in db scopes e) (member_blocks db scopes ms) r f))
  in_list_operand s negated e ms r (inr (x, same)) =
      subst (RefusesCondition db scopes place s (t.InList negated e ms)) (sym same) (list_here s negated e ms MisplacedCondition (wrong_operand (wrong _ (wrong_first (is_condition e) (members_are_values ms) x))))

  pub in_list_members : (old mid : Progress) (negated : Bool) (e : Expr) (ms : Members) (v : b.ValueExpr) (k : ValueType) (r : Refusal) → BindsValue db scopes place old mid e v k → RefusesMembers db scopes place mid k ms r
      → RefusesCondition db scopes place old (t.InList negated e ms) r
  in_list_members old mid negated e ms v k r h (inl f) =
      inl (fault_behind db scopes place (length old.blocks) (t.InList negated e ms) (parts e ++ member_parts ms) (placed_blocks_in db scopes e ++ member_blocks db scopes ms) r
      (fault_right db scopes place (length old.blocks) (parts e) (member_parts ms) (placed_blocks_in db scopes e) (member_blocks db scopes ms) r
      (subst (λ n. Refuses db scopes place n (member_parts ms) (member_blocks db scopes ms) r) (blocks_after db scopes place old mid (parts e) (placed_blocks_in db scopes e) h.adds) f)))
  in_list_members old mid negated e ms v k r h (inr (inl (d, same))) =
      subst (RefusesCondition db scopes place old (t.InList negated e ms)) (sym same) (list_here old negated e ms MixedKinds (mixed_kinds (subst (λ o. SomeMemberDiffers db scopes o ms) (sym h.typed) d)))
  in_list_members old mid negated e ms v k r h (inr (inr (x, same))) =
      subst (RefusesCondition db scopes place old (t.InList negated e ms)) (sym same) (list_here old negated e ms MisplacedCondition (wrong_operand (wrong _ (wrong_later (is_condition e) (members_are_values ms) x))))
