-- What is bound of a condition without a fault is formed: so are the values that it speaks of, what is compared is of one kind, and the blocks that it tests are there.
use Rattle.std.proofs.Common.{◌≡◌, ◌∙◌, refl, sym, ap, ap₂, subst, ℕ, ◌+◌, Bool, true, false, List, [], ◌∷◌, ◌++◌, Option, Some, length, filter, cond, inl, inr}
use Rattle.std.specs.Prelude.{◌&&◌, not, IsTrue, is_some}
use Rattle.std.specs.List.{AllByRecursion, list_all}
use Rattle.std.proofs.lemmas.List.{append_assoc}
use Rattle.definitions.specs.Value.{Numbers, Texts}
use Rattle.definitions.specs.Statement as t
use Rattle.definitions.specs.Statement.{Expr, LineOperands, Members}
use Rattle.definitions.specs.ValueType.{ValueType, NumberType, TextType, type_kind}
use Rattle.definitions.specs.Binding.Scopes.{are_there}
use Rattle.definitions.specs.Binding.Types.{expr_type, query_type}
use Rattle.definitions.specs.Binding.Parts.{PlacedBlock, is_function, parts, operand_parts, member_parts, placed_blocks_in, placed_operand_blocks, member_blocks, block_blocks}
use Rattle.definitions.specs.Binding.BoundForm.{Next, connected, after, bound_value, bound_members, bound_condition, bound_parts}
use Rattle.definitions.specs.Binding.Faults.{is_condition, same, operands_are, members_are_values, Differ, NotOneColumn, SomeMemberDiffers}
use Rattle.definitions.specs.Binding.Formed.{column_type}
use Rattle.definitions.specs.Queries.BoundBlock.{ValueExpr, Condition, Conditions}
use Rattle.definitions.specs.Queries.BoundTypes.{value_type, is_of_kind, are_comparable, member_is_comparable, is_sound, are_sound}
use Rattle.definitions.specs.Queries.Conjuncts as q
use Rattle.definitions.proofs.BindingTheory.ListFacts.{both, together, negated, split, joined, Numbered, Later, numbered_both}
use Rattle.definitions.proofs.BindingTheory.SoundBlocks.{IsSoundPart, IsGood}
use Rattle.definitions.proofs.BindingTheory.ExprTypes.{IsClean, typed, typed_query}
use Rattle.definitions.proofs.BindingTheory.FormedValues.{Setting, scopes_in, IsAt, IsInner, IsFormed, AreNumbered, FunctionsAt, functions_both, inner_block, query_is_typed, formed}

-- ---- kinds

comparable : (t u : ValueType) → (Differ (Some t) (Some u) → ⊥) → are_comparable (Some t) (Some u) ≡ true
comparable (NumberType m) (NumberType n) h = refl
comparable (NumberType m) TextType h = absurd (h (λ e. absurd cc))
comparable TextType (NumberType n) h = absurd (h (λ e. absurd cc))
comparable TextType TextType h = refl

-- of two expressions of some types, and two values of these
are_comparable_too : (x y v w : Option ValueType) (t u : ValueType) → x ≡ Some t → y ≡ Some u → v ≡ Some t → w ≡ Some u → (Differ x y → ⊥) → are_comparable v w ≡ true
are_comparable_too x y v w t u e f g h apart = ap₂ are_comparable g h ∙ comparable t u (λ d. apart (subst (λ o. Differ o y) (sym e) (subst (Differ (Some t)) (sym f) d)))

is_text : (type : ValueType) → (type_kind type ≡ Numbers → ⊥) → is_of_kind Texts (Some type) ≡ true
is_text (NumberType n) h = absurd (h refl)
is_text TextType h = refl

pub nothing_more : {X : Type 0} (xs : List X) → xs ++ [] ≡ xs
nothing_more [] = refl
nothing_more (x ∷ xs) = ap (λ ys. x ∷ ys) (nothing_more xs)

-- ---- expressions of a setting

module _ (s : Setting) where
  -- parts without a fault, and the blocks inside them, which are numbered as their set functions are
  pub record IsReady (next : Next) (ps : List Expr) (bs : List PlacedBlock) : Type 0 where
    pub there : IsTrue (are_there (scopes_in s))
    pub parts : AllByRecursion (IsSoundPart s.db (scopes_in s)) ps
    pub inner : AllByRecursion (IsGood s.db) bs
    pub blocks : AreNumbered s next.block bs
    pub functions : FunctionsAt s next.function ps

  abbrev pub IsReadyExpr : Next → Expr → Type 0
  IsReadyExpr next e = IsReady next (parts e) (placed_blocks_in s.db (scopes_in s) e)

  abbrev pub behind : Next → List Expr → List PlacedBlock → Next
  behind next ps bs = record { block = next.block + length bs; function = next.function + length (filter is_function ps) }

  pub ready_both : (next : Next) (ps rs : List Expr) (bs cs : List PlacedBlock) → IsReady next (ps ++ rs) (bs ++ cs) → IsReady next ps bs × IsReady (behind next ps bs) rs cs
  ready_both next ps rs bs cs h =
      let xs = split (IsSoundPart s.db (scopes_in s)) ps rs h.parts in
      let gs = split (IsGood s.db) bs cs h.inner in
      let ns = numbered_both (Later s.all s.number) next.block bs cs h.blocks in
      let fs = functions_both s next.function ps rs h.functions in
      (record { there = h.there; parts = xs.0; inner = gs.0; blocks = ns.0; functions = fs.0 }, record { there = h.there; parts = xs.1; inner = gs.1; blocks = ns.1; functions = fs.1 })

  ready_three : (next : Next) (ps rs us : List Expr) (bs cs ds : List PlacedBlock) → IsReady next (ps ++ rs ++ us) (bs ++ cs ++ ds)
      → IsReady next ps bs × IsReady (behind next ps bs) rs cs × IsReady (behind (behind next ps bs) rs cs) us ds
  ready_three next ps rs us bs cs ds h =
      let x = ready_both next ps (rs ++ us) bs (cs ++ ds) (subst (λ l. IsReady next l (bs ++ (cs ++ ds))) (append_assoc ps rs us) (subst (IsReady next (ps ++ rs ++ us)) (append_assoc bs cs ds) h)) in
      let y = ready_both (behind next ps bs) rs us cs ds x.1 in
      (x.0, y.0, y.1)

  -- a value and a query
  ready_query : (next : Next) (e : Expr) (query : t.QuerySpecification) → IsReady next (parts e) (placed_blocks_in s.db (scopes_in s) e ++ block_blocks s.db (scopes_in s) query)
      → IsReadyExpr next e × IsReady (behind next (parts e) (placed_blocks_in s.db (scopes_in s) e)) [] (block_blocks s.db (scopes_in s) query)
  ready_query next e query h =
      ready_both next (parts e) [] (placed_blocks_in s.db (scopes_in s) e) (block_blocks s.db (scopes_in s) query)
      (subst (λ ps. IsReady next ps (placed_blocks_in s.db (scopes_in s) e ++ block_blocks s.db (scopes_in s) query)) (sym (nothing_more (parts e))) h)

  no_function : (c : Bool) (k : ℕ) (e : Expr) (ps : List Expr) → c ≡ false → Numbered (IsAt s.functions) k (cond c (e ∷ ps) ps) → Numbered (IsAt s.functions) k ps
  no_function true k e ps h n = absurd cc
  no_function false k e ps h n = n

  ready_inside : (next : Next) (e : Expr) (ps : List Expr) (bs : List PlacedBlock) → is_function e ≡ false → IsReady next (e ∷ ps) bs → IsReady next ps bs
  ready_inside next e ps bs n h = record { there = h.there; parts = h.parts.1; inner = h.inner; blocks = h.blocks; functions = no_function (is_function e) next.function e (filter is_function ps) n h.functions }

  clean : (next : Next) (e : Expr) → IsReadyExpr next e → IsClean s.db (scopes_in s) e
  clean next e h = record { there = h.there; parts = h.parts; inner = h.inner }

  -- ---- values

  pub record IsBound (v : ValueExpr) : Type 0 where
    pub formed : IsFormed s v
    pub typed : is_some (value_type v) ≡ true

  -- and what is known of its type
  pub record IsValue (next : Next) (e : Expr) : Type 0 where
    pub bound : IsBound (bound_value s.db (scopes_in s) next e)
    pub type : ValueType
    pub typed : expr_type s.db (scopes_in s) e ≡ Some type
    pub known : value_type (bound_value s.db (scopes_in s) next e) ≡ Some type

  pub value : (next : Next) (e : Expr) → IsReadyExpr next e → is_condition e ≡ false → IsValue next e
  value next e h c =
      let t = typed s.db (scopes_in s) e (clean next e h) c in
      record { bound = record { formed = formed s next e (clean next e h) c h.blocks h.functions; typed = ap is_some (t.bound next) }; type = t.type; typed = t.typed; known = t.bound next }

  alike : (next after : Next) (x y : Expr) (v : IsValue next x) (w : IsValue after y) → (Differ (expr_type s.db (scopes_in s) x) (expr_type s.db (scopes_in s) y) → ⊥)
      → are_comparable (value_type (bound_value s.db (scopes_in s) next x)) (value_type (bound_value s.db (scopes_in s) after y)) ≡ true
  alike next after x y v w apart = are_comparable_too _ _ _ _ v.type w.type v.typed w.typed v.known w.known apart

  -- ---- members of an IN list

  pub record AreMembers (type : ValueType) (ms : List (Option ValueExpr)) : Type 0 where
    pub values : AllByRecursion IsBound (q.member_values ms)
    pub alike : list_all (member_is_comparable (Some type)) ms ≡ true

  members : (next : Next) (type : ValueType) (ms : Members) → IsReady next (member_parts ms) (member_blocks s.db (scopes_in s) ms) → members_are_values ms ≡ true
      → (SomeMemberDiffers s.db (scopes_in s) (Some type) ms → ⊥) → AreMembers type (bound_members s.db (scopes_in s) next ms)
  members next type t.NoMember h c apart = record { values = tt; alike = refl }
  members next type (t.NullMember others) h c apart = let m = members next type others h c apart in record { values = m.values; alike = m.alike }
  members next type (t.Member e others) h c apart =
      let right = both (not (is_condition e)) (members_are_values others) c in
      let r = ready_both next (parts e) (member_parts others) (placed_blocks_in s.db (scopes_in s) e) (member_blocks s.db (scopes_in s) others) h in
      let v = value next e r.0 (negated (is_condition e) right.0) in
      let m = members (after s.db (scopes_in s) e next) type others r.1 right.1 (λ d. apart (inr d)) in
      record { values = (v.bound, m.values); alike = together _ _ (are_comparable_too (Some type) _ (Some type) _ type v.type refl v.typed refl v.known (λ d. apart (inl d))) m.alike }

  -- ---- conditions

  pub record IsTest (c : Condition) : Type 0 where
    pub values : AllByRecursion IsBound (q.values_of c)
    pub sound : is_sound (column_type s.blocks) c ≡ true
    pub tested : AllByRecursion (IsInner s) (q.tested_blocks c)

  pub record AreTests (cs : Conditions) : Type 0 where
    pub values : AllByRecursion IsBound (q.values_of_parts cs)
    pub sound : are_sound (column_type s.blocks) cs ≡ true
    pub tested : AllByRecursion (IsInner s) (q.tested_blocks_of_parts cs)

  connected_test : (others : LineOperands) (cs : Conditions) → AreTests cs → IsTest (connected others cs)
  connected_test t.NoOperand cs h = record { values = h.values; sound = h.sound; tested = h.tested }
  connected_test (t.Operand t.And e others) cs h = record { values = h.values; sound = h.sound; tested = h.tested }
  connected_test (t.Operand t.Or e others) cs h = record { values = h.values; sound = h.sound; tested = h.tested }
  connected_test (t.Operand t.Plus e others) cs h = record { values = h.values; sound = h.sound; tested = h.tested }
  connected_test (t.Operand t.Minus e others) cs h = record { values = h.values; sound = h.sound; tested = h.tested }
  connected_test (t.Operand t.Times e others) cs h = record { values = h.values; sound = h.sound; tested = h.tested }
  connected_test (t.Operand t.Divided e others) cs h = record { values = h.values; sound = h.sound; tested = h.tested }

  -- a value against the column of a query
  against : (next : Next) (e : Expr) (query : t.QuerySpecification) (k : ℕ) (v : IsValue next e) → IsTrue (are_there (scopes_in s)) → AllByRecursion (IsGood s.db) (block_blocks s.db (scopes_in s) query) → AreNumbered s k (block_blocks s.db (scopes_in s) query)
      → (NotOneColumn s.db query → ⊥) → (Differ (expr_type s.db (scopes_in s) e) (query_type s.db (scopes_in s) query) → ⊥)
      → are_comparable (value_type (bound_value s.db (scopes_in s) next e)) (column_type s.blocks k) ≡ true
  against next e query k v there good numbered single apart =
      let known = typed_query s.db (scopes_in s) query there good single in
      are_comparable_too _ _ _ _ v.type known.type v.typed known.typed v.known (query_is_typed s query k known numbered) apart

  mutual
    pub test : (next : Next) (e : Expr) → IsReadyExpr next e → is_condition e ≡ true → IsTest (bound_condition s.db (scopes_in s) next e)
    test next (t.Line first others) h c =
        let right = both (same true (is_condition first)) (operands_are true others) (subst (λ l. same l (is_condition first) && operands_are l others ≡ true) c h.parts.0.itself.right) in
        let r = ready_both next (parts first) (operand_parts others) (placed_blocks_in s.db (scopes_in s) first) (placed_operand_blocks s.db (scopes_in s) others) (ready_inside next (t.Line first others) _ _ refl h) in
        let x = test next first r.0 right.0 in
        let y = tests (after s.db (scopes_in s) first next) others r.1 right.1 in
        connected_test others _ (record { values = joined IsBound (q.values_of (bound_condition s.db (scopes_in s) next first)) _ x.values y.values; sound = together _ _ x.sound y.sound; tested = joined (IsInner s) (q.tested_blocks (bound_condition s.db (scopes_in s) next first)) _ x.tested y.tested })
    test next (t.Not e) h c = let x = test next e (ready_inside next (t.Not e) _ _ refl h) h.parts.0.itself.right in record { values = x.values; sound = x.sound; tested = x.tested }
    test next (t.Compare op left right) h c =
        let places = both (not (is_condition left)) (not (is_condition right)) h.parts.0.itself.right in
        let r = ready_both next (parts left) (parts right) (placed_blocks_in s.db (scopes_in s) left) (placed_blocks_in s.db (scopes_in s) right) (ready_inside next (t.Compare op left right) _ _ refl h) in
        let x = value next left r.0 (negated (is_condition left) places.0) in
        let y = value (after s.db (scopes_in s) left next) right r.1 (negated (is_condition right) places.1) in
        record { values = (x.bound, (y.bound, tt)); sound = alike next (after s.db (scopes_in s) left next) left right x y h.parts.0.itself.kinds; tested = tt }
    test next (t.CompareAll op quantifier e query) h c =
        let r = ready_query next e query (ready_inside next (t.CompareAll op quantifier e query) _ _ refl h) in
        let x = value next e r.0 (negated (is_condition e) h.parts.0.itself.right) in
        let k = (after s.db (scopes_in s) e next).block in
        record { values = (x.bound, tt); sound = against next e query k x h.there r.1.inner r.1.blocks (λ n. h.parts.0.itself.kinds (inl n)) (λ d. h.parts.0.itself.kinds (inr d)); tested = (inner_block s query k r.1.blocks, tt) }
    test next (t.IsNull n e) h c =
        let x = value next e (ready_inside next (t.IsNull n e) _ _ refl h) (negated (is_condition e) h.parts.0.itself.right) in record { values = (x.bound, tt); sound = x.bound.typed; tested = tt }
    test next (t.Between n e low high) h c =
        let places = both (not (is_condition e) && not (is_condition low)) (not (is_condition high)) h.parts.0.itself.right in
        let more = both (not (is_condition e)) (not (is_condition low)) places.0 in
        let r = ready_three next (parts e) (parts low) (parts high) (placed_blocks_in s.db (scopes_in s) e) (placed_blocks_in s.db (scopes_in s) low) (placed_blocks_in s.db (scopes_in s) high) (ready_inside next (t.Between n e low high) _ _ refl h) in
        let next' = after s.db (scopes_in s) e next in
        let next'' = after s.db (scopes_in s) low next' in
        let x = value next e r.0 (negated (is_condition e) more.0) in
        let y = value next' low r.1 (negated (is_condition low) more.1) in
        let z = value next'' high r.2 (negated (is_condition high) places.1) in
        record {
          values = (x.bound, (y.bound, (z.bound, tt)));
          sound = together _ _ (alike next next' e low x y (λ d. h.parts.0.itself.kinds (inl d))) (alike next next'' e high x z (λ d. h.parts.0.itself.kinds (inr d)));
          tested = tt;
        }
    test next (t.Like n e pattern) h c =
        let x = value next e (ready_inside next (t.Like n e pattern) _ _ refl h) (negated (is_condition e) h.parts.0.itself.right) in
        record { values = (x.bound, tt); sound = ap (is_of_kind Texts) x.known ∙ is_text x.type (λ k. h.parts.0.itself.kinds (x.type, x.typed, k)); tested = tt }
    test next (t.InList n e ms) h c =
        let places = both (not (is_condition e)) (members_are_values ms) h.parts.0.itself.right in
        let r = ready_both next (parts e) (member_parts ms) (placed_blocks_in s.db (scopes_in s) e) (member_blocks s.db (scopes_in s) ms) (ready_inside next (t.InList n e ms) _ _ refl h) in
        let x = value next e r.0 (negated (is_condition e) places.0) in
        let m = members (after s.db (scopes_in s) e next) x.type ms r.1 places.1 (λ d. h.parts.0.itself.kinds (subst (λ o. SomeMemberDiffers s.db (scopes_in s) o ms) (sym x.typed) d)) in
        record { values = (x.bound, m.values); sound = together _ _ x.bound.typed (ap (λ o. list_all (member_is_comparable o) (bound_members s.db (scopes_in s) (after s.db (scopes_in s) e next) ms)) x.known ∙ m.alike); tested = tt }
    test next (t.InQuery n e query) h c =
        let r = ready_query next e query (ready_inside next (t.InQuery n e query) _ _ refl h) in
        let x = value next e r.0 (negated (is_condition e) h.parts.0.itself.right) in
        let k = (after s.db (scopes_in s) e next).block in
        record { values = (x.bound, tt); sound = against next e query k x h.there r.1.inner r.1.blocks (λ n. h.parts.0.itself.kinds (inl n)) (λ d. h.parts.0.itself.kinds (inr d)); tested = (inner_block s query k r.1.blocks, tt) }
    test next (t.Exists query) h c = record { values = tt; sound = refl; tested = (inner_block s query next.block h.blocks, tt) }
    test next (t.Column reference) h c = absurd cc
    test next (t.Numeral units digits scale) h c = absurd cc
    test next (t.String codes) h c = absurd cc
    test next (t.Signed minus e) h c = absurd cc
    test next (t.Scalar query) h c = absurd cc
    test next t.CountRows h c = absurd cc
    test next (t.Function f d argument) h c = absurd cc

    pub tests : (next : Next) (others : LineOperands) → IsReady next (operand_parts others) (placed_operand_blocks s.db (scopes_in s) others) → operands_are true others ≡ true → AreTests (bound_parts s.db (scopes_in s) next others)
    tests next t.NoOperand h c = record { values = tt; sound = refl; tested = tt }
    tests next (t.Operand o e others) h c =
        let right = both (same true (is_condition e)) (operands_are true others) c in
        let r = ready_both next (parts e) (operand_parts others) (placed_blocks_in s.db (scopes_in s) e) (placed_operand_blocks s.db (scopes_in s) others) h in
        let x = test next e r.0 right.0 in
        let y = tests (after s.db (scopes_in s) e next) others r.1 right.1 in
        record { values = joined IsBound (q.values_of (bound_condition s.db (scopes_in s) next e)) _ x.values y.values; sound = together _ _ x.sound y.sound; tested = joined (IsInner s) (q.tested_blocks (bound_condition s.db (scopes_in s) next e)) _ x.tested y.tested }
