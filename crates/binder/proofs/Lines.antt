-- The operands of a line, one after another: of arithmetic, and of AND and OR.
use Rattle.std.proofs.Common.{◌≡◌, ◌∙◌, refl, sym, ap, ap₂, subst, inl, inr, ℕ, ◌<◌, ◌≤◌, ◌⊎◌, Bool, true, false, List, [], ◌∷◌, ◌++◌, Option, Some, None, length, arith}
use Rattle.std.specs.Prelude.{◌&&◌, IsFalse}
use Rattle.std.proofs.lemmas.List.{append_assoc}
use Rattle.definitions.specs.Limits.{most_blocks, greatest_scale}
use Rattle.definitions.specs.Refusal.{Refusal, MisplacedCondition, MixedKinds, ScaleTooGreat}
use Rattle.definitions.specs.Statement as t
use Rattle.definitions.specs.Statement.{Expr, LineOperands, NoOperand, Operand}
use Rattle.definitions.specs.Table.{Database}
use Rattle.definitions.specs.ValueType.{ValueType, NumberType, TextType}
use Rattle.definitions.specs.Binding.Scopes.{Scopes}
use Rattle.definitions.specs.Binding.Types.{expr_type, chain_type, joined_type}
use Rattle.definitions.specs.Binding.Parts.{parts, operand_parts, placed_blocks_in, placed_operand_blocks}
use Rattle.definitions.specs.Binding.BoundForm.{operator_of, connected, bound_operands, bound_parts}
use Rattle.definitions.specs.Binding.Faults.{same, is_logical, is_condition, operands_are, SomeOperandIsText, IsGreat, HasGreatProduct}
use Rattle.definitions.specs.Queries.BoundBlock as b
use Rattle.query_tree.specs.Bound.{OperandTree, operands, conditions}
use Rattle.query_rules.specs.Judging.{ClauseKind, PartFaulty, too_fine, mixed_kinds, wrong_operand, Refuses, Progress, next_of, Adds, BindsValue, BindsCondition, RefusesValue, RefusesCondition}
use Rattle.binder.proofs.Bundles.{add_node, add_none, add_both, fault_here, fault_behind, fault_left, fault_right}
use Rattle.binder.proofs.Nodes.{sound, no_text, next_after, blocks_after}

is_wrong : (x : Bool) → x ≡ false → IsFalse x
is_wrong false h = search
is_wrong true h = absurd cc

differs : (x : Bool) → IsFalse x → x ≡ true → ⊥
differs true h k = absurd cc
differs false h k = absurd cc

both_right : (x y : Bool) → x ≡ true → y ≡ true → x && y ≡ true
both_right true y h k = k
both_right false y h k = absurd cc

first_wrong : (x y : Bool) → x ≡ false → x && y ≡ false
first_wrong false y h = refl
first_wrong true y h = absurd cc

later_wrong : (x y : Bool) → y ≡ false → x && y ≡ false
later_wrong true y h = h
later_wrong false y h = refl

value_is_wanted : (x : Bool) → x ≡ false → same false x ≡ true
value_is_wanted false h = refl
value_is_wanted true h = absurd cc

condition_is_no_value : (x : Bool) → x ≡ true → same false x ≡ false
condition_is_no_value true h = refl
condition_is_no_value false h = absurd cc

module _ (db : Database) (scopes : Scopes) (place : ClauseKind) where
  -- ---- arithmetic

  -- operands behind a number of a scale are bound, and the scale of all of them together is known
  pub record BindsOperands (old new : Progress) (left : ℕ) (rest : LineOperands) (out : List OperandTree) (scale : ℕ) : Type 0 where
    pub adds : Adds db scopes place old new (operand_parts rest) (placed_operand_blocks db scopes rest)
    pub are : operands out ≡ bound_operands db scopes (next_of old) rest
    pub typed : chain_type db scopes (Some (NumberType left)) rest ≡ Some (NumberType scale)
    pub numbers : SomeOperandIsText db scopes rest → ⊥
    pub fine : HasGreatProduct db scopes (Some (NumberType left)) rest → ⊥
    pub values : operands_are false rest ≡ true
    pub small : scale ≤ greatest_scale

  abbrev pub RefusesOperands : Progress → ℕ → LineOperands → Refusal → Type 0
  RefusesOperands old left rest r =
      Refuses db scopes place (length old.blocks) (operand_parts rest) (placed_operand_blocks db scopes rest) r
      ⊎ (SomeOperandIsText db scopes rest × (r ≡ MixedKinds)) ⊎ (HasGreatProduct db scopes (Some (NumberType left)) rest × (r ≡ ScaleTooGreat)) ⊎ ((operands_are false rest ≡ false) × (r ≡ MisplacedCondition))

  no_operands : (s : Progress) (left : ℕ) → length s.blocks ≤ most_blocks → left ≤ greatest_scale → BindsOperands s s left NoOperand [] left
  no_operands s left few small = record { adds = add_none db scopes place s few; are = refl; typed = refl; numbers = λ x. x; fine = λ x. x; values = refl; small = small }

  -- one more operand, a number of a scale
  next_operand : (old mid new : Progress) (left right joined scale : ℕ) (op : t.LineOperator) (e : Expr) (v : b.ValueExpr) (rest : LineOperands) (out : List OperandTree) → BindsValue db scopes place old mid e v (NumberType right)
      → joined_type op (Some (NumberType left)) (Some (NumberType right)) ≡ Some (NumberType joined) → joined ≤ greatest_scale → BindsOperands mid new joined rest out scale
      → BindsOperands old new left (Operand op e rest) ((operator_of op, v) ∷ out) scale
  next_operand old mid new left right joined scale op e v rest out h j small m =
      let together : joined_type op (Some (NumberType left)) (expr_type db scopes e) ≡ Some (NumberType joined) = ap (joined_type op (Some (NumberType left))) h.typed ∙ j in
      record {
        adds = add_both db scopes place old mid new (parts e) (operand_parts rest) (placed_blocks_in db scopes e) (placed_operand_blocks db scopes rest) h.adds m.adds;
        are = ap₂ (b.Operand (operator_of op)) h.bound (m.are ∙ ap (λ n. bound_operands db scopes n rest) (next_after db scopes place old mid e h.adds));
        typed = ap (λ o. chain_type db scopes o rest) together ∙ m.typed;
        numbers = λ x. elim x [ inl d ↦ no_text db scopes place e right h.typed d | inr d ↦ m.numbers d ];
        fine = λ x. elim x [ inl d ↦ not_great joined small (subst (IsGreat db scopes) together d) | inr d ↦ m.fine (subst (λ o. HasGreatProduct db scopes o rest) together d) ];
        values = both_right _ _ (value_is_wanted (is_condition e) h.is_value) m.values;
        small = m.small;
      }
    where
      not_great : (joined : ℕ) → joined ≤ greatest_scale → greatest_scale < joined → ⊥
      not_great joined h k = absurd (omega (arith, h, k))

  operand_value : (s : Progress) (left : ℕ) (op : t.LineOperator) (e : Expr) (rest : LineOperands) (r : Refusal) → RefusesValue db scopes place s e r → RefusesOperands s left (Operand op e rest) r
  operand_value s left op e rest r (inl f) = inl (fault_left db scopes place (length s.blocks) (parts e) (operand_parts rest) (placed_blocks_in db scopes e) (placed_operand_blocks db scopes rest) r f)
  operand_value s left op e rest r (inr (x, eq)) = inr (inr (inr (first_wrong _ _ (condition_is_no_value (is_condition e) x), eq)))

  operand_text : (old mid : Progress) (left : ℕ) (op : t.LineOperator) (e : Expr) (v : b.ValueExpr) (rest : LineOperands) → BindsValue db scopes place old mid e v TextType → RefusesOperands old left (Operand op e rest) MixedKinds
  operand_text old mid left op e v rest h = inr (inl (inl (TextType, h.typed, refl), refl))

  operand_great : (old mid : Progress) (left right joined : ℕ) (op : t.LineOperator) (e : Expr) (v : b.ValueExpr) (rest : LineOperands) → BindsValue db scopes place old mid e v (NumberType right)
      → joined_type op (Some (NumberType left)) (Some (NumberType right)) ≡ Some (NumberType joined) → greatest_scale < joined → RefusesOperands old left (Operand op e rest) ScaleTooGreat
  operand_great old mid left right joined op e v rest h j great =
      let together : joined_type op (Some (NumberType left)) (expr_type db scopes e) ≡ Some (NumberType joined) = ap (joined_type op (Some (NumberType left))) h.typed ∙ j in
      inr (inr (inl (inl (subst (IsGreat db scopes) (sym together) great), refl)))

  later_operand : (old mid : Progress) (left right joined : ℕ) (op : t.LineOperator) (e : Expr) (v : b.ValueExpr) (rest : LineOperands) (r : Refusal) → BindsValue db scopes place old mid e v (NumberType right)
      → joined_type op (Some (NumberType left)) (Some (NumberType right)) ≡ Some (NumberType joined) → RefusesOperands mid joined rest r → RefusesOperands old left (Operand op e rest) r
  later_operand old mid left right joined op e v rest r h j (inl f) =
      inl (fault_right db scopes place (length old.blocks) (parts e) (operand_parts rest) (placed_blocks_in db scopes e) (placed_operand_blocks db scopes rest) r
      (subst (λ n. Refuses db scopes place n (operand_parts rest) (placed_operand_blocks db scopes rest) r) (blocks_after db scopes place old mid (parts e) (placed_blocks_in db scopes e) h.adds) f))
  later_operand old mid left right joined op e v rest r h j (inr (inl (d, eq))) = inr (inl (inr d, eq))
  later_operand old mid left right joined op e v rest r h j (inr (inr (inl (d, eq)))) =
      inr (inr (inl (inr (subst (λ o. HasGreatProduct db scopes o rest) (sym (ap (joined_type op (Some (NumberType left))) h.typed ∙ j)) d), eq)))
  later_operand old mid left right joined op e v rest r h j (inr (inr (inr (x, eq)))) = inr (inr (inr (later_wrong _ _ x, eq)))

  -- operands of which some are left
  pub record OperandsLeft (old : Progress) (first : ℕ) (all : LineOperands) (now : Progress) (left : ℕ) (done : List OperandTree) (rest : LineOperands) : Type 0 where
    pub few : length now.blocks ≤ most_blocks
    pub small : left ≤ greatest_scale
    pub binds : (new : Progress) (out : List OperandTree) (scale : ℕ) → BindsOperands now new left rest out scale → BindsOperands old new first all (done ++ out) scale
    pub refuses : (r : Refusal) → RefusesOperands now left rest r → RefusesOperands old first all r

  pub begin_operands : (s : Progress) (first : ℕ) (all : LineOperands) → length s.blocks ≤ most_blocks → first ≤ greatest_scale → OperandsLeft s first all s first [] all
  begin_operands s first all few small = record { few = few; small = small; binds = λ new out scale h. h; refuses = λ r f. f }

  pub past_operand : (old : Progress) (first : ℕ) (all : LineOperands) (now next : Progress) (left right joined : ℕ) (done : List OperandTree) (op : t.LineOperator) (e : Expr) (v : b.ValueExpr) (rest : LineOperands)
      → OperandsLeft old first all now left done (Operand op e rest) → BindsValue db scopes place now next e v (NumberType right) → joined_type op (Some (NumberType left)) (Some (NumberType right)) ≡ Some (NumberType joined)
      → joined ≤ greatest_scale → length next.blocks ≤ most_blocks → OperandsLeft old first all next joined (done ++ (operator_of op, v) ∷ []) rest
  past_operand old first all now next left right joined done op e v rest h b j small few = record {
    few = few;
    small = small;
    binds = λ new out scale m. subst (λ xs. BindsOperands old new first all xs scale) (sym (append_assoc done ((operator_of op, v) ∷ []) out)) (h.binds new ((operator_of op, v) ∷ out) scale (next_operand now next new left right joined scale op e v rest out b j small m));
    refuses = λ r f. h.refuses r (later_operand now next left right joined op e v rest r b j f);
  }

  pub fault_at_operand : (old : Progress) (first : ℕ) (all : LineOperands) (now : Progress) (left : ℕ) (done : List OperandTree) (op : t.LineOperator) (e : Expr) (rest : LineOperands) (r : Refusal) → OperandsLeft old first all now left done (Operand op e rest)
      → RefusesValue db scopes place now e r → RefusesOperands old first all r
  fault_at_operand old first all now left done op e rest r h f = h.refuses r (operand_value now left op e rest r f)

  pub text_at_operand : (old : Progress) (first : ℕ) (all : LineOperands) (now next : Progress) (left : ℕ) (done : List OperandTree) (op : t.LineOperator) (e : Expr) (v : b.ValueExpr) (rest : LineOperands) → OperandsLeft old first all now left done (Operand op e rest)
      → BindsValue db scopes place now next e v TextType → RefusesOperands old first all MixedKinds
  text_at_operand old first all now next left done op e v rest h b = h.refuses MixedKinds (operand_text now next left op e v rest b)

  pub great_at_operand : (old : Progress) (first : ℕ) (all : LineOperands) (now next : Progress) (left right joined : ℕ) (done : List OperandTree) (op : t.LineOperator) (e : Expr) (v : b.ValueExpr) (rest : LineOperands) → OperandsLeft old first all now left done (Operand op e rest)
      → BindsValue db scopes place now next e v (NumberType right) → joined_type op (Some (NumberType left)) (Some (NumberType right)) ≡ Some (NumberType joined) → greatest_scale < joined → RefusesOperands old first all ScaleTooGreat
  great_at_operand old first all now next left right joined done op e v rest h b j great = h.refuses ScaleTooGreat (operand_great now next left right joined op e v rest b j great)

  nothing_more : {X : Type 0} (xs : List X) → xs ++ [] ≡ xs
  nothing_more [] = refl
  nothing_more (x ∷ xs) = ap (λ ys. x ∷ ys) (nothing_more xs)

  pub end_operands : (old : Progress) (first : ℕ) (all : LineOperands) (now : Progress) (left : ℕ) (done : List OperandTree) → OperandsLeft old first all now left done NoOperand → BindsOperands old now first all done left
  end_operands old first all now left done h = subst (λ xs. BindsOperands old now first all xs left) (nothing_more done) (h.binds now [] left (no_operands now left h.few h.small))

  -- ---- a line of arithmetic

  pub binds_chain : (old mid new : Progress) (first : Expr) (others : LineOperands) (v : b.ValueExpr) (left scale : ℕ) (out : List OperandTree) → is_logical others ≡ false → BindsValue db scopes place old mid first v (NumberType left) → BindsOperands mid new left others out scale
      → BindsValue db scopes place old new (t.Line first others) (b.Chain v (operands out)) (NumberType scale)
  binds_chain old mid new first others v left scale out arithmetic h m = record {
    adds = add_node db scopes place old new (t.Line first others) (parts first ++ operand_parts others) (placed_blocks_in db scopes first ++ placed_operand_blocks db scopes others) refl (sound db scopes place (t.Line first others) (record {
      fine = λ z. m.fine (subst (λ o. HasGreatProduct db scopes o others) h.typed z);
      named = λ z. z;
      kinds = λ z. elim z.1 [ inl d ↦ no_text db scopes place first left h.typed d | inr d ↦ m.numbers d ];
      right = rw arithmetic (both_right _ _ (value_is_wanted (is_condition first) h.is_value) m.values);
      members = λ z. z;
      function = refl;
      outer = λ z. z;
      grouped = λ columns z. z;
      argument = refl;
    })) (add_both db scopes place old mid new (parts first) (operand_parts others) (placed_blocks_in db scopes first) (placed_operand_blocks db scopes others) h.adds m.adds);
    bound = ap₂ b.Chain h.bound (m.are ∙ ap (λ n. bound_operands db scopes n others) (next_after db scopes place old mid first h.adds));
    typed = ap (λ o. chain_type db scopes o others) h.typed ∙ m.typed;
    fine = m.small;
    is_value = arithmetic;
  }

  line_here : (s : Progress) (first : Expr) (others : LineOperands) (r : Refusal) → PartFaulty db scopes place (t.Line first others) r → Refuses db scopes place (length s.blocks) (parts (t.Line first others)) (placed_blocks_in db scopes (t.Line first others)) r
  line_here s first others r h = fault_here db scopes place (length s.blocks) (t.Line first others) (parts first ++ operand_parts others) (placed_blocks_in db scopes first ++ placed_operand_blocks db scopes others) r h

  line_first : (s : Progress) (first : Expr) (others : LineOperands) (r : Refusal) → Refuses db scopes place (length s.blocks) (parts first) (placed_blocks_in db scopes first) r → Refuses db scopes place (length s.blocks) (parts (t.Line first others)) (placed_blocks_in db scopes (t.Line first others)) r
  line_first s first others r f =
      fault_behind db scopes place (length s.blocks) (t.Line first others) (parts first ++ operand_parts others) (placed_blocks_in db scopes first ++ placed_operand_blocks db scopes others) r
      (fault_left db scopes place (length s.blocks) (parts first) (operand_parts others) (placed_blocks_in db scopes first) (placed_operand_blocks db scopes others) r f)

  line_later : (old mid : Progress) (first : Expr) (others : LineOperands) (r : Refusal) → Adds db scopes place old mid (parts first) (placed_blocks_in db scopes first) → Refuses db scopes place (length mid.blocks) (operand_parts others) (placed_operand_blocks db scopes others) r
      → Refuses db scopes place (length old.blocks) (parts (t.Line first others)) (placed_blocks_in db scopes (t.Line first others)) r
  line_later old mid first others r h f =
      fault_behind db scopes place (length old.blocks) (t.Line first others) (parts first ++ operand_parts others) (placed_blocks_in db scopes first ++ placed_operand_blocks db scopes others) r
      (fault_right db scopes place (length old.blocks) (parts first) (operand_parts others) (placed_blocks_in db scopes first) (placed_operand_blocks db scopes others) r
      (subst (λ n. Refuses db scopes place n (operand_parts others) (placed_operand_blocks db scopes others) r) (blocks_after db scopes place old mid (parts first) (placed_blocks_in db scopes first) h) f))

  pub chain_first : (s : Progress) (first : Expr) (others : LineOperands) (r : Refusal) → is_logical others ≡ false → RefusesValue db scopes place s first r → RefusesValue db scopes place s (t.Line first others) r
  chain_first s first others r arithmetic (inl f) = inl (line_first s first others r f)
  chain_first s first others r arithmetic (inr (x, eq)) =
      subst (RefusesValue db scopes place s (t.Line first others)) (sym eq)
      (inl (line_here s first others MisplacedCondition (wrong_operand (is_wrong _ (rw arithmetic (first_wrong _ _ (condition_is_no_value (is_condition first) x)))))))

  pub chain_text : (old mid : Progress) (first : Expr) (others : LineOperands) (v : b.ValueExpr) → is_logical others ≡ false → BindsValue db scopes place old mid first v TextType → RefusesValue db scopes place old (t.Line first others) MixedKinds
  chain_text old mid first others v arithmetic h = inl (line_here old first others MixedKinds (mixed_kinds (is_wrong _ arithmetic, inl (TextType, h.typed, refl))))

  pub chain_operands : (old mid : Progress) (first : Expr) (others : LineOperands) (v : b.ValueExpr) (left : ℕ) (r : Refusal) → is_logical others ≡ false → BindsValue db scopes place old mid first v (NumberType left) → RefusesOperands mid left others r
      → RefusesValue db scopes place old (t.Line first others) r
  chain_operands old mid first others v left r arithmetic h (inl f) = inl (line_later old mid first others r h.adds f)
  chain_operands old mid first others v left r arithmetic h (inr (inl (d, eq))) =
      subst (RefusesValue db scopes place old (t.Line first others)) (sym eq) (inl (line_here old first others MixedKinds (mixed_kinds (is_wrong _ arithmetic, inr d))))
  chain_operands old mid first others v left r arithmetic h (inr (inr (inl (d, eq)))) =
      subst (RefusesValue db scopes place old (t.Line first others)) (sym eq) (inl (line_here old first others ScaleTooGreat (too_fine (subst (λ o. HasGreatProduct db scopes o others) (sym h.typed) d))))
  chain_operands old mid first others v left r arithmetic h (inr (inr (inr (x, eq)))) =
      subst (RefusesValue db scopes place old (t.Line first others)) (sym eq)
      (inl (line_here old first others MisplacedCondition (wrong_operand (is_wrong _ (rw arithmetic (later_wrong _ _ x))))))

  -- ---- AND and OR

  pub record BindsParts (old new : Progress) (rest : LineOperands) (out : List b.Condition) : Type 0 where
    pub adds : Adds db scopes place old new (operand_parts rest) (placed_operand_blocks db scopes rest)
    pub are : conditions out ≡ bound_parts db scopes (next_of old) rest
    pub right : operands_are true rest ≡ true
    pub untyped : (o : Option ValueType) → o ≡ None → chain_type db scopes o rest ≡ None
    pub fine : (o : Option ValueType) → o ≡ None → HasGreatProduct db scopes o rest → ⊥

  abbrev pub RefusesParts : Progress → LineOperands → Refusal → Type 0
  RefusesParts old rest r = Refuses db scopes place (length old.blocks) (operand_parts rest) (placed_operand_blocks db scopes rest) r ⊎ ((operands_are true rest ≡ false) × (r ≡ MisplacedCondition))

  no_parts : (s : Progress) → length s.blocks ≤ most_blocks → BindsParts s s NoOperand []
  no_parts s few = record { adds = add_none db scopes place s few; are = refl; right = refl; untyped = λ o e. e; fine = λ o e x. x }

  joined_none : (op : t.LineOperator) (o p : Option ValueType) → o ≡ None → p ≡ None → joined_type op o p ≡ None
  joined_none op o p h k = ap₂ (joined_type op) h k ∙ none op
    where
      none : (op : t.LineOperator) → joined_type op None None ≡ None
      none t.Or = refl
      none t.And = refl
      none t.Plus = refl
      none t.Minus = refl
      none t.Times = refl
      none t.Divided = refl

  not_great_none : (o : Option ValueType) → o ≡ None → IsGreat db scopes o → ⊥
  not_great_none None e x = x
  not_great_none (Some type) e x = absurd cc

  next_part : (old mid new : Progress) (op : t.LineOperator) (e : Expr) (c : b.Condition) (rest : LineOperands) (out : List b.Condition) → BindsCondition db scopes place old mid e c → BindsParts mid new rest out → BindsParts old new (Operand op e rest) (c ∷ out)
  next_part old mid new op e c rest out h m = record {
    adds = add_both db scopes place old mid new (parts e) (operand_parts rest) (placed_blocks_in db scopes e) (placed_operand_blocks db scopes rest) h.adds m.adds;
    are = ap₂ b.Part h.bound (m.are ∙ ap (λ n. bound_parts db scopes n rest) (next_after db scopes place old mid e h.adds));
    right = both_right _ _ (ap (same true) h.is_condition) m.right;
    untyped = λ o n. m.untyped (joined_type op o (expr_type db scopes e)) (joined_none op o (expr_type db scopes e) n h.untyped);
    fine = λ o n x. elim x [ inl d ↦ not_great_none (joined_type op o (expr_type db scopes e)) (joined_none op o (expr_type db scopes e) n h.untyped) d | inr d ↦ m.fine (joined_type op o (expr_type db scopes e)) (joined_none op o (expr_type db scopes e) n h.untyped) d ];
  }

  part_condition : (s : Progress) (op : t.LineOperator) (e : Expr) (rest : LineOperands) (r : Refusal) → RefusesCondition db scopes place s e r → RefusesParts s (Operand op e rest) r
  part_condition s op e rest r (inl f) = inl (fault_left db scopes place (length s.blocks) (parts e) (operand_parts rest) (placed_blocks_in db scopes e) (placed_operand_blocks db scopes rest) r f)
  part_condition s op e rest r (inr (x, eq)) = inr (first_wrong _ _ (ap (same true) x), eq)

  later_part : (old mid : Progress) (op : t.LineOperator) (e : Expr) (c : b.Condition) (rest : LineOperands) (r : Refusal) → BindsCondition db scopes place old mid e c → RefusesParts mid rest r → RefusesParts old (Operand op e rest) r
  later_part old mid op e c rest r h (inl f) =
      inl (fault_right db scopes place (length old.blocks) (parts e) (operand_parts rest) (placed_blocks_in db scopes e) (placed_operand_blocks db scopes rest) r
      (subst (λ n. Refuses db scopes place n (operand_parts rest) (placed_operand_blocks db scopes rest) r) (blocks_after db scopes place old mid (parts e) (placed_blocks_in db scopes e) h.adds) f))
  later_part old mid op e c rest r h (inr (x, eq)) = inr (later_wrong _ _ x, eq)

  -- parts of which some are left
  pub record PartsLeft (old : Progress) (all : LineOperands) (now : Progress) (done : List b.Condition) (rest : LineOperands) : Type 0 where
    pub few : length now.blocks ≤ most_blocks
    pub binds : (new : Progress) (out : List b.Condition) → BindsParts now new rest out → BindsParts old new all (done ++ out)
    pub refuses : (r : Refusal) → RefusesParts now rest r → RefusesParts old all r

  pub begin_parts : (s : Progress) (all : LineOperands) → length s.blocks ≤ most_blocks → PartsLeft s all s [] all
  begin_parts s all few = record { few = few; binds = λ new out h. h; refuses = λ r f. f }

  pub past_part : (old : Progress) (all : LineOperands) (now next : Progress) (done : List b.Condition) (op : t.LineOperator) (e : Expr) (c : b.Condition) (rest : LineOperands) → PartsLeft old all now done (Operand op e rest)
      → BindsCondition db scopes place now next e c → length next.blocks ≤ most_blocks → PartsLeft old all next (done ++ c ∷ []) rest
  past_part old all now next done op e c rest h b few = record {
    few = few;
    binds = λ new out m. subst (BindsParts old new all) (sym (append_assoc done (c ∷ []) out)) (h.binds new (c ∷ out) (next_part now next new op e c rest out b m));
    refuses = λ r f. h.refuses r (later_part now next op e c rest r b f);
  }

  pub fault_at_part : (old : Progress) (all : LineOperands) (now : Progress) (done : List b.Condition) (op : t.LineOperator) (e : Expr) (rest : LineOperands) (r : Refusal) → PartsLeft old all now done (Operand op e rest)
      → RefusesCondition db scopes place now e r → RefusesParts old all r
  fault_at_part old all now done op e rest r h f = h.refuses r (part_condition now op e rest r f)

  pub end_parts : (old : Progress) (all : LineOperands) (now : Progress) (done : List b.Condition) → PartsLeft old all now done NoOperand → BindsParts old now all done
  end_parts old all now done h = subst (BindsParts old now all) (nothing_more done) (h.binds now [] (no_parts now h.few))

  condition_is_right : (x : Bool) → x ≡ true → same true x ≡ true
  condition_is_right x h = h

  pub binds_logical : (old mid new : Progress) (first : Expr) (others : LineOperands) (c : b.Condition) (out : List b.Condition) → is_logical others ≡ true → BindsCondition db scopes place old mid first c → BindsParts mid new others out
      → BindsCondition db scopes place old new (t.Line first others) (connected others (b.Part c (conditions out)))
  binds_logical old mid new first others c out logical h m = record {
    adds = add_node db scopes place old new (t.Line first others) (parts first ++ operand_parts others) (placed_blocks_in db scopes first ++ placed_operand_blocks db scopes others) refl (sound db scopes place (t.Line first others) (record {
      fine = m.fine (expr_type db scopes first) h.untyped;
      named = λ z. z;
      kinds = λ z. differs' (is_logical others) logical z.0;
      right = rw logical (both_right _ _ h.is_condition m.right);
      members = λ z. z;
      function = refl;
      outer = λ z. z;
      grouped = λ columns z. z;
      argument = refl;
    })) (add_both db scopes place old mid new (parts first) (operand_parts others) (placed_blocks_in db scopes first) (placed_operand_blocks db scopes others) h.adds m.adds);
    bound = ap (connected others) (ap₂ b.Part h.bound (m.are ∙ ap (λ n. bound_parts db scopes n others) (next_after db scopes place old mid first h.adds)));
    untyped = m.untyped (expr_type db scopes first) h.untyped;
    is_condition = logical;
  }
    where
      differs' : (x : Bool) → x ≡ true → IsFalse x → ⊥
      differs' true h k = absurd cc
      differs' false h k = absurd cc

  pub logical_first : (s : Progress) (first : Expr) (others : LineOperands) (r : Refusal) → is_logical others ≡ true → RefusesCondition db scopes place s first r → RefusesCondition db scopes place s (t.Line first others) r
  logical_first s first others r logical (inl f) = inl (line_first s first others r f)
  logical_first s first others r logical (inr (x, eq)) =
      subst (RefusesCondition db scopes place s (t.Line first others)) (sym eq)
      (inl (line_here s first others MisplacedCondition (wrong_operand (is_wrong _ (rw logical (first_wrong _ _ x))))))

  pub logical_parts : (old mid : Progress) (first : Expr) (others : LineOperands) (c : b.Condition) (r : Refusal) → is_logical others ≡ true → BindsCondition db scopes place old mid first c → RefusesParts mid others r
      → RefusesCondition db scopes place old (t.Line first others) r
  logical_parts old mid first others c r logical h (inl f) = inl (line_later old mid first others r h.adds f)
  logical_parts old mid first others c r logical h (inr (x, eq)) =
      subst (RefusesCondition db scopes place old (t.Line first others)) (sym eq)
      (inl (line_here old first others MisplacedCondition (wrong_operand (is_wrong _ (rw logical (later_wrong _ _ x))))))
