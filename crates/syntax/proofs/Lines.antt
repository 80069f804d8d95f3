-- Lines, operand by operand.
use Rattle.std.proofs.Common.{◌≡◌, ◌∙◌, refl, sym, ap, subst, ℕ, zero, suc, ◌-◌, ◌<◌, ◌≤◌, length, map, List, [], ◌∷◌, ◌++◌, Some, None, Result, Ok, Err, Bool, true, false, ◌==◌, arith}
use Rattle.std.proofs.Common.{Vec, Global}
use Rattle.std.proofs.lemmas.Bool.Decides.{nat_tests}
use Rattle.parse_tree.specs.declared.expr.Operand.{Operand}
use Rattle.std.specs.Prelude.{slice_get}
use Rattle.definitions.specs.Token.{TokenKind}
use Rattle.definitions.specs.Rule.{Rule, Gives, Then}
use Rattle.definitions.specs.Grammar as g
use Rattle.definitions.specs.Grammar.{LineKind, LineOf, operator_in, operator_line, operands}
use Rattle.definitions.specs.Statement as s
use Rattle.definitions.specs.Statement.{Expr, LineOperator}
use Rattle.parse_tree.specs.Trees.{operand_of}
use Rattle.definitions.proofs.Alike.{Alike, then_alike, gives_alike}
use Rattle.definitions.proofs.Grammar.{within_alike, conjunction_alike, negation_alike, product_alike, sign_alike}
use Rattle.syntax_cursor.specs.declared.stop.ParseStop.{ParseStop}
use Rattle.syntax_cursor.specs.Reading.{Place, IsNext, Outcome}
use Rattle.syntax.specs.Reading.{LineAt, OperandAt}
use Rattle.syntax_cursor.specs.Reading as r
use Rattle.syntax_cursor.proofs.Outcomes.{then_on, then_fails}
use Rattle.syntax_cursor.proofs.Lists.{Joined, joined, joined_fails, joined_ends, mapped}

-- how loose a line is
abbrev pub rank : LineKind → ℕ
rank g.Product = 6
rank g.Sum = 8
rank g.Conjunction = 17
rank g.Disjunction = 19

pub operand_alike : (kind : LineKind) (n m : ℕ) → Alike (OperandAt kind n) (OperandAt kind m)
operand_alike g.Disjunction n m = conjunction_alike (within_alike n m)
operand_alike g.Conjunction n m = negation_alike (within_alike n m)
operand_alike g.Sum n m = product_alike (within_alike n m)
operand_alike g.Product n m = sign_alike (within_alike n m)

pub is_line : {levels least : ℕ} {p q : Place} {o : Result Expr ParseStop} (kind : LineKind) → Outcome (λ m. LineOf kind (OperandAt kind m)) levels least p q o → Outcome (LineAt kind) levels least p q o
unfolding g.ExprOf g.ConjunctionOf g.SumOf g.ProductOf
is_line g.Disjunction out = out
is_line g.Conjunction out = out
is_line g.Sum out = out
is_line g.Product out = out

-- an operator and its operand
abbrev pub Joint : LineKind → ℕ → LineOperator → Rule (LineOperator × Expr)
Joint kind m operator = Then (OperandAt kind m) (λ e. Gives (operator, e))

joint_alike : (kind : LineKind) (n m : ℕ) (operator : LineOperator) → Alike (Joint kind n operator) (Joint kind m operator)
joint_alike kind n m operator = then_alike (operand_alike kind n m) (λ e. gives_alike _)

-- the operands so far, and behind them whatever the rest comes to
abbrev pub Lines : LineKind → (levels least : ℕ) → (p q : Place) → Expr → List (LineOperator × Expr) → Type 0
Lines kind levels least p q first others = Joined (operator_in kind) (Joint kind) (λ m. LineOf kind (OperandAt kind m)) levels least p q (λ ys. operator_line first (operands ys)) others

module _ (kind : LineKind) (levels least : ℕ) where
  pub line_begins : (p q : Place) (x : Expr) (k : ℕ) → Outcome (OperandAt kind) levels k p q (Ok x) → Lines kind levels least p q x []
  line_begins p q x k d t o rest = then_on (λ m. operand_alike kind levels m) d (mapped (λ ys. operator_line x (operands ys)) o rest)

  pub line_goes_on : (p q q' t : Place) (x : Expr) (xs : List (LineOperator × Expr)) (operator : LineOperator) (e : Expr) (k : ℕ) → Lines kind levels least p q x xs → (operator_in kind (slice_get q.tokens q.at) ≡ Some operator) × IsNext q q'
      → Outcome (OperandAt kind) levels k q' t (Ok e) → Lines kind levels least p t x (xs ++ (operator, e) ∷ [])
  line_goes_on p q q' t x xs operator e k inv at d = joined (operator_in kind) (Joint kind) (λ m. LineOf kind (OperandAt kind m)) levels least (λ m op. joint_alike kind levels m op) p q q' t (λ ys. operator_line x (operands ys)) xs operator (operator, e) k inv at (mapped (λ y. (operator, y)) (Ok e) d)

  pub line_fails : (p q q' t : Place) (x : Expr) (xs : List (LineOperator × Expr)) (operator : LineOperator) (stop : ParseStop) → Lines kind levels least p q x xs → (operator_in kind (slice_get q.tokens q.at) ≡ Some operator) × IsNext q q'
      → Outcome (OperandAt kind) levels least q' t (Err stop) → Outcome (LineAt kind) levels least p t (Err stop)
  line_fails p q q' t x xs operator stop inv at d = is_line kind (joined_fails (operator_in kind) (Joint kind) (λ m. LineOf kind (OperandAt kind m)) levels least p q q' t (λ ys. operator_line x (operands ys)) xs operator stop inv at (then_fails d))

  pub line_ends : (p q t : Place) (x : Expr) (xs : List (LineOperator × Expr)) → Lines kind levels least p q x xs → (operator_in kind (slice_get q.tokens q.at) ≡ None) × (t ≡ q) → Outcome (LineAt kind) levels least p t (Ok (operator_line x (operands xs)))
  line_ends p q t x xs inv at = is_line kind (subst (λ z. Outcome (λ m. LineOf kind (OperandAt kind m)) levels least p z (Ok (operator_line x (operands xs)))) (sym at.1) (joined_ends (operator_in kind) (Joint kind) (λ m. LineOf kind (OperandAt kind m)) levels least p q (λ ys. operator_line x (operands ys)) xs inv at.0))

  -- fewer tokens are left behind an operand than before its operator
  pub fewer : (q q' t : Place) (operator : LineOperator) (e : Expr) (k : ℕ) → (operator_in kind (slice_get q.tokens q.at) ≡ Some operator) × IsNext q q' → Outcome (OperandAt kind) levels k q' t (Ok e) → length t.tokens - t.at < length q.tokens - q.at
  fewer q q' t operator e k at (r.read y f d) =
      let l : q.at < length q.tokens = there kind q.tokens q.at operator at.0 in
      let m : q'.at ≤ t.at = (operand_alike kind levels levels).rises q'.tokens q'.at t.at e d in
      let n : length t.tokens ≡ length q.tokens = ap length (f ∙ at.1.tokens) in
      omega (arith, l, m, n, at.1.at)
    where
      there : (kind : LineKind) (ts : List TokenKind) (i : ℕ) (operator : LineOperator) → operator_in kind (slice_get ts i) ≡ Some operator → i < length ts
      there kind [] i operator h = absurd (nothing kind operator h)
        where
          nothing : (kind : LineKind) (operator : LineOperator) → operator_in kind None ≡ Some operator → ⊥
          nothing g.Disjunction operator h = cc
          nothing g.Conjunction operator h = cc
          nothing g.Sum operator h = cc
          nothing g.Product operator h = cc
      there kind (x ∷ xs) zero operator h = omega arith
      there kind (x ∷ xs) (suc i) operator h = omega (arith, there kind xs i operator h)

-- ---- one operand alone is no line

no_length : {A : Type 0} (xs : List A) → length xs ≡ 0 → xs ≡ []
no_length [] h = refl
no_length (x ∷ xs) h = absurd (omega (arith, h))

is_zero : (n : ℕ) (b : Bool) → b ≡ (n == 0) → b ≡ true → n ≡ 0
is_zero n b e h = grind (arith, nat_tests, e, h)

pub no_operand : (v : Vec Operand Global) (b : Bool) → b ≡ (v.len == 0) → b ≡ true → v.items ≡ []
no_operand v b e h = no_length v.items (sym v.ok.0 ∙ is_zero v.len b e h)

pub alone : (x : Expr) (v : Vec Operand Global) (b : Bool) → b ≡ (v.len == 0) → b ≡ true → operator_line x (operands (map operand_of v.items)) ≡ x
alone x v b e h = ap (λ xs. operator_line x (operands (map operand_of xs))) (no_operand v b e h)

pub several : (x : Expr) (v : Vec Operand Global) (b : Bool) → b ≡ (v.len == 0) → b ≡ false → operator_line x (operands (map operand_of v.items)) ≡ s.Line x (operands (map operand_of v.items))
several x v b e h = some v.items (λ z. is_some v.len b e h (v.ok.0 ∙ z))
  where
    is_some : (n : ℕ) (b : Bool) → b ≡ (n == 0) → b ≡ false → n ≡ 0 → ⊥
    is_some n b e h z = grind (arith, nat_tests, e, h, z)

    some : (xs : List Operand) → (length xs ≡ 0 → ⊥) → operator_line x (operands (map operand_of xs)) ≡ s.Line x (operands (map operand_of xs))
    some [] n = absurd (n refl)
    some (y ∷ ys) n = refl
