-- What is bound of a value without a fault is formed: the columns, set functions and blocks that it names by number are there, of the types that are told.
use Rattle.std.proofs.Common.{◌≡◌, ◌∙◌, refl, sym, ap, subst, ℕ, zero, suc, ◌+◌, ◌<◌, ◌≤◌, true, false, List, [], ◌∷◌, ◌++◌, Some, length, map, filter, arith}
use Rattle.std.specs.Prelude.{⊤, ◌&&◌, IsTrue, slice_get, unwrap_or, option_map}
use Rattle.std.specs.List.{AllByRecursion}
use Rattle.std.proofs.lemmas.Option.{slice_get-map}
use Rattle.definitions.specs.Limits.{greatest_scale}
use Rattle.definitions.specs.Table.{Database}
use Rattle.definitions.specs.Statement as t
use Rattle.definitions.specs.Statement.{Expr, LineOperands, Source}
use Rattle.definitions.specs.Binding.Scopes.{Scopes, Found, Resolution, NotThere, Ambiguous, Named, scope_of, are_there, resolve}
use Rattle.definitions.specs.Binding.Types.{function_type, expr_type}
use Rattle.definitions.specs.Binding.Parts.{PlacedBlock, is_function, parts, operand_parts, placed_blocks_in, placed_operand_blocks, block_blocks}
use Rattle.definitions.specs.Binding.BoundForm.{Next, known_type, bound_column, after, bound_value, bound_operands, bound_function, select_items, bound_block}
use Rattle.definitions.specs.Binding.Faults.{is_condition, same, operands_are, IsNoColumn, list_of}
use Rattle.definitions.specs.Binding.Formed.{HasColumn, kind_type, only_type, column_type, IsFormedValue, AreFormedOperands}
use Rattle.definitions.specs.Queries.BoundBlock as b
use Rattle.definitions.specs.Queries.BoundBlock.{ValueExpr, Block, Blocks, Aggregate}
use Rattle.definitions.specs.Queries.Conjuncts as q
use Rattle.definitions.proofs.BindingTheory.ListFacts.{both, negated, split, joined, filter_both, Numbered, Later, numbered_both}
use Rattle.definitions.proofs.BindingTheory.FoundColumns.{HasColumnIn, numbers, IsFound, resolved_in}
use Rattle.definitions.proofs.BindingTheory.SoundBlocks.{IsSoundPart, IsGood}
use Rattle.definitions.proofs.BindingTheory.ExprTypes.{IsClean, IsTypedQuery, function_types, argument_is_clean, typed, typed_query}

-- bound blocks have the tables of some FROMs, one each
abbrev pub AreAround : Database → Blocks → List (List Source) → Type 0
AreAround db [] [] = ⊤
AreAround db (x ∷ xs) (sources ∷ froms) = (x.tables ≡ numbers (scope_of db sources)) × AreAround db xs froms
AreAround db _ _ = ⊥

-- where an expression stands: in the block of a number among all blocks of a query, with those around it; and these bound. The set
-- functions are those of the block
pub record Setting : Type 0 where
  pub db : Database
  pub all : List PlacedBlock
  pub blocks : Blocks
  pub around : Blocks
  pub number : ℕ
  pub block : Block
  pub froms : List (List Source)
  pub functions : List Expr
  pub bound : (k : ℕ) (p : PlacedBlock) → Later all number k p → slice_get blocks k ≡ Some (bound_block db k p.outer p.block [])
  pub tables : AreAround db (block ∷ around) froms
  pub set_functions : block.functions ≡ map (bound_function db (map (scope_of db) froms)) functions

abbrev pub scopes_in : Setting → Scopes
scopes_in s = map (scope_of s.db) s.froms

-- a function of a number
abbrev pub IsAt : List Expr → ℕ → Expr → Type 0
IsAt functions k e = slice_get functions k ≡ Some e

-- a number of an inner block, behind that of the block itself
pub record IsInner (s : Setting) (k : ℕ) : Type 0 where
  pub later : s.number < k
  pub query : t.QuerySpecification
  pub numbered : Numbered (Later s.all s.number) k (block_blocks s.db (scopes_in s) query)

pub record IsFormed (s : Setting) (v : ValueExpr) : Type 0 where
  pub formed : IsFormedValue s.db s.blocks s.around s.number s.block v
  pub inner : AllByRecursion (IsInner s) (q.blocks_in v)

pub record AreAllFormed (s : Setting) (others : b.Operands) : Type 0 where
  pub formed : AreFormedOperands s.db s.blocks s.around s.number s.block others
  pub inner : AllByRecursion (IsInner s) (q.operand_blocks others)

-- ---- columns

abbrev IsBlockOf : Database → Blocks → ℕ → List Source → Block → Type 0
IsBlockOf db xs level sources x = (slice_get xs level ≡ Some x) × (x.tables ≡ numbers (scope_of db sources))

block_of : (db : Database) (xs : Blocks) (froms : List (List Source)) (level : ℕ) (sources : List Source) → AreAround db xs froms → slice_get froms level ≡ Some sources → (x : Block) × IsBlockOf db xs level sources x
block_of db [] [] level sources h e = absurd cc
block_of db [] (f ∷ froms) level sources h e = absurd h
block_of db (x ∷ xs) [] level sources h e = absurd h
block_of db (x ∷ xs) (f ∷ froms) zero sources h e = let same : f ≡ sources = ap (λ o. unwrap_or o f) e in (x, (refl, h.0 ∙ ap (λ l. numbers (scope_of db l)) same))
block_of db (x ∷ xs) (f ∷ froms) (suc level) sources h e = block_of db xs froms level sources h.1 e

same_block : (x y : Block) → Some x ≡ Some y → x ≡ y
same_block x y e = ap (λ o. unwrap_or o x) e

pub found_formed : (s : Setting) (level : ℕ) (f : Found) → IsFound s.db s.froms level f → IsFormed s (bound_column (Named level f))
found_formed s zero f h =
    let x = block_of s.db (s.block ∷ s.around) s.froms zero h.sources s.tables h.place in
    let has : HasColumn s.db x.0 f.column f.type = subst (λ ts. HasColumnIn s.db ts f.column f.type) (sym x.1.1) h.has in
    record { formed = subst (λ y. HasColumn s.db y f.column f.type) (sym (same_block s.block x.0 x.1.0)) has; inner = tt }
found_formed s (suc level) f h =
    let x = block_of s.db (s.block ∷ s.around) s.froms (suc level) h.sources s.tables h.place in
    let has : HasColumn s.db x.0 f.column f.type = subst (λ ts. HasColumnIn s.db ts f.column f.type) (sym x.1.1) h.has in
    record { formed = (x.0, x.1.0, has); inner = tt }

column_formed : (s : Setting) (reference : t.ColumnReference) (r : Resolution) → resolve (scopes_in s) reference ≡ r → (IsNoColumn s.db (scopes_in s) r → ⊥) → IsFormed s (bound_column r)
column_formed s reference NotThere e h = absurd (h tt)
column_formed s reference Ambiguous e h = absurd (h tt)
column_formed s reference (Named level f) e h = found_formed s level f (resolved_in s.db s.froms reference level f e)

-- ---- subqueries

first_block : (db : Database) (scopes : Scopes) (query : t.QuerySpecification) (S : ℕ → PlacedBlock → Type 0) (k : ℕ) → Numbered S k (block_blocks db scopes query) → S k (record { outer = scopes; block = query })
first_block db scopes (t.Specification d list sources w g h) S k n = n.0

items_of : (db : Database) (scopes : Scopes) (query : t.QuerySpecification) (k : ℕ) → (bound_block db k scopes query []).items ≡ select_items db (scope_of db (t.block_sources query) ∷ scopes) (record { block = k + 1; function = 0 }) (list_of query)
items_of db scopes (t.Specification d list sources w g h) k = refl

type_at : (blocks : Blocks) (k : ℕ) (x : Block) → slice_get blocks k ≡ Some x → column_type blocks k ≡ only_type x.items
type_at [] k x e = absurd cc
type_at (y ∷ ys) zero x e = ap (λ (z : Block). only_type z.items) (same_block y x e)
type_at (y ∷ ys) (suc k) x e = type_at ys k x e

pub inner_block : (s : Setting) (query : t.QuerySpecification) (k : ℕ) → Numbered (Later s.all s.number) k (block_blocks s.db (scopes_in s) query) → IsInner s k
inner_block s query k h = record { later = (first_block s.db (scopes_in s) query (Later s.all s.number) k h).0; query = query; numbered = h }

-- the type of the only column of an inner block
pub query_is_typed : (s : Setting) (query : t.QuerySpecification) (k : ℕ) (known : IsTypedQuery s.db (scopes_in s) query) → Numbered (Later s.all s.number) k (block_blocks s.db (scopes_in s) query) → column_type s.blocks k ≡ Some known.type
query_is_typed s query k known h =
    type_at s.blocks k _ (s.bound k (record { outer = scopes_in s; block = query }) (first_block s.db (scopes_in s) query (Later s.all s.number) k h))
    ∙ ap only_type (items_of s.db (scopes_in s) query k) ∙ known.bound (record { block = k + 1; function = 0 })

-- ---- set functions

function_there : (s : Setting) (k : ℕ) (e : Expr) → IsAt s.functions k e → slice_get s.block.functions k ≡ Some (bound_function s.db (scopes_in s) e)
function_there s k e h = ap (λ (xs : List Aggregate). slice_get xs k) s.set_functions ∙ slice_get-map (bound_function s.db (scopes_in s)) s.functions k ∙ ap (option_map (bound_function s.db (scopes_in s))) h

-- ---- values

few : (k : ℕ) → (greatest_scale < k → ⊥) → k ≤ 18
few k g = omega (arith, g)

module _ (s : Setting) where
  abbrev pub AreNumbered : ℕ → List PlacedBlock → Type 0
  AreNumbered k bs = Numbered (Later s.all s.number) k bs

  abbrev pub FunctionsAt : ℕ → List Expr → Type 0
  FunctionsAt k ps = Numbered (IsAt s.functions) k (filter is_function ps)

  pub functions_both : (k : ℕ) (ps rs : List Expr) → FunctionsAt k (ps ++ rs) → FunctionsAt k ps × FunctionsAt (k + length (filter is_function ps)) rs
  functions_both k ps rs h = numbered_both (IsAt s.functions) k (filter is_function ps) (filter is_function rs) (subst (Numbered (IsAt s.functions) k) (filter_both is_function ps rs) h)

  mutual
    pub formed : (next : Next) (e : Expr) → IsClean s.db (scopes_in s) e → is_condition e ≡ false → AreNumbered next.block (placed_blocks_in s.db (scopes_in s) e) → FunctionsAt next.function (parts e) → IsFormed s (bound_value s.db (scopes_in s) next e)
    formed next (t.Column reference) h c bs fs = column_formed s reference (resolve (scopes_in s) reference) refl h.parts.0.itself.named
    formed next (t.Numeral units digits scale) h c bs fs = record { formed = (h.parts.0.itself.written.0, h.parts.0.itself.written.1, few scale h.parts.0.itself.fine); inner = tt }
    formed next (t.String codes) h c bs fs = record { formed = h.parts.0.itself.written; inner = tt }
    formed next (t.Signed minus e) h c bs fs =
        let v = formed next e (record { there = h.there; parts = h.parts.1; inner = h.inner }) (negated (is_condition e) h.parts.0.itself.right) bs fs in
        record { formed = v.formed; inner = v.inner }
    formed next (t.Line first others) h c bs fs =
        let right = both (same false (is_condition first)) (operands_are false others) (subst (λ l. same l (is_condition first) && operands_are l others ≡ true) c h.parts.0.itself.right) in
        let ps = split (IsSoundPart s.db (scopes_in s)) (parts first) (operand_parts others) h.parts.1 in
        let gs = split (IsGood s.db) (placed_blocks_in s.db (scopes_in s) first) (placed_operand_blocks s.db (scopes_in s) others) h.inner in
        let ns = numbered_both (Later s.all s.number) next.block (placed_blocks_in s.db (scopes_in s) first) (placed_operand_blocks s.db (scopes_in s) others) bs in
        let ks = functions_both next.function (parts first) (operand_parts others) fs in
        let v = formed next first (record { there = h.there; parts = ps.0; inner = gs.0 }) (negated (is_condition first) right.0) ns.0 ks.0 in
        let o = formed_operands (after s.db (scopes_in s) first next) others h.there ps.1 gs.1 right.1 ns.1 ks.1 in
        record { formed = (v.formed, o.formed); inner = joined (IsInner s) (q.blocks_in (bound_value s.db (scopes_in s) next first)) (q.operand_blocks (bound_operands s.db (scopes_in s) (after s.db (scopes_in s) first next) others)) v.inner o.inner }
    formed next (t.Scalar query) h c bs fs =
        let known = typed_query s.db (scopes_in s) query h.there h.inner h.parts.0.itself.kinds in
        let inner = inner_block s query next.block bs in
        record { formed = (inner.later, query_is_typed s query next.block known bs ∙ ap Some (sym (ap known_type known.typed))); inner = (inner, tt) }
    formed next t.CountRows h c bs fs = record { formed = (b.CountRows, function_there s next.function t.CountRows fs.0, refl); inner = tt }
    formed next (t.Function f d argument) h c bs fs =
        let a = typed s.db (scopes_in s) argument (argument_is_clean s.db (scopes_in s) f d argument h) (negated (is_condition argument) h.parts.0.itself.right) in
        let k = function_types s.db (scopes_in s) f a.type (λ w is. h.parts.0.itself.kinds (w, (a.type, a.typed, is))) in
        let known : function_type f (expr_type s.db (scopes_in s) argument) ≡ Some k.0 = ap (function_type f) a.typed ∙ k.1.0 in
        let zeros : Next = record { block = 0; function = 0 } in
        record {
          formed = (
            b.OfValues f d (bound_value s.db (scopes_in s) zeros argument),
            function_there s next.function (t.Function f d argument) fs.0,
            ap (kind_type f) (a.bound zeros) ∙ k.1.1 ∙ ap Some (sym (ap known_type known)),
          );
          inner = tt;
        }
    formed next (t.Not e) h c bs fs = absurd cc
    formed next (t.Compare op left right) h c bs fs = absurd cc
    formed next (t.CompareAll op quantifier left query) h c bs fs = absurd cc
    formed next (t.IsNull n e) h c bs fs = absurd cc
    formed next (t.Between n e low high) h c bs fs = absurd cc
    formed next (t.Like n e pattern) h c bs fs = absurd cc
    formed next (t.InList n e members) h c bs fs = absurd cc
    formed next (t.InQuery n e query) h c bs fs = absurd cc
    formed next (t.Exists query) h c bs fs = absurd cc

    pub formed_operands : (next : Next) (others : LineOperands) → IsTrue (are_there (scopes_in s)) → AllByRecursion (IsSoundPart s.db (scopes_in s)) (operand_parts others) → AllByRecursion (IsGood s.db) (placed_operand_blocks s.db (scopes_in s) others)
        → operands_are false others ≡ true → AreNumbered next.block (placed_operand_blocks s.db (scopes_in s) others) → FunctionsAt next.function (operand_parts others) → AreAllFormed s (bound_operands s.db (scopes_in s) next others)
    formed_operands next t.NoOperand there p i v bs fs = record { formed = tt; inner = tt }
    formed_operands next (t.Operand o e others) there p i v bs fs =
        let right = both (same false (is_condition e)) (operands_are false others) v in
        let ps = split (IsSoundPart s.db (scopes_in s)) (parts e) (operand_parts others) p in
        let gs = split (IsGood s.db) (placed_blocks_in s.db (scopes_in s) e) (placed_operand_blocks s.db (scopes_in s) others) i in
        let ns = numbered_both (Later s.all s.number) next.block (placed_blocks_in s.db (scopes_in s) e) (placed_operand_blocks s.db (scopes_in s) others) bs in
        let ks = functions_both next.function (parts e) (operand_parts others) fs in
        let x = formed next e (record { there = there; parts = ps.0; inner = gs.0 }) (negated (is_condition e) right.0) ns.0 ks.0 in
        let y = formed_operands (after s.db (scopes_in s) e next) others there ps.1 gs.1 right.1 ns.1 ks.1 in
        record { formed = (x.formed, y.formed); inner = joined (IsInner s) (q.blocks_in (bound_value s.db (scopes_in s) next e)) (q.operand_blocks (bound_operands s.db (scopes_in s) (after s.db (scopes_in s) e next) others)) x.inner y.inner }
