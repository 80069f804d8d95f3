-- What is so of the blocks of each query inside a block is so of all blocks inside it.
use Rattle.std.proofs.Common.{◌≡◌, subst, ℕ, suc, ◌+◌, List, [], ◌∷◌, ◌++◌, length, arith}
use Rattle.definitions.specs.Table.{Database}
use Rattle.definitions.specs.Statement as t
use Rattle.definitions.specs.Statement.{Expr, LineOperands, Members}
use Rattle.definitions.specs.Binding.Scopes.{Scopes}
use Rattle.definitions.specs.Binding.Parts.{PlacedBlock, placed_blocks_in, placed_operand_blocks, member_blocks, condition_blocks, block_blocks}
use Rattle.definitions.proofs.BindingTheory.ListFacts.{Numbered, Later, numbered_both, numbered_later, numbered_none}
use Rattle.definitions.proofs.BindingTheory.FormedBlocks.{Place, scopes_of, in_list, in_where, in_having, none_in_list, none_in_having}

numbered_joined : {X : Type 0} (S : ℕ → X → Type 0) (k : ℕ) (xs ys : List X) → Numbered S k xs → Numbered S (k + length xs) ys → Numbered S k (xs ++ ys)
numbered_joined S k [] ys h i = let e : k + 0 ≡ k = omega arith in subst (λ n. Numbered S n ys) e i
numbered_joined S k (x ∷ xs) ys h i =
    (h.0, numbered_joined S (k + 1) xs ys h.1 (let e : k + suc (length xs) ≡ k + 1 + length xs = omega arith in subst (λ n. Numbered S n ys) e i))

module _ (db : Database) (scopes : Scopes) (R S : ℕ → PlacedBlock → Type 0)
    (of_query : (k : ℕ) (query : t.QuerySpecification) → Numbered R k (block_blocks db scopes query) → Numbered S k (block_blocks db scopes query)) where
  both_too : (k : ℕ) (xs ys : List PlacedBlock) → ((j : ℕ) → Numbered R j xs → Numbered S j xs) → ((j : ℕ) → Numbered R j ys → Numbered S j ys)
      → Numbered R k (xs ++ ys) → Numbered S k (xs ++ ys)
  both_too k xs ys f g h = let n = numbered_both R k xs ys h in numbered_joined S k xs ys (f k n.0) (g (k + length xs) n.1)

  query_too : (query : t.QuerySpecification) (k : ℕ) → Numbered R k (block_blocks db scopes query) → Numbered S k (block_blocks db scopes query)
  query_too query k h = of_query k query h

  mutual
    in_expr : (e : Expr) (k : ℕ) → Numbered R k (placed_blocks_in db scopes e) → Numbered S k (placed_blocks_in db scopes e)
    in_expr (t.Signed minus e) k h = in_expr e k h
    in_expr (t.Line first others) k h = both_too k (placed_blocks_in db scopes first) (placed_operand_blocks db scopes others) (in_expr first) (in_operands others) h
    in_expr (t.Not e) k h = in_expr e k h
    in_expr (t.Compare op left right) k h = both_too k (placed_blocks_in db scopes left) (placed_blocks_in db scopes right) (in_expr left) (in_expr right) h
    in_expr (t.CompareAll op quantifier e query) k h = both_too k (placed_blocks_in db scopes e) (block_blocks db scopes query) (in_expr e) (query_too query) h
    in_expr (t.IsNull negated e) k h = in_expr e k h
    in_expr (t.Between negated e low high) k h =
        both_too k (placed_blocks_in db scopes e ++ placed_blocks_in db scopes low) (placed_blocks_in db scopes high)
        (λ j i. both_too j (placed_blocks_in db scopes e) (placed_blocks_in db scopes low) (in_expr e) (in_expr low) i) (in_expr high) h
    in_expr (t.Like negated e pattern) k h = in_expr e k h
    in_expr (t.InList negated e members) k h = both_too k (placed_blocks_in db scopes e) (member_blocks db scopes members) (in_expr e) (in_members members) h
    in_expr (t.InQuery negated e query) k h = both_too k (placed_blocks_in db scopes e) (block_blocks db scopes query) (in_expr e) (query_too query) h
    in_expr (t.Exists query) k h = of_query k query h
    in_expr (t.Scalar query) k h = of_query k query h
    in_expr (t.Function function distinct argument) k h = in_expr argument k h
    in_expr t.CountRows k h = tt
    in_expr (t.Column reference) k h = tt
    in_expr (t.Numeral units digits scale) k h = tt
    in_expr (t.String codes) k h = tt

    in_operands : (others : LineOperands) (k : ℕ) → Numbered R k (placed_operand_blocks db scopes others) → Numbered S k (placed_operand_blocks db scopes others)
    in_operands t.NoOperand k h = tt
    in_operands (t.Operand operator e others) k h = both_too k (placed_blocks_in db scopes e) (placed_operand_blocks db scopes others) (in_expr e) (in_operands others) h

    in_members : (members : Members) (k : ℕ) → Numbered R k (member_blocks db scopes members) → Numbered S k (member_blocks db scopes members)
    in_members t.NoMember k h = tt
    in_members (t.NullMember others) k h = in_members others k h
    in_members (t.Member e others) k h = both_too k (placed_blocks_in db scopes e) (member_blocks db scopes others) (in_expr e) (in_members others) h

  pub in_condition : (c : t.SearchClause) (k : ℕ) → Numbered R k (condition_blocks db scopes c) → Numbered S k (condition_blocks db scopes c)
  in_condition t.Absent k h = tt
  in_condition (t.Present e) k h = in_expr e k h

-- the blocks inside a block: its queries stand in WHERE
abbrev pub behind_it : Place → List PlacedBlock
behind_it p = in_list p ++ in_where p ++ in_having p

pub all_behind : (p : Place) (S : ℕ → PlacedBlock → Type 0)
    → ((k : ℕ) (query : t.QuerySpecification) → Numbered (Later p.all p.number) k (block_blocks p.db (scopes_of p) query) → Numbered S k (block_blocks p.db (scopes_of p) query))
    → Numbered S (p.number + 1) (behind_it p)
all_behind p S of_query =
    let later = numbered_later p.all p.number (p.number + 1) (behind_it p) (omega arith) p.numbered.1 in
    let front = (numbered_both (Later p.all p.number) (p.number + 1) (in_list p ++ in_where p) (in_having p) later).0 in
    let own = (numbered_both (Later p.all p.number) (p.number + 1) (in_list p) (in_where p) front).1 in
    numbered_joined S (p.number + 1) (in_list p ++ in_where p) (in_having p)
    (numbered_joined S (p.number + 1) (in_list p) (in_where p) (numbered_none S (p.number + 1) (in_list p) (none_in_list p))
    (in_condition p.db (scopes_of p) (Later p.all p.number) S of_query p.restriction (p.number + 1 + length (in_list p)) own))
    (numbered_none S (p.number + 1 + length (in_list p ++ in_where p)) (in_having p) (none_in_having p))
