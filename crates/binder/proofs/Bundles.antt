-- Parts and blocks of several expressions together.
use Rattle.std.proofs.Common.{◌≡◌, ◌∙◌, refl, sym, ap, ap₂, subst, ℕ, suc, ◌+◌, ◌≤◌, ◌⊎◌, inl, inr, Bool, true, false, List, [], ◌∷◌, ◌++◌, length, map, filter, arith}
use Rattle.std.specs.Prelude.{flat_map, if◌then◌else◌}
use Rattle.std.proofs.lemmas.List.{append_assoc}
use Rattle.definitions.specs.Lists.{AnyOf}
use Rattle.definitions.specs.Limits.{most_blocks}
use Rattle.definitions.specs.Refusal.{Refusal}
use Rattle.definitions.specs.Statement.{Expr}
use Rattle.definitions.specs.Table.{Database}
use Rattle.definitions.specs.Binding.Scopes.{Scopes}
use Rattle.definitions.specs.Binding.Parts.{PlacedBlock, is_function}
use Rattle.definitions.specs.Binding.BoundForm.{bound_block, bound_blocks, bound_function}
use Rattle.definitions.specs.Binding.Faults.{argument_parts}
use Rattle.query_rules.specs.Judging.{ClauseKind, InArgument, PartFaulty, Refuses, part, argument, inner, misplaced, many, IsClean, Progress, Adds}

-- ---- some element

pub any_left : {X : Type 0} (P : X → Type 0) (xs ys : List X) → AnyOf P xs → AnyOf P (xs ++ ys)
any_left P [] ys h = absurd h
any_left P (x ∷ xs) ys (inl h) = inl h
any_left P (x ∷ xs) ys (inr h) = inr (any_left P xs ys h)

pub any_right : {X : Type 0} (P : X → Type 0) (xs ys : List X) → AnyOf P ys → AnyOf P (xs ++ ys)
any_right P [] ys h = h
any_right P (x ∷ xs) ys h = inr (any_right P xs ys h)

pub any_split : {X : Type 0} (P : X → Type 0) (xs ys : List X) → AnyOf P (xs ++ ys) → AnyOf P xs ⊎ AnyOf P ys
any_split P [] ys h = inr h
any_split P (x ∷ xs) ys (inl h) = inl (inl h)
any_split P (x ∷ xs) ys (inr h) = elim (any_split P xs ys h) [ inl k ↦ inl (inr k) | inr k ↦ inr k ]

arguments_of_both : (ps qs : List Expr) → flat_map argument_parts (ps ++ qs) ≡ flat_map argument_parts ps ++ flat_map argument_parts qs
arguments_of_both [] qs = refl
arguments_of_both (p ∷ ps) qs = ap (λ xs. argument_parts p ++ xs) (arguments_of_both ps qs) ∙ sym (append_assoc (argument_parts p) (flat_map argument_parts ps) (flat_map argument_parts qs))

pub length_of_both : {X : Type 0} (xs ys : List X) → length (xs ++ ys) ≡ length xs + length ys
length_of_both [] ys = omega (arith)
length_of_both (x ∷ xs) ys = let h = length_of_both xs ys in omega (arith, h)

-- ---- faults of parts, side by side

module _ (db : Database) (scopes : Scopes) (place : ClauseKind) where
  pub fault_left : (count : ℕ) (ps qs : List Expr) (bs cs : List PlacedBlock) (r : Refusal) → Refuses db scopes place count ps bs r → Refuses db scopes place count (ps ++ qs) (bs ++ cs) r
  fault_left count ps qs bs cs _ (part r a) = part r (any_left _ ps qs a)
  fault_left count ps qs bs cs _ (argument r p a) = argument r p (rw (arguments_of_both ps qs) (any_left _ (flat_map argument_parts ps) (flat_map argument_parts qs) a))
  fault_left count ps qs bs cs _ (inner r a) = inner r (any_left _ bs cs a)
  fault_left count ps qs [] cs r (misplaced p n) = absurd (n refl)
  fault_left count ps qs (b ∷ bs) cs r (misplaced p n) = misplaced p (λ e. absurd cc)
  fault_left count ps qs bs cs r (many h) = many (let l = length_of_both bs cs in omega (arith, h, l))

  pub fault_right : (count : ℕ) (ps qs : List Expr) (bs cs : List PlacedBlock) (r : Refusal) → Refuses db scopes place (count + length bs) qs cs r → Refuses db scopes place count (ps ++ qs) (bs ++ cs) r
  fault_right count ps qs bs cs _ (part r a) = part r (any_right _ ps qs a)
  fault_right count ps qs bs cs _ (argument r p a) = argument r p (rw (arguments_of_both ps qs) (any_right _ (flat_map argument_parts ps) (flat_map argument_parts qs) a))
  fault_right count ps qs bs cs _ (inner r a) = inner r (any_right _ bs cs a)
  fault_right count ps qs [] cs r (misplaced p n) = misplaced p n
  fault_right count ps qs (b ∷ bs) cs r (misplaced p n) = misplaced p (λ e. absurd cc)
  fault_right count ps qs bs cs r (many h) = many (let l = length_of_both bs cs in omega (arith, h, l))

  pub fault_split : (count : ℕ) (ps qs : List Expr) (bs cs : List PlacedBlock) (r : Refusal) → Refuses db scopes place count (ps ++ qs) (bs ++ cs) r
      → Refuses db scopes place count ps bs r ⊎ Refuses db scopes place (count + length bs) qs cs r
  fault_split count ps qs bs cs _ (part r a) = elim (any_split _ ps qs a) [ inl k ↦ inl (part r k) | inr k ↦ inr (part r k) ]
  fault_split count ps qs bs cs _ (argument r p a) = elim (any_split _ (flat_map argument_parts ps) (flat_map argument_parts qs) (rw (arguments_of_both ps qs) at a)) [ inl k ↦ inl (argument r p k) | inr k ↦ inr (argument r p k) ]
  fault_split count ps qs bs cs _ (inner r a) = elim (any_split _ bs cs a) [ inl k ↦ inl (inner r k) | inr k ↦ inr (inner r k) ]
  fault_split count ps qs [] cs r (misplaced p n) = inr (misplaced p n)
  fault_split count ps qs (b ∷ bs) cs r (misplaced p n) = inl (misplaced p (λ e. absurd cc))
  fault_split count ps qs bs cs r (many h) = inr (many (let l = length_of_both bs cs in omega (arith, h, l)))

  pub clean_both : (count : ℕ) (ps qs : List Expr) (bs cs : List PlacedBlock) → IsClean db scopes place count ps bs → IsClean db scopes place (count + length bs) qs cs → IsClean db scopes place count (ps ++ qs) (bs ++ cs)
  clean_both count ps qs bs cs h k r f = elim (fault_split count ps qs bs cs r f) [ inl x ↦ h r x | inr x ↦ k r x ]

  -- ---- a part before others

  pub fault_here : (count : ℕ) (e : Expr) (ps : List Expr) (bs : List PlacedBlock) (r : Refusal) → PartFaulty db scopes place e r → Refuses db scopes place count (e ∷ ps) bs r
  fault_here count e ps bs r h = part r (inl h)

  pub fault_behind : (count : ℕ) (e : Expr) (ps : List Expr) (bs : List PlacedBlock) (r : Refusal) → Refuses db scopes place count ps bs r → Refuses db scopes place count (e ∷ ps) bs r
  fault_behind count e ps bs _ (part r a) = part r (inr a)
  fault_behind count e ps bs _ (argument r p a) = argument r p (any_right _ (argument_parts e) (flat_map argument_parts ps) a)
  fault_behind count e ps bs _ (inner r a) = inner r a
  fault_behind count e ps bs r (misplaced p n) = misplaced p n
  fault_behind count e ps bs r (many h) = many h

  pub record IsSoundPart (e : Expr) : Type 0 where
    pub itself : (r : Refusal) → PartFaulty db scopes place e r → ⊥
    pub argument : argument_parts e ≡ []

  pub clean_node : (count : ℕ) (e : Expr) (ps : List Expr) (bs : List PlacedBlock) → IsSoundPart e → IsClean db scopes place count ps bs → IsClean db scopes place count (e ∷ ps) bs
  clean_node count e ps bs s h _ (part r (inl a)) = s.itself r a
  clean_node count e ps bs s h _ (part r (inr a)) = h r (part r a)
  clean_node count e ps bs s h _ (argument r p a) = h r (argument r p (subst (λ xs. AnyOf (λ p. PartFaulty db scopes InArgument p r) (xs ++ flat_map argument_parts ps)) s.argument a))
  clean_node count e ps bs s h _ (inner r a) = h r (inner r a)
  clean_node count e ps bs s h r (misplaced p n) = h r (misplaced p n)
  clean_node count e ps bs s h r (many m) = h r (many m)

  -- ---- what is bound of both

  pub blocks_of_both : (n : ℕ) (bs cs : List PlacedBlock) → bound_blocks db n (bs ++ cs) [] ≡ bound_blocks db n bs [] ++ bound_blocks db (n + length bs) cs []
  blocks_of_both n [] cs = ap (λ k. bound_blocks db k cs []) (nothing n)
    where
      nothing : (n : ℕ) → n ≡ n + 0
      nothing n = omega (arith)
  blocks_of_both n (p ∷ bs) cs =
      ap (λ xs. bound_block db n p.outer p.block [] ∷ xs) (blocks_of_both (n + 1) bs cs ∙ ap (λ k. bound_blocks db (n + 1) bs [] ++ bound_blocks db k cs []) (moved n (length bs)))
    where
      moved : (n l : ℕ) → n + 1 + l ≡ n + suc l
      moved n l = omega (arith)

  pub as_many_blocks : (n : ℕ) (bs : List PlacedBlock) → length (bound_blocks db n bs []) ≡ length bs
  as_many_blocks n [] = refl
  as_many_blocks n (p ∷ bs) = let h = as_many_blocks (n + 1) bs in omega (arith, h)

  pub functions_of_both : (ps qs : List Expr) → filter is_function (ps ++ qs) ≡ filter is_function ps ++ filter is_function qs
  functions_of_both [] qs = refl
  functions_of_both (p ∷ ps) qs = step (is_function p) (filter is_function (ps ++ qs)) (filter is_function ps) (filter is_function qs) (functions_of_both ps qs)
    where
      step : (b : Bool) (xs ys zs : List Expr) → xs ≡ ys ++ zs → (if b then p ∷ xs else xs) ≡ (if b then p ∷ ys else ys) ++ zs
      step true xs ys zs h = ap (λ xs. p ∷ xs) h
      step false xs ys zs h = h

  pub map_of_both : (ps qs : List Expr) → map (bound_function db scopes) (ps ++ qs) ≡ map (bound_function db scopes) ps ++ map (bound_function db scopes) qs
  map_of_both [] qs = refl
  map_of_both (p ∷ ps) qs = ap (λ xs. bound_function db scopes p ∷ xs) (map_of_both ps qs)

  pub add_both : (old mid new : Progress) (ps qs : List Expr) (bs cs : List PlacedBlock) → Adds db scopes place old mid ps bs → Adds db scopes place mid new qs cs → Adds db scopes place old new (ps ++ qs) (bs ++ cs)
  add_both old mid new ps qs bs cs h k = record {
    blocks =
        k.blocks
        ∙ ap₂ (λ xs n. xs ++ bound_blocks db n cs []) h.blocks (blocks_behind old mid ps bs h)
        ∙ append_assoc old.blocks (bound_blocks db (length old.blocks) bs []) (bound_blocks db (length old.blocks + length bs) cs [])
        ∙ ap (λ xs. old.blocks ++ xs) (sym (blocks_of_both (length old.blocks) bs cs));
    functions =
        k.functions
        ∙ ap (λ xs. xs ++ map (bound_function db scopes) (filter is_function qs)) h.functions
        ∙ append_assoc old.functions (map (bound_function db scopes) (filter is_function ps)) (map (bound_function db scopes) (filter is_function qs))
        ∙ ap (λ xs. old.functions ++ xs) (sym (map_of_both (filter is_function ps) (filter is_function qs)))
        ∙ ap (λ xs. old.functions ++ map (bound_function db scopes) xs) (sym (functions_of_both ps qs));
    clean = clean_both (length old.blocks) ps qs bs cs h.clean (subst (λ n. IsClean db scopes place n qs cs) (blocks_behind old mid ps bs h) k.clean);
  }
    where
      blocks_behind : (old mid : Progress) (ps : List Expr) (bs : List PlacedBlock) → Adds db scopes place old mid ps bs → length mid.blocks ≡ length old.blocks + length bs
      blocks_behind old mid ps bs h =
          ap length h.blocks ∙ length_of_both old.blocks (bound_blocks db (length old.blocks) bs []) ∙ ap (λ n. length old.blocks + n) (as_many_blocks (length old.blocks) bs)

  pub add_node : (old new : Progress) (e : Expr) (ps : List Expr) (bs : List PlacedBlock) → is_function e ≡ false → IsSoundPart e → Adds db scopes place old new ps bs → Adds db scopes place old new (e ∷ ps) bs
  add_node old new e ps bs n s h = record {
    blocks = h.blocks;
    functions = h.functions ∙ ap (λ b. old.functions ++ map (bound_function db scopes) (if b then e ∷ filter is_function ps else filter is_function ps)) (sym n);
    clean = clean_node (length old.blocks) e ps bs s h.clean;
  }

  pub add_none : (s : Progress) → length s.blocks ≤ most_blocks → Adds db scopes place s s [] []
  add_none s few = record { blocks = sym (nothing s.blocks); functions = sym (nothing s.functions); clean = none_clean }
    where
      nothing : {X : Type 0} (xs : List X) → xs ++ [] ≡ xs
      nothing [] = refl
      nothing (x ∷ xs) = ap (λ ys. x ∷ ys) (nothing xs)

      none_clean : IsClean db scopes place (length s.blocks) [] []
      none_clean _ (part r a) = absurd a
      none_clean _ (argument r p a) = absurd a
      none_clean _ (inner r a) = absurd a
      none_clean r (misplaced p n) = n refl
      none_clean r (many h) = absurd (omega (arith, h, few))
