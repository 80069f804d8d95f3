-- Planned blocks, one behind the other.
use Rattle.std.proofs.Common.{◌≡◌, ◌∙◌, refl, sym, ap, subst, ℕ, zero, suc, ◌+◌, ◌≤◌, ◌<◌, List, [], ◌∷◌, ◌++◌, length, drop, get_or, arith}
use Rattle.std.specs.List.{AllByRecursion}
use Rattle.std.proofs.lemmas.List.{append-nil, append_assoc}
use Rattle.definitions.specs.Limits.{most_blocks}
use Rattle.definitions.specs.Table.{Database}
use Rattle.definitions.specs.Invariant.{IsDatabase}
use Rattle.definitions.specs.Binding.Formed.{IsFormedSomewhere}
use Rattle.definitions.specs.Certificates.Explaining.{certified, certified_from, IsExplained, AreExplained}
use Rattle.definitions.specs.Estimates.Version.{current_version}
use Rattle.definitions.specs.Queries.BoundBlock.{Block, Blocks}
use Rattle.planner.specs.Planned.{IsPlanned, ArePlannedFrom}
use Rattle.planner.specs.declared.planned_block.PlannedBlock.{PlannedBlock}
use Rattle.planner.proofs.Explained.{next, past, ExplainsTo, next_explained, explains_all}

-- ---- blocks are planned one after another

-- what is planned so far is what is to be planned before a block, whatever is made of those behind
abbrev pub PlansTo : Database → Blocks → ℕ → List PlannedBlock → Type 0
PlansTo db blocks number planned =
    (rest : List PlannedBlock) → ArePlannedFrom db number (drop number blocks) rest → ArePlannedFrom db 0 blocks (planned ++ rest)

pub plans_none : (db : Database) (blocks : Blocks) → PlansTo db blocks 0 []
plans_none db blocks rest are = are

pub next_planned : (db : Database) (blocks : Blocks) (number : ℕ) (block : Block) (planned : List PlannedBlock) (own : PlannedBlock) → drop number blocks ≡ block ∷ drop (suc number) blocks
    → IsPlanned db number block own → PlansTo db blocks number planned → PlansTo db blocks (number + 1) (planned ++ own ∷ [])
next_planned db blocks number block planned own first is so_far rest behind =
    subst (ArePlannedFrom db 0 blocks) (sym (append_assoc planned (own ∷ []) rest))
    (so_far (own ∷ rest) (subst (λ bs. ArePlannedFrom db number bs (own ∷ rest)) (sym (first ∙ ap (λ n. block ∷ drop n blocks) (sym (next number)))) (is, behind)))

pub all_planned : (db : Database) (blocks : Blocks) (number : ℕ) (planned : List PlannedBlock) → length blocks ≤ number → PlansTo db blocks number planned → ArePlannedFrom db 0 blocks planned
all_planned db blocks number planned behind so_far =
    subst (ArePlannedFrom db 0 blocks) (append-nil planned) (so_far [] (subst (λ bs. ArePlannedFrom db number bs []) (sym (past blocks number behind)) tt))

-- ---- each planned block is of a block of the query

pub as_many : (db : Database) (n : ℕ) (bs : Blocks) (ps : List PlannedBlock) → ArePlannedFrom db n bs ps → length bs ≡ length ps
as_many db n [] [] h = refl
as_many db n [] (p ∷ ps) h = absurd h
as_many db n (b ∷ bs) [] h = absurd h
as_many db n (b ∷ bs) (p ∷ ps) h = ap suc (as_many db (n + 1) bs ps h.1)

-- the block of a planned one, which begins what is left of the query there
pub record IsAt (db : Database) (n : ℕ) (bs : Blocks) (i : ℕ) (p : PlannedBlock) : Type 1 where
  pub block : Block
  pub planned : IsPlanned db (n + i) block p
  pub first : drop i bs ≡ block ∷ drop (suc i) bs
  pub each : (P : Block → Type 0) → AllByRecursion P bs → P block

pub planned_at : (db : Database) (n : ℕ) (bs : Blocks) (ps : List PlannedBlock) (i : ℕ) (p : PlannedBlock) → ArePlannedFrom db n bs ps → i < length ps → p ≡ get_or ps i p → IsAt db n bs i p
planned_at db n [] [] i p h lt is = absurd (omega (arith, lt))
planned_at db n [] (q ∷ ps) i p h lt is = absurd h
planned_at db n (b ∷ bs) [] i p h lt is = absurd h
planned_at db n (b ∷ bs) (q ∷ ps) zero p h lt is = record {
  block = b;
  planned = subst (λ k. IsPlanned db k b p) (omega arith) (subst (λ x. IsPlanned db n b x) (sym is) h.0);
  first = refl;
  each = λ P all. all.0;
}
planned_at db n (b ∷ bs) (q ∷ ps) (suc i) p h lt is =
    let there : IsAt db (n + 1) bs i p = planned_at db (n + 1) bs ps i p h.1 (omega (arith, lt)) is in
    record {
      block = there.block;
      planned = subst (λ k. IsPlanned db k there.block p) (omega arith) there.planned;
      first = there.first;
      each = λ P all. there.each P all.1;
    }

-- ---- their texts

-- whatever query the blocks are of
abbrev pub TextsTo : List PlannedBlock → ℕ → List ℕ → Type 0
TextsTo planned number text =
    (db : Database) (blocks : Blocks) → IsDatabase db → AllByRecursion (IsFormedSomewhere db) blocks → length blocks ≤ most_blocks → ArePlannedFrom db 0 blocks planned → ExplainsTo db blocks number text

-- what the text of one says of every block that it may be of
abbrev pub SaysText : PlannedBlock → List ℕ → Type 0
SaysText p own =
    (db : Database) (number : ℕ) (block : Block) → IsDatabase db → number < most_blocks → IsFormedSomewhere db block → IsPlanned db number block p → IsExplained (certified db number block current_version) own

pub next_text : (planned : List PlannedBlock) (number : ℕ) (p : PlannedBlock) (text own : List ℕ) → number < length planned → p ≡ get_or planned number p → SaysText p own → TextsTo planned number text → TextsTo planned (number + 1) (text ++ own)
next_text planned number p text own lt is says so_far db blocks valid formed few are =
    let here : IsAt db 0 blocks number p = planned_at db 0 blocks planned number p are lt is in
    let many = as_many db 0 blocks planned are in
    let same : 0 + number ≡ number = omega arith in
    let own_text = says db number here.block valid (omega (arith, lt, few, many)) (here.each (IsFormedSomewhere db) formed) (subst (λ k. IsPlanned db k here.block p) same here.planned) in
    next_explained db blocks number here.block text own here.first own_text (so_far db blocks valid formed few are)

pub all_texts : (planned : List PlannedBlock) (number : ℕ) (text : List ℕ) → length planned ≤ number → TextsTo planned number text
    → (db : Database) (blocks : Blocks) → IsDatabase db → AllByRecursion (IsFormedSomewhere db) blocks → length blocks ≤ most_blocks → ArePlannedFrom db 0 blocks planned → AreExplained current_version (certified_from db 0 blocks) text
all_texts planned number text behind so_far db blocks valid formed few are =
    let many = as_many db 0 blocks planned are in
    explains_all db blocks number text (omega (arith, behind, many)) (so_far db blocks valid formed few are)
