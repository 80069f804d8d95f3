-- What conjuncts leave, one after another.
use Rattle.std.proofs.Common.{◌≡◌, ◌∙◌, refl, sym, ap, ap₂, ℕ, ◌+◌, ◌*◌, ◌<◌, List, ◌∷◌, Bool, true, false, length, map, get_or, drop}
use Rattle.std.specs.Prelude.{◌&&◌, if◌then◌else◌}
use Rattle.definitions.specs.Plans.Conjunct.{Conjunct}
use Rattle.definitions.specs.Plans.Cost.{saturated, share}
use Rattle.definitions.specs.Plans.TableSet.{TableSet}
use Rattle.definitions.specs.Table.{Database}
use Rattle.definitions.specs.Queries.BoundBlock.{Block}
use Rattle.definitions.specs.Estimates.BlockTables.{rows_at}
use Rattle.definitions.specs.Estimates.PlanConjuncts.{plan_conjuncts}
use Rattle.definitions.specs.Estimates.Cardinality.{is_completed, joined_with, left_by, path_rows}
use Rattle.estimate.specs.PlanConjuncts.{conjunct_of, names_known}
use Rattle.estimate.specs.declared.plan_conjunct.PlanConjunct.{PlanConjunct}
use Rattle.estimate.proofs.Places.{at_place}

one_left : (kind : Conjunct → Bool) (c : Conjunct) (cs : List Conjunct) (left : ℕ) (b : Bool) → b ≡ (c.early && kind c) → left_by kind cs (if b then share left c.selectivity else left) ≡ left_by kind (c ∷ cs) left
one_left kind c cs left true e = rw (← e) refl
one_left kind c cs left false e = rw (← e) refl

pub next_left : (kind : Conjunct → Bool) (cs : List PlanConjunct) (i : ℕ) (c : PlanConjunct) (left new : ℕ) (applied : Bool) → i < length cs → c ≡ get_or cs i c → applied ≡ ((conjunct_of c).early && kind (conjunct_of c))
    → new ≡ (if applied then share left c.selectivity else left) → left_by kind (map conjunct_of (drop (i + 1) cs)) new ≡ left_by kind (map conjunct_of (drop i cs)) left
next_left kind cs i c left new applied h e a n =
    ap (left_by kind (map conjunct_of (drop (i + 1) cs))) n
    ∙ one_left kind (conjunct_of c) (map conjunct_of (drop (i + 1) cs)) left applied a
    ∙ ap (λ xs. left_by kind (map conjunct_of xs) left) (sym (at_place cs i c h e))

-- ---- what is left of the rows of a join, and of a path

module _ (db : Database) (block : Block) (cs : List PlanConjunct) (planned : map conjunct_of cs ≡ plan_conjuncts db block) where
  pub joined_told : (taken : TableSet) (table rows left product a b : ℕ) → left ≡ left_by (is_completed taken table) (map conjunct_of cs) product → product ≡ saturated (a * b) → a ≡ rows → b ≡ rows_at db block table
      → left ≡ joined_with db block taken rows table
  joined_told taken table rows left product a b l p e f =
      l ∙ ap (λ xs. left_by (is_completed taken table) xs product) planned ∙ ap (left_by (is_completed taken table) (plan_conjuncts db block)) (p ∙ ap₂ (λ x y. saturated (x * y)) e f)

  pub known_told : (known : TableSet) (table left rows : ℕ) → left ≡ left_by (names_known known table) (map conjunct_of cs) rows → rows ≡ rows_at db block table → left ≡ path_rows db block known table
  known_told known table left rows l e =
      l ∙ ap (λ xs. left_by (names_known known table) xs rows) planned ∙ ap (left_by (names_known known table) (plan_conjuncts db block)) e
