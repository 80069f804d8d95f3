-- LOAD makes one thing of a file.
use Rattle.std.proofs.Common.{◌≡◌, ◌∙◌, sym, ap, ap₂, ℕ, List, length}
use Rattle.definitions.specs.Ended.{Ended}
use Rattle.definitions.specs.Statement.{Name}
use Rattle.definitions.specs.Table.{Table, Database}
use Rattle.definitions.specs.Loading.{Record}
use Rattle.definitions.specs.Change.{with_rows, changed}
use Rattle.definitions.specs.Printing.{loaded_text, record_refusal_text}
use Rattle.definitions.proofs.FileLoads.{file_reads_once, all_once, all_or_refused, all_or_full, refused_or_full, refused_once}
use Rattle.definitions_execution.specs.Step as step
use Rattle.definitions_execution.specs.Step.{Loaded}
use Rattle.definitions_execution.specs.RunLaws.{LoadHasOneOutcome}

module _ (db : Database) (name : Name) (t : Table) (records : List Record) where
  pub loaded_once : (a b : Database) (x y : List ℕ) (e f : Ended) → Loaded db name t records a x e → Loaded db name t records b y f → (a ≡ b) × (x ≡ y) × (e ≡ f)
  loaded_once a b x y e f (step.loaded rows l few i j k) (step.loaded rows' l' few' i' j' k') =
      let same : rows ≡ rows' = all_once t t.rows records rows rows' l l' in
      (i ∙ ap (λ rows. changed (λ u. with_rows u rows) db name) same ∙ sym i', j ∙ ap (λ rows. loaded_text (length rows)) same ∙ sym j', k ∙ sym k')
  loaded_once a b x y e f (step.loaded rows l few i j k) (step.too_many full i' j' k') = absurd (all_or_full t records rows l few full)
  loaded_once a b x y e f (step.loaded rows l few i j k) (step.refused r n fault i' j' k') = absurd (all_or_refused t records rows r n l fault)
  loaded_once a b x y e f (step.too_many full i j k) (step.loaded rows l few i' j' k') = absurd (all_or_full t records rows l few full)
  loaded_once a b x y e f (step.too_many full i j k) (step.too_many full' i' j' k') = (i ∙ sym i', j ∙ sym j', k ∙ sym k')
  loaded_once a b x y e f (step.too_many full i j k) (step.refused r n fault i' j' k') = absurd (refused_or_full t records r n fault full)
  loaded_once a b x y e f (step.refused r n fault i j k) (step.loaded rows l few i' j' k') = absurd (all_or_refused t records rows r n l fault)
  loaded_once a b x y e f (step.refused r n fault i j k) (step.too_many full i' j' k') = absurd (refused_or_full t records r n fault full)
  loaded_once a b x y e f (step.refused r n fault i j k) (step.refused r' n' fault' i' j' k') =
      let same = refused_once t records r r' n n' fault fault' in
      (i ∙ sym i', j ∙ ap₂ record_refusal_text same.0 same.1 ∙ sym j', k ∙ sym k')

-- whatever list its bytes are read as
pub load_has_one_outcome : LoadHasOneOutcome
load_has_one_outcome db name t bytes a b db' db'' x y e f reads reads' loads loads' =
    let same : a ≡ b = file_reads_once bytes a b reads reads' in
    let there : Loaded db name t b db' x e = rw same at loads in
    loaded_once db name t b db' db'' x y e f there loads'
