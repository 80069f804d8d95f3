-- The blocks of a statement are ready, and stand where they are evaluated.
use Rattle.std.proofs.Common.{◌≡◌, ◌∙◌, refl, sym, ap, subst, ℕ, ◌<◌, List, [], ◌∷◌, Some, length, arith}
use Rattle.std.specs.Prelude.{slice_get}
use Rattle.std.specs.List.{AllByRecursion}
use Rattle.std.proofs.lemmas.List.{length-map}
use Rattle.definitions.specs.Table.{Database}
use Rattle.definitions.specs.Binding.Formed as formed
use Rattle.definitions.specs.Binding.Formed.{AreFormed}
use Rattle.definitions.specs.Estimates.Version.{current_version}
use Rattle.definitions.specs.Queries.BoundBlock.{Blocks}
use Rattle.definitions_answers.specs.Standing.{Stands}
use Rattle.definitions_execution.specs.Total.{totals, AreCertified, IsTotal}
use Rattle.filters.specs.Sources.{block_in}
use Rattle.executor.specs.ReadyBlocks.{blocks_in, database_in, plans_in, total_at, AreReady, HasLeast, IsReadyIn}
use Rattle.executor.specs.declared.ready_block.ReadyBlock.{ReadyBlock}

some_block : (db : Database) (blocks : Blocks) → AreFormed db blocks [] 0 → 0 < length blocks
some_block db [] (formed.formed around n b is h inside) = absurd cc
some_block db (b ∷ bs) h = omega arith

module _ (db : Database) (blocks : Blocks) where
  database_of : (query : List ReadyBlock) → ((number : ℕ) (r : ReadyBlock) → slice_get query number ≡ Some r → IsReadyIn db blocks number r) → 0 < length query → database_in query ≡ db
  database_of [] each l = absurd (omega (arith, l))
  database_of (r ∷ rs) each l = (each 0 r refl).database

certified : (db : Database) (query : List ReadyBlock) → AllByRecursion (HasLeast db) query → AreCertified current_version db (blocks_in query) (plans_in query)
certified db [] h = tt
certified db (r ∷ rs) h = (h.0, certified db rs h.1)

module _ (db : Database) (blocks : Blocks) (query : List ReadyBlock) (each : (number : ℕ) (r : ReadyBlock) → slice_get query number ≡ Some r → IsReadyIn db blocks number r) (are : blocks_in query ≡ blocks) (whole : AreFormed db blocks [] 0) where
  pub outermost : 0 < length query
  outermost = let some = some_block db blocks whole in let count = ap length are in omega (arith, some, count, length-map query (λ (r : ReadyBlock). block_in r.source))

  pub database_is : database_in query ≡ db
  database_is = database_of db blocks query each outermost

  pub all_ready : AreReady query
  all_ready number r is =
      subst (λ bs. IsReadyIn (database_in query) bs number r) (sym are) (subst (λ d. IsReadyIn d blocks number r) (sym database_is) (each number r is))

  pub stands : Stands (database_in query) (blocks_in query) 0 []
  stands = subst (λ bs. Stands (database_in query) bs 0 []) (sym are) (subst (λ d. Stands d blocks 0 []) (sym database_is) ([], whole, λ between block is. absurd cc))

  module _ (least : AllByRecursion (HasLeast db) query) where
    pub plans_certified : AreCertified current_version db blocks (plans_in query)
    plans_certified = subst (λ bs. AreCertified current_version db bs (plans_in query)) are (certified db query least)

    pub is_total : (total : ℕ) → total ≡ total_at query [] 0 → IsTotal current_version db blocks total
    is_total total is = (
      plans_in query,
      plans_certified,
      is ∙ ap (λ (d : Database). totals current_version d 0 (blocks_in query) (plans_in query) 0 []) database_is ∙ ap (λ (bs : Blocks). totals current_version db 0 bs (plans_in query) 0 []) are,
    )
