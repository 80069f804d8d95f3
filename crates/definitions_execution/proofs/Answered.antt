-- How a SELECT is answered, from its parts.
use Rattle.std.proofs.Common.{refl, ℕ, List}
use Rattle.definitions.specs.Statement.{Select}
use Rattle.definitions.specs.Table.{Database}
use Rattle.definitions.specs.Plans.Plan.{Plan}
use Rattle.definitions.specs.Binding.Faults.{Binds}
use Rattle.definitions.specs.Queries.BoundBlock.{Blocks}
use Rattle.definitions.specs.Queries.Outcomes.{Told, AllowedOf, names_of, shown}
use Rattle.definitions.specs.Estimates.Version.{current_version}
use Rattle.definitions_execution.specs.Total.{AreCertified}
use Rattle.definitions_execution.specs.Step.{IsAnswered, IsWorkAfter, told_ended}

pub answered : (db : Database) (q : Select) (blocks : Blocks) → Binds db q blocks → (plans : List Plan) → AreCertified current_version db blocks plans
    → (told : Told) → AllowedOf db blocks told → (before after : ℕ) → IsWorkAfter db blocks plans told before after
    → IsAnswered db q (shown (names_of blocks) told) before after (told_ended told)
answered db q blocks bound plans certified told allowed before after work = record {
  blocks = blocks;
  bound = bound;
  plans = plans;
  certified = certified;
  told = told;
  allowed = allowed;
  printed = refl;
  work = work;
  ends = refl;
}
