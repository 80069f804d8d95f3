-- A plan space of a block is what the definitions certify of it.
use Rattle.std.proofs.Common.{◌≡◌, ◌∙◌, refl, sym, ap, ℕ, List, length, map, arith}
use Rattle.std.specs.Global.{Vec}
use Rattle.std.proofs.lemmas.List.{length-map}
use Rattle.definitions.specs.Table.{Database}
use Rattle.definitions.specs.Queries.BoundBlock as spec
use Rattle.definitions.specs.Binding.Formed.{IsFormedSomewhere}
use Rattle.definitions.specs.Estimates.Laws.{HasPlans}
use Rattle.definitions.specs.Estimates.PlanConjuncts.{plan_conjuncts}
use Rattle.definitions.specs.Estimates.BlockSpace.{space_of}
use Rattle.definitions.specs.Estimates.Version as v
use Rattle.definitions.specs.Certificates.Explaining.{certified, index_columns_at}
use Rattle.definitions.proofs.EstimateTheory.FormedSpaces.{formed_has_plans}
use Rattle.query_tree.specs.Bound.{block_of}
use Rattle.query_tree.specs.declared.block.Block.{Block}
use Rattle.certificate.specs.Blocks.{columns_in}
use Rattle.estimate.specs.Estimated.{Estimated}
use Rattle.estimate.specs.PlanConjuncts.{conjunct_of}
use Rattle.estimate.specs.declared.plan_conjunct.PlanConjunct.{PlanConjunct}
use Rattle.plan_tree.specs.Versions.{version_of}
use Rattle.plan_tree.specs.declared.version.Version.{Version}
use Rattle.plan_space.specs.Planned.{Planned, space_in}
use Rattle.certificate.specs.Spaces.{IsBlockSpace}

of_formed : (db : Database) (block : spec.Block) → IsFormedSomewhere db block → HasPlans block
of_formed db block (blocks, around, n, formed) = formed_has_plans db blocks around n block formed

pub has_plans : (db : Database) (given told : Block) → told ≡ given → IsFormedSomewhere db (block_of given) → HasPlans (block_of told)
has_plans db given told same formed = rw same (of_formed db (block_of given) formed)

same_space : (p : Planned) (version : v.Version) (db : Database) (block : Block) → p.version ≡ version → p.database ≡ db → p.block ≡ block → space_of version db (block_of block) ≡ space_in p
unfolding space_in
same_space p version db block a b c =
    ap (λ x. space_of x db (block_of block)) (sym a) ∙ ap (λ x. space_of p.version x (block_of block)) (sym b) ∙ ap (λ x. space_of p.version p.database (block_of x)) (sym c)

pub is_space : (db : Database) (given : Block) (number : ℕ) (version : Version) (e : Estimated) (p : Planned) (indexes : Vec (Vec (Vec ℕ))) (conjuncts : List PlanConjunct)
    → e.database ≡ db → e.block ≡ given → p.version ≡ version_of version → p.database ≡ e.database → p.block ≡ e.block
    → map columns_in indexes.items ≡ map (index_columns_at e.database) (block_of e.block).tables → map conjunct_of conjuncts ≡ plan_conjuncts e.database (block_of e.block)
    → IsBlockSpace (certified db number (block_of given) (version_of version)) (record { space = p; version = version; number = number; indexes = indexes; conjunct_count = length conjuncts })
is_space db given number version e p indexes conjuncts of_db of_block a b c columns planned =
    let own : map columns_in indexes.items ≡ map (index_columns_at db) (block_of given).tables = rw (of_db, of_block) at columns in
    let all : map conjunct_of conjuncts ≡ plan_conjuncts db (block_of given) = rw (of_db, of_block) at planned in
    record {
      space = same_space p (version_of version) db given a (b ∙ of_db) (c ∙ of_block);
      version = refl;
      number = refl;
      indexes = sym own;
      tables = omega (arith, ap length own, length-map indexes.items columns_in, length-map (block_of given).tables (index_columns_at db));
      conjuncts = ap length (sym all) ∙ length-map conjuncts conjunct_of;
    }
