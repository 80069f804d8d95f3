-- An open path costs what its scan costs.
use Rattle.std.proofs.Common.{◌≡◌, ◌∙◌, refl, sym, ap, ℕ, List, [], ◌∷◌, Bool, true, false, Option, Some, None, if◌then◌else◌, map}
use Rattle.std.specs.Prelude.{◌&&◌, flat_map}
use Rattle.std.specs.List.{AllByRecursion}
use Rattle.definitions.specs.Table.{Index, Database}
use Rattle.definitions.specs.Plans.TableSet.{TableSet}
use Rattle.definitions.specs.Queries.BoundBlock.{Block}
use Rattle.definitions.specs.Estimates.BlockTables.{index_at}
use Rattle.definitions.specs.Estimates.Cardinality.{path_rows}
use Rattle.definitions.specs.Estimates.PathCost.{one_row, weighted, pages_fetched, matched, equals_each, whole_index_cost, match_cost}
use Rattle.access_paths.specs.Matches.{IndexMatch, index_matches}
use Rattle.access_paths.specs.Scans.{OneRow, Pages, cost_with, is_all_equal, matching_scan}
use Rattle.access_paths.specs.Found.{CostsAsPath}
use Rattle.access_paths.specs.Listing.{whole_found, matching_found, scans_found, index_found, number_found, table_found}
use Rattle.access_paths.proofs.Chaining.{EqualsAll, chains_equal}
use Rattle.access_paths.proofs.Rooms.{joined}

module _ (db : Database) (block : Block) (table : ℕ) where
  module _ (number : ℕ) (i : Index) (there : index_at db block table number ≡ Some i) where
    whole_costs : (backward : Bool) → CostsAsPath db block table (whole_found db block table number i backward)
    whole_costs backward known h = ap (whole_index_cost db block known table) (sym there)

    by_test : (b c : Bool) (rows pages : ℕ) → cost_with (if b then OneRow else Pages pages) rows ≡ (if b then one_row else weighted pages rows)
    by_test true c rows pages = refl
    by_test false c rows pages = refl

    of_equal : (known : TableSet) (c : IndexMatch) (all_equal : Bool) → all_equal ≡ is_all_equal db block table i c
        → cost_with (matching_scan db block table i c) (path_rows db block known table)
        ≡ (if i.unique && all_equal then one_row else weighted (pages_fetched db block i table (matched db block i all_equal c.conjuncts)) (path_rows db block known table))
    of_equal known c all_equal e =
        by_test (i.unique && is_all_equal db block table i c) true (path_rows db block known table) (pages_fetched db block i table (matched db block i (is_all_equal db block table i c) c.conjuncts))
        ∙ ap (λ b. if i.unique && b then one_row else weighted (pages_fetched db block i table (matched db block i b c.conjuncts)) (path_rows db block known table)) (sym e)

    matching_costs : (backward : Bool) (c : IndexMatch) → ((known : TableSet) → EqualsAll known block table i.columns c) → CostsAsPath db block table (matching_found db block table number i backward c)
    matching_costs backward c equal known h =
        of_equal known c (equals_each block known table i.columns c.conjuncts) (equal known h) ∙ ap (match_cost db block known table c.conjuncts) (sym there)

    all_matching : (backward : Bool) (chains : List IndexMatch) → ((known : TableSet) → AllByRecursion (EqualsAll known block table i.columns) chains)
        → AllByRecursion (CostsAsPath db block table) (map (matching_found db block table number i backward) chains)
    all_matching backward [] equal = tt
    all_matching backward (c ∷ cs) equal = (matching_costs backward c (λ known. (equal known).0), all_matching backward cs (λ known. (equal known).1))

    all_directions : (directions : List Bool) → AllByRecursion (CostsAsPath db block table) (flat_map (scans_found db block table number i (index_matches block table i.columns)) directions)
    all_directions [] = tt
    all_directions (d ∷ ds) =
        joined (CostsAsPath db block table) (scans_found db block table number i (index_matches block table i.columns) d) (flat_map (scans_found db block table number i (index_matches block table i.columns)) ds)
        (whole_costs d, all_matching d (index_matches block table i.columns) (λ known. chains_equal known block table i.columns)) (all_directions ds)

  of_index : (directions : List Bool) (number : ℕ) (o : Option Index) → index_at db block table number ≡ o → AllByRecursion (CostsAsPath db block table) (index_found db block table directions number o)
  of_index directions number None e = tt
  of_index directions number (Some i) e = all_directions number i e directions

  all_indexes : (directions : List Bool) (numbers : List ℕ) → AllByRecursion (CostsAsPath db block table) (flat_map (number_found db block table directions) numbers)
  all_indexes directions [] = tt
  all_indexes directions (n ∷ ns) =
      joined (CostsAsPath db block table) (number_found db block table directions n) (flat_map (number_found db block table directions) ns)
      (of_index directions n (index_at db block table n) refl) (all_indexes directions ns)

  pub found_costs : (directions : List Bool) (numbers : List ℕ) → AllByRecursion (CostsAsPath db block table) (table_found db block table numbers directions)
  found_costs directions numbers = ((λ known h. refl), all_indexes directions numbers)
