-- Each path that is listed reads its table.
use Rattle.std.proofs.Common.{◌≡◌, refl, ℕ, List, [], ◌∷◌, Bool, Option, Some, None, map}
use Rattle.std.specs.Prelude.{flat_map}
use Rattle.std.specs.List.{AllByRecursion}
use Rattle.definitions.specs.Table.{Index, Database}
use Rattle.definitions.specs.Queries.BoundBlock.{Block}
use Rattle.definitions.specs.Estimates.BlockTables.{index_at}
use Rattle.access_paths.specs.Matches.{IndexMatch, index_matches}
use Rattle.access_paths.specs.Found.{FoundPath, Reads}
use Rattle.access_paths.specs.Listing.{matching_found, scans_found, index_found, number_found, table_found}
use Rattle.access_paths.proofs.Rooms.{joined}

module _ (db : Database) (block : Block) (table : ℕ) where
  abbrev pub IsRead : FoundPath → Type 0
  IsRead x = Reads db block table x.path

  module _ (number : ℕ) (i : Index) (there : index_at db block table number ≡ Some i) where
    chains_read : (backward : Bool) (chains : List IndexMatch) → AllByRecursion IsRead (map (matching_found db block table number i backward) chains)
    chains_read backward [] = tt
    chains_read backward (c ∷ cs) = ((refl, (i, there)), chains_read backward cs)

    scans_read : (chains : List IndexMatch) (directions : List Bool) → AllByRecursion IsRead (flat_map (scans_found db block table number i chains) directions)
    scans_read chains [] = tt
    scans_read chains (d ∷ ds) =
        joined IsRead (scans_found db block table number i chains d) (flat_map (scans_found db block table number i chains) ds) ((refl, (i, there)), chains_read d chains) (scans_read chains ds)

  index_read : (directions : List Bool) (number : ℕ) (o : Option Index) → index_at db block table number ≡ o → AllByRecursion IsRead (index_found db block table directions number o)
  index_read directions number None e = tt
  index_read directions number (Some i) e = scans_read number i e (index_matches block table i.columns) directions

  all_read : (directions : List Bool) (numbers : List ℕ) → AllByRecursion IsRead (flat_map (number_found db block table directions) numbers)
  all_read directions [] = tt
  all_read directions (n ∷ ns) =
      joined IsRead (number_found db block table directions n) (flat_map (number_found db block table directions) ns) (index_read directions n (index_at db block table n) refl) (all_read directions ns)

  pub found_read : (directions : List Bool) (numbers : List ℕ) → AllByRecursion IsRead (table_found db block table numbers directions)
  found_read directions numbers = (refl, all_read directions numbers)
