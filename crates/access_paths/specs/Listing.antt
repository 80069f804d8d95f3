-- The paths of a table as they are listed: the whole table, and of each index the whole and its chains, in each
-- direction.
use Rattle.std.specs.Prelude.{ℕ, Bool, List, [], ◌∷◌, Option, Some, None, map, flat_map}
use Rattle.definitions.specs.Table.{Index, Database}
use Rattle.definitions.specs.Plans.TableSet.{no_tables}
use Rattle.definitions.specs.Plans.Path.{SegmentScan, IndexScan, MatchingScan}
use Rattle.definitions.specs.Queries.BoundBlock.{Block}
use Rattle.definitions.specs.Estimates.BlockTables.{pages_at, index_at}
use Rattle.access_paths.specs.Matches.{IndexMatch, index_matches}
use Rattle.access_paths.specs.Scans.{Pages, whole_scan, matching_scan}
use Rattle.access_paths.specs.Found.{FoundPath}

module _ (db : Database) (block : Block) (table : ℕ) where
  abbrev pub segment_found : FoundPath
  segment_found =
      record { path = SegmentScan table; required_outer = no_tables; cost = Pages (pages_at db block table) }

  module _ (number : ℕ) (i : Index) where
    abbrev pub whole_found : Bool → FoundPath
    whole_found backward =
        record {
          path = IndexScan table number backward;
          required_outer = no_tables;
          cost =
              whole_scan db block table i;
        }

    abbrev pub matching_found : Bool → IndexMatch → FoundPath
    matching_found backward c =
        record {
          path = MatchingScan table number c.conjuncts backward;
          required_outer = c.required_outer;
          cost =
              matching_scan db block table i c;
        }

    abbrev pub scans_found : List IndexMatch → Bool → List FoundPath
    scans_found chains backward = whole_found backward ∷ map (matching_found backward) chains

  abbrev pub index_found : List Bool → ℕ → Option Index → List FoundPath
  index_found directions number None = []
  index_found directions number (Some i) =
      flat_map (scans_found number i (index_matches block table i.columns)) directions

  abbrev pub number_found : List Bool → ℕ → List FoundPath
  number_found directions number = index_found directions number (index_at db block table number)

  abbrev pub table_found : List ℕ → List Bool → List FoundPath
  table_found indexes directions = segment_found ∷ flat_map (number_found directions) indexes
