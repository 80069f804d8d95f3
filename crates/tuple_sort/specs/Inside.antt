-- What a list of composites keeps.
use Rattle.std.specs.Prelude.{◌≡◌, ◌≤◌, length, map}
use Rattle.plan_tree.specs.Sets.{set_of}
use Rattle.tuple_sort.specs.CompositeLists.{CompositeList}
use Rattle.tuple_sort.specs.Keeping.{room_of, rows_of}
use Rattle.tuple_sort.specs.Packing.{tables_in, unpacked}
use Rattle.tuple_sort.specs.declared.list.Composites.TheInside.{Inside}

abbrev pub list_of : Inside → CompositeList
list_of s =
    record {
      tables = set_of s.tables;
      width = s.width;
      items =
          map (unpacked s.width s.members.items) (rows_of s.kept);
    }

-- the rows of the set's tables, and there is room for them
pub record IsKept (s : Inside) : Type 0 where
  pub few : s.width ≤ 14
  pub members : s.members.items ≡ tables_in (set_of s.tables) s.width
  pub room : length s.members.items ≤ room_of s.kept
  pub single : length s.members.items ≡ 1 → room_of s.kept ≡ 1
