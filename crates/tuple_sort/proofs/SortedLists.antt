-- Lists of composites, kept packed.
use Rattle.std.proofs.Common.{◌≡◌, refl, ◌∙◌, sym, ap, subst, inl, inr, ℕ, cond, List, [], ◌∷◌, ◌++◌, map, replicate, set}
use Rattle.std.proofs.lemmas.List.{map-append, map_push}
use Rattle.definitions.specs.Plans.TableSet.{TableSet}
use Rattle.definitions.specs.Plans.Order.{BlockColumn, Order}
use Rattle.std.specs.List.{range_with_len}
use Rattle.definitions.specs.Plans.Space.{Space}
use Rattle.definitions_execution.specs.Lists.{In, Rises}
use Rattle.definitions_execution.specs.Passing.{IsOn}
use Rattle.definitions.specs.Queries.Evaluation.{Combination}
use Rattle.definitions_execution.specs.RowOrder.{NotAfter}
use Rattle.definitions_execution.specs.Stored.{Composite, Stored, row_number, value_at}
use Rattle.definitions_execution.proofs.Members.{rises_map}
use Rattle.definitions_execution.proofs.RowOrders.{not_after_same}
use Rattle.filters.specs.Sources.{BlockSource, stored_in}
use Rattle.tuple_sort.specs.CompositeLists.{CompositeList, IsCompositeOf}
use Rattle.tuple_sort.specs.Keeping.{single}
use Rattle.tuple_sort.specs.Packing.{packed, tables_in, unpacked}
use Rattle.tuple_sort.specs.Values.{value_in_composite, value_in_packed, value_in_row}
use Rattle.tuple_sort.proofs.PackedRows.{kept_whole, row_unpacked, singles_unpacked}

module _ (tables : TableSet) (width : ℕ) (members : List ℕ) (are : members ≡ tables_in tables width) where
  -- what stands in order packed, stands so unpacked
  pub rises_unpacked : (source : BlockSource) (order : Order) (rows : List (List ℕ)) → Rises (NotAfter (value_in_packed source members) order) rows
      → Rises (NotAfter (value_in_composite source) order) (map (unpacked width members) rows)
  rises_unpacked source order rows h =
      rises_map (NotAfter (value_in_packed source members) order) (NotAfter (value_in_composite source) order) (unpacked width members) rows
      (λ a b i j r. not_after_same (value_in_packed source members) (value_in_composite source) order a b (unpacked width members a) (unpacked width members b) (λ k l. same a k.column) (λ k l. same b k.column) r) h
    where
      same : (row : List ℕ) (column : BlockColumn) → value_in_packed source members column row ≡ value_in_composite source column (unpacked width members row)
      same row column = rw are (ap (value_in_row source column) (sym (row_unpacked tables width row column.table)))

  -- a composite is added
  pub pushed : (old new : List (List ℕ)) (room : ℕ) (composite : Composite) → IsCompositeOf tables width composite → new ≡ old ++ packed room members composite ∷ []
      → map (unpacked width members) new ≡ map (unpacked width members) old ++ composite ∷ []
  pushed old new room composite is e =
      ap (map (unpacked width members)) e ∙ map_push (unpacked width members) old (packed room members composite) ∙ ap (λ x. map (unpacked width members) old ++ x ∷ []) whole
    where
      whole : unpacked width members (packed room members composite) ≡ composite
      whole = rw are (kept_whole tables width composite room is)

  -- so it is in the list that is seen as v
  abbrev pub seen_as : List (List ℕ) → CompositeList
  seen_as rows = record { tables = tables; width = width; items = map (unpacked width members) rows }

  abbrev pub with_one : CompositeList → (ℕ → Composite) → CompositeList
  with_one v numbers = record { tables = v.tables; width = v.width; items = v.items ++ numbers v.width ∷ [] }

  pub list_pushed : (v : CompositeList) (old new : List (List ℕ)) (room : ℕ) (numbers : ℕ → Composite) → seen_as old ≡ v → IsCompositeOf v.tables v.width (numbers v.width)
      → new ≡ old ++ packed room members (numbers width) ∷ [] → seen_as new ≡ with_one v numbers
  list_pushed v old new room numbers seen is e =
      subst (λ (w : CompositeList). IsCompositeOf w.tables w.width (numbers w.width) → seen_as new ≡ with_one w numbers)
      seen (λ own. of_items (pushed old new room (numbers width) own e)) is
    where
      of_items : map (unpacked width members) new ≡ map (unpacked width members) old ++ numbers width ∷ [] → seen_as new ≡ with_one (seen_as old) numbers
      of_items k = ap {B = CompositeList} (λ xs. record { tables = tables; width = width; items = xs }) k

  -- rows of a single table are added; and they are those that the list has
  abbrev pub with_rows : CompositeList → ℕ → List ℕ → CompositeList
  with_rows v table rows = record { tables = v.tables; width = v.width; items = v.items ++ map (λ row. set (replicate v.width 0) table row) rows }

  pub rows_pushed : (v : CompositeList) (old new : List (List ℕ)) (rows : List ℕ) → seen_as old ≡ v → new ≡ old ++ map single rows → (table : ℕ) → tables_in v.tables v.width ≡ table ∷ []
      → seen_as new ≡ with_rows v table rows
  rows_pushed v old new rows seen e table =
      subst (λ (w : CompositeList). tables_in w.tables w.width ≡ table ∷ [] → seen_as new ≡ with_rows w table rows) seen
      (λ one. ap {B = CompositeList} (λ xs. record { tables = tables; width = width; items = xs })
      (ap (map (unpacked width members)) e ∙ map-append (unpacked width members) old (map single rows)
      ∙ ap (λ xs. map (unpacked width members) old ++ xs) (singles_unpacked width table members rows (are ∙ one))))

  pub rows_seen : (v : CompositeList) (kept : List (List ℕ)) (rows : List ℕ) → seen_as kept ≡ v → kept ≡ map single rows → (table : ℕ) → tables_in v.tables v.width ≡ table ∷ []
      → v.items ≡ map (λ row. set (replicate v.width 0) table row) rows
  rows_seen v kept rows seen e table =
      subst (λ (w : CompositeList). tables_in w.tables w.width ≡ table ∷ [] → w.items ≡ map (λ row. set (replicate w.width 0) table row) rows) seen
      (λ one. ap (map (unpacked width members)) e ∙ singles_unpacked width table members rows (are ∙ one))

-- the values are those that are stored, whatever the surroundings
pub stored_in_rows : (source : BlockSource) (outer : List Combination) → (stored_in source outer).value_in ≡ value_in_row source
stored_in_rows source outer = refl

pub stored_in_composites : (source : BlockSource) (outer : List Combination) → value_at (stored_in source outer) ≡ value_in_composite source
stored_in_composites source outer = refl

-- what a plan delivers for some tables are composites of these
pub of_those_on : (space : Space) (stored : Stored) (tables : TableSet) (composite : Composite) → IsOn space stored tables composite → IsCompositeOf tables space.table_count composite
of_those_on space stored tables composite on = record { long = on.0; others = λ table h e. of_choice table (subst (λ b. In (row_number composite table) (cond b (range_with_len 0 (stored.row_count table)) (0 ∷ []))) e (on.1 table h)) }
  where
    of_choice : (table : ℕ) → In (row_number composite table) (0 ∷ []) → row_number composite table ≡ 0
    of_choice table (inl e) = sym e
    of_choice table (inr i) = absurd i
