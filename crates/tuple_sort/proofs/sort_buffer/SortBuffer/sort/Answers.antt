use Rattle.std.proofs.Common.{sym, subst, map}
use Rattle.std.specs.Prelude.{IsPermutation}
use Rattle.std.proofs.lemmas.List.Sorted.{IsPermutation-map}
use Rattle.tuple_sort.specs.Keeping.{rows_of, single}
use Rattle.tuple_sort.specs.declared.sort_buffer.SortBuffer.{SortBuffer}
use Rattle.tuple_sort.proofs.sort_buffer.SortBuffer.sort.Goals as goal

pub returns-in-One-clause-permutation : goal.returns-in-One-clause-permutation
returns-in-One-clause-permutation c =
    let new = c.sort_single.new.rows.items in
    subst (λ (s : SortBuffer). IsPermutation (rows_of s) (map single new)) (sym c.in-One.is) (IsPermutation-map single c.in-One.rows.items new c.sort_single.ensures.permutation)
