use Rattle.std.proofs.Common.{◌≡◌, ◌∙◌, ◌<◌, ◌+◌, ◌-◌, [], sym, ap, ap₂, subst, drop, get_or, length, take, arith}
use Rattle.std.proofs.lemmas.List.{length-map}
use Rattle.tuple_sort.specs.Keeping.{rows_of, single}
use Rattle.tuple_sort.specs.declared.sort_buffer.SortBuffer.{SortBuffer}
use Rattle.tuple_sort.proofs.Singles.{single_at}
use Rattle.tuple_sort.proofs.sort_buffer.SortBuffer.row.Goals as goal

pub returns-in-One : goal.returns-in-One
returns-in-One c =
    let rows = c.in-One.rows.items in
    let place = c.args.place in
    let one : place + 1 - place ≡ 1 = omega arith in
    let there = subst (λ (s : SortBuffer). place < length (rows_of s)) c.in-One.is c.requires in
    let within : place < length rows = subst (λ n. place < n) (length-map rows single) there in
    ap₂ take one (ap (drop place) c.deref.ensures.value) ∙ single_at rows place within ∙ ap (λ (s : SortBuffer). get_or (rows_of s) place []) (sym c.in-One.is)
