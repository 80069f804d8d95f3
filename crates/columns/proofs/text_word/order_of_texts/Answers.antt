use Rattle.std.proofs.Common.{◌≡◌, ◌∙◌, sym, ap, rules, refl, length, [], ◌++◌, drop}
use Rattle.std.specs.Prelude.{min}
use Rattle.definitions.specs.Value.{text_cmp}
use Rattle.std.specs.Ordering.{ordering_reverse}
use Rattle.columns.proofs.TextOrders.{head_or_no_tail, spaces_against}
use Rattle.columns.proofs.text_word.order_of_texts.Goals as goal

pub returns : goal.returns
returns c =
    let tail = c.split_at.result.1.now in
    let head = c.split_at.result.0.now in
    let past : c.reverse.result ≡ text_cmp [] tail = c.reverse.ensures ∙ ap ordering_reverse c.order_to_spaces.ensures ∙ sym (spaces_against tail) in
    let k : c.min.result ≡ min (length c.args.text.now) (length c.args.other.now) = search rules in
    let n : length head ≡ c.min.result = search rules in
    let t : tail ≡ drop c.min.result c.args.other.now = search rules in
    let v : head ++ tail ≡ c.args.other.now = search rules in
    c.order_of.ensures tail past (head_or_no_tail c.args.other.now head tail c.args.text.now (length c.args.text.now) c.min.result k n t refl) ∙ ap (text_cmp c.args.text.now) v
