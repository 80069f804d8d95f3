use Rattle.std.proofs.Common.{◌≡◌, ◌∙◌, ◌/◌, ◌<◌, ℕ, ◌∷◌, [], ◌++◌, ap, length, get_or, length-append, refl, arith}
use Rattle.columns.proofs.NullFlags.{read_grown, flag_written}
use Rattle.columns.proofs.null_bits.NullBits.push.Goals as goal
use Rattle.columns.proofs.null_bits.NullBits.push.Goals.{then-place-len+in_ok-push, else-place-len}

pub returns-clause-ok : goal.returns-clause-ok
returns-clause-ok c =
    let n = c.self.inside in
    let m = c.if-place-len.self-inside in
    let reached : (m.len ≡ n.len) × (n.len / 64 < length m.words.items) × ((place : ℕ) → get_or m.words.items place 0 ≡ get_or n.words.items place 0) = elim c.if-place-len.branch [
      | then-place-len+in_ok-push w ↦
          let grown : m.words.items ≡ n.words.items ++ 0 ∷ [] = rw w.self-inside-is w.in_ok-push.ensures.items in (
            rw w.self-inside-is refl,
            omega (arith, n.words.ok.0, w.if-place-len.true, c.len.ensures, ap length grown, length-append n.words.items (0 ∷ [])),
            λ place. ap (λ ws. get_or ws place 0) grown ∙ read_grown n.words.items place,
          )
      | else-place-len w ↦ (rw w.self-inside-is refl, rw w.self-inside-is (omega (arith, n.words.ok.0, w.if-place-len.false, c.len.ensures, c.self.invariant.enough)), λ place. rw w.self-inside-is refl)
    ] in
    flag_written n.words.items m.words.items n.len m.len _ c.index.result.now c.all_rows.result c.from.result c.args.null _ c.self.view_is reached.0 c.in-Some.ensures.1
    reached.2 reached.1 c.index.ensures c.all_rows.ensures c.from.ensures
