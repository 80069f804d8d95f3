-- Values of one type that rank as equal are one.
use Rattle.std.proofs.Common.{◌≡◌, refl, sym, ap, ap₂, ◌∙◌, ℕ, ◌^◌, List}
use Rattle.std.specs.Prelude.{ℤ, pos, ◌*ℤ◌, length}
use Rattle.std.specs.Cmp.{int_ranked}
use Rattle.std.proofs.lemmas.Cmp.{tied_itself}
use Rattle.std.specs.declared.cmp.Ordering.TheVariants.{Equal}
use Rattle.definitions.specs.Value.{Null, Number, Text, Char, rank}
use Rattle.definitions.specs.Queries.Laws.{EqualRankInATypeIsEquality}
use Rattle.definitions.proofs.Loading.{factor, texts_tied}
use Rattle.definitions.proofs.Ranking.{power_is_positive, rank_total}

same_number : (u w : ℤ) (s r : ℕ) → s ≡ r → rank (Number u s) (Number w r) ≡ Equal → Number u s ≡ Number w r
same_number u w s r e h = ap₂ Number (factor u w (10 ^ s) (power_is_positive s) (ap (λ k. u *ℤ pos (10 ^ k)) e ∙ int_ranked (u *ℤ pos (10 ^ r)) (w *ℤ pos (10 ^ s)) Equal (sym h))) e

same_text : (xs ys : List ℕ) → length xs ≡ length ys → rank (Text xs) (Text ys) ≡ Equal → Text xs ≡ Text ys
same_text xs ys e h = ap Text (texts_tied xs ys ys e h (tied_itself rank_total (Text ys)))

pub equal_rank_in_a_type_is_equality : EqualRankInATypeIsEquality
equal_rank_in_a_type_is_equality type Null Null h l e = refl
equal_rank_in_a_type_is_equality type Null (Number u s) h l e = absurd cc
equal_rank_in_a_type_is_equality type Null (Text t) h l e = absurd cc
equal_rank_in_a_type_is_equality type (Number u s) Null h l e = absurd cc
equal_rank_in_a_type_is_equality type (Number u s) (Text t) h l e = absurd cc
equal_rank_in_a_type_is_equality type (Text t) Null h l e = absurd cc
equal_rank_in_a_type_is_equality type (Text t) (Number u s) h l e = absurd cc
equal_rank_in_a_type_is_equality type (Number u s) (Number w r) h l e = same_number u w s r (h.0 ∙ sym l.0) e
equal_rank_in_a_type_is_equality (Char n) (Text xs) (Text ys) h l e = same_text xs ys (h.0 ∙ sym l.0) e
equal_rank_in_a_type_is_equality _ (Text xs) (Text ys) h l e = absurd h
