-- The order of keys.
use Rattle.std.proofs.Common.{◌≡◌, ◌∙◌, refl, sym, ap, ap₂, ◌⊎◌, inl, inr, List, [], ◌∷◌}
use Rattle.std.proofs.lemmas.Cmp.{tied_itself}
use Rattle.std.specs.Ordering.{ordering_then, ordering_reverse}
use Rattle.std.specs.declared.cmp.Ordering.{Ordering}
use Rattle.std.specs.declared.cmp.Ordering.TheVariants.{Less, Equal, Greater}
use Rattle.definitions.specs.Value.{Value, SqlType, rank}
use Rattle.definitions.specs.Key.{Key, key_rank}
use Rattle.definitions.specs.IndexLaws.{IsKeyOf}
use Rattle.definitions.proofs.Ranking.{rank_total}

then_turned : (a b : Ordering) → ordering_then (ordering_reverse a) (ordering_reverse b) ≡ ordering_reverse (ordering_then a b)
then_turned Less b = refl
then_turned Equal b = refl
then_turned Greater b = refl

pub key_turned : (a b : Key) → key_rank a b ≡ ordering_reverse (key_rank b a)
key_turned [] [] = refl
key_turned [] (b ∷ bs) = refl
key_turned (a ∷ as') [] = refl
key_turned (a ∷ as') (b ∷ bs) = ap₂ ordering_then (rank_total.antisymm a b) (key_turned as' bs) ∙ then_turned (rank b a) (key_rank bs as')

pub key_itself : (a : Key) → key_rank a a ≡ Equal
key_itself [] = refl
key_itself (a ∷ as') = ap₂ ordering_then (tied_itself rank_total a) (key_itself as')

pub less_then : (o p : Ordering) → ordering_then o p ≡ Less → (o ≡ Less) ⊎ ((o ≡ Equal) × (p ≡ Less))
less_then Less p h = inl refl
less_then Equal p h = inr (refl, h)
less_then Greater p h = absurd cc

pub equal_then : (o p : Ordering) → ordering_then o p ≡ Equal → (o ≡ Equal) × (p ≡ Equal)
equal_then Less p h = absurd cc
equal_then Equal p h = (refl, h)
equal_then Greater p h = absurd cc

like_right : (x y v : Value) → rank y v ≡ Equal → rank x v ≡ rank x y
like_right x y v e = rank_total.antisymm x v ∙ ap ordering_reverse (sym (rank_total.congr y v x e)) ∙ sym (rank_total.antisymm x y)

pub key_chain : (types : List SqlType) (a b c : Key) → IsKeyOf types a → IsKeyOf types b → IsKeyOf types c → key_rank a b ≡ Less → key_rank b c ≡ Less → key_rank a c ≡ Less
key_chain [] [] [] [] h l k e f = absurd cc
key_chain [] [] [] (c ∷ cs) h l k e f = absurd k
key_chain [] [] (b ∷ bs) c h l k e f = absurd l
key_chain [] (a ∷ as') b c h l k e f = absurd h
key_chain (t ∷ ts) [] b c h l k e f = absurd h
key_chain (t ∷ ts) (a ∷ as') [] c h l k e f = absurd l
key_chain (t ∷ ts) (a ∷ as') (b ∷ bs) [] h l k e f = absurd k
key_chain (t ∷ ts) (a ∷ as') (b ∷ bs) (c ∷ cs) h l k e f = of (less_then (rank a b) (key_rank as' bs) e) (less_then (rank b c) (key_rank bs cs) f) (key_chain ts as' bs cs h.1 l.1 k.1)
  where
    of : (rank a b ≡ Less) ⊎ ((rank a b ≡ Equal) × (key_rank as' bs ≡ Less)) → (rank b c ≡ Less) ⊎ ((rank b c ≡ Equal) × (key_rank bs cs ≡ Less)) → (key_rank as' bs ≡ Less → key_rank bs cs ≡ Less → key_rank as' cs ≡ Less)
        → ordering_then (rank a c) (key_rank as' cs) ≡ Less
    of (inl x) (inl y) rest = ap (λ o. ordering_then o (key_rank as' cs)) (rank_total.trans a b c x y)
    of (inl x) (inr (y, z)) rest = ap (λ o. ordering_then o (key_rank as' cs)) (like_right a b c y ∙ x)
    of (inr (x, w)) (inl y) rest = ap (λ o. ordering_then o (key_rank as' cs)) (rank_total.congr a b c x ∙ y)
    of (inr (x, w)) (inr (y, z)) rest = ap₂ ordering_then (rank_total.congr a b c x ∙ y) (rest w z)

pub key_alike : (types : List SqlType) (a b c : Key) → IsKeyOf types a → IsKeyOf types b → IsKeyOf types c → key_rank a b ≡ Equal → key_rank a c ≡ key_rank b c
key_alike [] [] [] [] h l k e = refl
key_alike [] [] [] (c ∷ cs) h l k e = absurd k
key_alike [] [] (b ∷ bs) c h l k e = absurd l
key_alike [] (a ∷ as') b c h l k e = absurd h
key_alike (t ∷ ts) [] b c h l k e = absurd h
key_alike (t ∷ ts) (a ∷ as') [] c h l k e = absurd l
key_alike (t ∷ ts) (a ∷ as') (b ∷ bs) [] h l k e = absurd k
key_alike (t ∷ ts) (a ∷ as') (b ∷ bs) (c ∷ cs) h l k e =
    let q = equal_then (rank a b) (key_rank as' bs) e in
    ap₂ ordering_then (rank_total.congr a b c q.0) (key_alike ts as' bs cs h.1 l.1 k.1 q.1)
