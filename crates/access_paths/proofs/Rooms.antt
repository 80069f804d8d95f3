-- How long chains are.
use Rattle.std.proofs.Common.{◌≡◌, ◌∙◌, refl, sym, ap, subst, ℕ, zero, suc, ◌+◌, ◌-◌, ◌<◌, ◌≤◌, List, [], ◌∷◌, ◌++◌, if◌then◌else◌, Bool, true, false, length, map, get_or, arith}
use Rattle.std.specs.List.{AllByRecursion}
use Rattle.std.proofs.lemmas.List.{length-append}
use Rattle.definitions.specs.Limits.{most_index_columns}
use Rattle.definitions.specs.Queries.BoundBlock.{Block}
use Rattle.access_paths.specs.Matches.{Match, IndexMatch, before, chains_from, with_column, matches_of, index_matches}
use Rattle.access_paths.specs.Views.{index_match_of}
use Rattle.access_paths.specs.declared.index_matches.IndexMatch.{IndexMatch as Code}

abbrev pub HaveRoom : List IndexMatch → Type 0
HaveRoom = AllByRecursion (λ (c : IndexMatch). length c.conjuncts < most_index_columns)

pub room_at : (items : List Code) (i : ℕ) (x : Code) → HaveRoom (map index_match_of items) → i < length items → x ≡ get_or items i x → length (index_match_of x).conjuncts < most_index_columns
room_at [] i x a h e = absurd (omega (arith, h))
room_at (y ∷ ys) zero x a h e = let same : x ≡ y = e in rw same a.0
room_at (y ∷ ys) (suc i) x a h e = room_at ys i x a.1 (omega (arith, h)) e

-- no chain is longer than the columns that it is of
abbrev pub AreWithin : ℕ → List IndexMatch → Type 0
AreWithin most = AllByRecursion (λ (c : IndexMatch). length c.conjuncts ≤ most)

pub joined : {X : Type 0} (P : X → Type 0) (xs ys : List X) → AllByRecursion P xs → AllByRecursion P ys → AllByRecursion P (xs ++ ys)
joined P [] ys a b = b
joined P (x ∷ xs) ys a b = (a.0, joined P xs ys a.1 b)

one_longer : (m : Match) (most : ℕ) (others : List IndexMatch) → AreWithin most others → AreWithin (most + 1) (map (before m) others)
one_longer m most [] a = tt
one_longer m most (c ∷ cs) a = let first = a.0 in (omega (arith, first), one_longer m most cs a.1)

from_one : (m : Match) (most : ℕ) (others : List IndexMatch) → AreWithin most others → AreWithin (most + 1) (chains_from others m)
from_one m most others a = (omega arith, by_test m.equals)
  where
    by_test : (b : Bool) → AreWithin (most + 1) (if b then map (before m) others else [])
    by_test true = one_longer m most others a
    by_test false = tt

from_all : (ms : List Match) (most : ℕ) (others : List IndexMatch) → AreWithin most others → AreWithin (most + 1) (with_column others ms)
from_all [] most others a = tt
from_all (m ∷ ms) most others a = joined (λ (c : IndexMatch). length c.conjuncts ≤ most + 1) (chains_from others m) (with_column others ms) (from_one m most others a) (from_all ms most others a)

pub chains_within : (block : Block) (table : ℕ) (numbers : List ℕ) → AreWithin (length numbers) (index_matches block table numbers)
chains_within block table [] = tt
chains_within block table (number ∷ numbers) =
    more (length numbers + 1) (length (number ∷ numbers)) (omega arith) _ (from_all (matches_of block table number) (length numbers) (index_matches block table numbers) (chains_within block table numbers))
  where
    more : (a b : ℕ) → a ≡ b → (cs : List IndexMatch) → AreWithin a cs → AreWithin b cs
    more a b e cs w = rw (← e) w

-- ---- the columns, from the last one

module _ (block : Block) (table : ℕ) where
  -- the chains of some columns before those that are there
  abbrev pub onto : List ℕ → List IndexMatch → List IndexMatch
  onto [] chains = chains
  onto (number ∷ numbers) chains = with_column (onto numbers chains) (matches_of block table number)

  pub last_onto : (numbers : List ℕ) (number : ℕ) (chains : List IndexMatch) → onto (numbers ++ number ∷ []) chains ≡ onto numbers (with_column chains (matches_of block table number))
  last_onto [] number chains = refl
  last_onto (n ∷ ns) number chains = ap (λ cs. with_column cs (matches_of block table n)) (last_onto ns number chains)

  pub all_onto : (numbers : List ℕ) → onto numbers [] ≡ index_matches block table numbers
  all_onto [] = refl
  all_onto (n ∷ ns) = ap (λ cs. with_column cs (matches_of block table n)) (all_onto ns)

  -- the next column is done
  pub next_onto : (numbers rest : List ℕ) (number : ℕ) (ms : List Match) (old new all : List IndexMatch) → rest ≡ numbers ++ number ∷ [] → ms ≡ matches_of block table number → new ≡ with_column old ms
      → onto rest old ≡ all → onto numbers new ≡ all
  next_onto numbers rest number ms old new all r m n e =
      ap (onto numbers) (n ∙ ap (with_column old) m) ∙ sym (last_onto numbers number old) ∙ ap (λ ns. onto ns old) (sym r) ∙ e

pub have_room : (most : ℕ) (chains : List IndexMatch) → most < most_index_columns → AreWithin most chains → HaveRoom chains
have_room most [] h a = tt
have_room most (c ∷ cs) h a = let first = a.0 in (omega (arith, h, first), have_room most cs h a.1)

-- so many columns are done of a list of them
abbrev pub AreWithinDone : List ℕ → List ℕ → List IndexMatch → Type 0
AreWithinDone columns rest chains = (length rest ≤ length columns) × AreWithin (length columns - length rest) chains

pub next_done : (columns numbers rest : List ℕ) (number : ℕ) (ms : List Match) (old new : List IndexMatch) → rest ≡ numbers ++ number ∷ [] → new ≡ with_column old ms
    → AreWithinDone columns rest old → AreWithinDone columns numbers new
next_done columns numbers rest number ms old new r n a =
    let shorter : length rest ≡ length numbers + 1 = rw r (length-append numbers (number ∷ [])) in
    let fits = a.0 in
    let done : length columns - length rest + 1 ≡ length columns - length numbers = omega (arith, shorter, fits) in
    (omega (arith, shorter, fits), rw n (subst (λ k. AreWithin k (with_column old ms)) done (from_all ms (length columns - length rest) old a.1)))

pub room_left : (columns rest : List ℕ) (numbers : List ℕ) (number : ℕ) (chains : List IndexMatch) → rest ≡ numbers ++ number ∷ [] → length columns ≤ most_index_columns → AreWithinDone columns rest chains → HaveRoom chains
room_left columns rest numbers number chains r h a =
    let shorter : length rest ≡ length numbers + 1 = rw r (length-append numbers (number ∷ [])) in
    let fits = a.0 in
    have_room (length columns - length rest) chains (omega (arith, shorter, fits, h)) a.1

pub none_done : (columns : List ℕ) (chains : List IndexMatch) → chains ≡ [] → AreWithinDone columns columns chains
none_done columns [] e = (omega arith, tt)
none_done columns (c ∷ cs) e = absurd cc

pub same_room : (a b : List IndexMatch) → b ≡ a → HaveRoom a → HaveRoom b
same_room a b e r = subst HaveRoom (sym e) r
