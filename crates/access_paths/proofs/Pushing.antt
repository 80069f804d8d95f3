-- Paths pushed one after another.
use Rattle.std.proofs.Common.{◌≡◌, ◌∙◌, refl, sym, ap, ℕ, zero, suc, ◌<◌, ◌≤◌, List, [], ◌∷◌, ◌++◌, Bool, true, false, Some, length, map, get_or, drop, arith}
use Rattle.std.specs.Prelude.{flat_map}
use Rattle.std.specs.List.{AllByRecursion}
use Rattle.std.proofs.lemmas.List.{drop_all}
use Rattle.definitions.specs.Table.{Index, Database}
use Rattle.definitions.specs.Queries.BoundBlock.{Block}
use Rattle.definitions.specs.Estimates.BlockTables.{index_at}
use Rattle.access_paths.specs.Matches.{IndexMatch, index_matches}
use Rattle.access_paths.specs.Found.{FoundPath}
use Rattle.access_paths.specs.Listing.{scans_found, index_found, number_found}
use Rattle.access_paths.specs.Views.{index_match_of}
use Rattle.access_paths.specs.declared.index_matches.IndexMatch.{IndexMatch as Code}

onto : {X Z : Type 0} (f : X → Z) (xs : List X) (x : X) (zs : List Z) → map f (xs ++ x ∷ []) ++ zs ≡ map f xs ++ f x ∷ zs
onto f [] x zs = refl
onto f (y ∷ ys) x zs = ap (λ rest. f y ∷ rest) (onto f ys x zs)

pub pushed : {X Z : Type 0} (f : X → Z) (old new : List X) (x : X) (z : Z) (zs : List Z) → new ≡ old ++ x ∷ [] → f x ≡ z → map f new ++ zs ≡ map f old ++ z ∷ zs
pushed f old new x z zs e same = ap (λ xs. map f xs ++ zs) e ∙ onto f old x zs ∙ ap (λ y. map f old ++ y ∷ zs) same

pub chain_at : (P : IndexMatch → Type 0) (chains : List Code) (i : ℕ) (x : Code) → AllByRecursion P (map index_match_of chains) → i < length chains → x ≡ get_or chains i x → P (index_match_of x)
chain_at P [] i x all h e = absurd (omega (arith, h))
chain_at P (c ∷ cs) zero x all h e = let same : x ≡ c = e in rw same all.0
chain_at P (c ∷ cs) (suc i) x all h e = chain_at P cs i x all.1 (omega (arith, h)) e

nothing_more : {X : Type 0} (xs : List X) → xs ++ [] ≡ xs
nothing_more [] = refl
nothing_more (x ∷ xs) = ap (λ ys. x ∷ ys) (nothing_more xs)

again : {X : Type 0} (xs ys zs : List X) → (xs ++ ys) ++ zs ≡ xs ++ (ys ++ zs)
again [] ys zs = refl
again (x ∷ xs) ys zs = ap (λ l. x ∷ l) (again xs ys zs)

-- all of them are done
pub all_done : {Z : Type 0} (f : ℕ → List Z) (found all : List Z) (numbers : List ℕ) (i : ℕ) → length numbers ≤ i → found ++ flat_map f (drop i numbers) ≡ all → found ≡ all
all_done f found all numbers i h e = sym (nothing_more found) ∙ ap (λ ns. found ++ flat_map f ns) (sym (drop_all i numbers h)) ∙ e

-- ---- an index, in its directions

module _ (db : Database) (block : Block) (table number : ℕ) (i : Index) (chains : List IndexMatch) (e : index_at db block table number ≡ Some i) (c : chains ≡ index_matches block table i.columns) where
  abbrev scans : Bool → List FoundPath
  scans = scans_found db block table number i chains

  same_index : (directions : List Bool) → flat_map scans directions ≡ number_found db block table directions number
  same_index directions = ap (λ cs. flat_map (scans_found db block table number i cs) directions) c ∙ sym (ap (index_found db block table directions number) e)

  pub one_direction : (old new : List FoundPath) → new ≡ old ++ scans false → new ≡ old ++ number_found db block table (false ∷ []) number
  one_direction old new n = n ∙ ap (λ l. old ++ l) (sym (nothing_more (scans false)) ∙ same_index (false ∷ []))

  pub two_directions : (old first new : List FoundPath) → first ≡ old ++ scans false → new ≡ first ++ scans true → new ≡ old ++ number_found db block table (false ∷ true ∷ []) number
  two_directions old first new f n =
      n ∙ ap (λ l. l ++ scans true) f ∙ again old (scans false) (scans true)
      ∙ ap (λ l. old ++ l) (ap (λ l. scans false ++ l) (sym (nothing_more (scans true))) ∙ same_index (false ∷ true ∷ []))
