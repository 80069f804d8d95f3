-- Late conjuncts by what is told of their subqueries.
use Rattle.std.proofs.Common.{◌≡◌, ◌∙◌, refl, sym, ap, ℕ, List, [], ◌∷◌, ◌++◌, ◌⊎◌, inl, inr, Result}
use Rattle.std.specs.Prelude.{flat_map, Contains}
use Rattle.std.specs.List.{AllByRecursion}
use Rattle.std.proofs.lemmas.List.Elements.{All-contains, Contains-append_left, Contains-append_right, Contains-append_cases}
use Rattle.definitions.specs.Value.{Value}
use Rattle.definitions.specs.Arithmetic.{Raise, Meaning, Is, Raises}
use Rattle.definitions.specs.Truth.{Truth}
use Rattle.definitions.specs.Queries.BoundBlock.{Condition}
use Rattle.definitions.specs.Queries.Conjuncts.{blocks_of}
use Rattle.definitions.specs.Queries.Evaluation.{Environment, truth}
use Rattle.definitions.specs.Queries.Combinations.{is_surely_true, raises_of}
use Rattle.definitions.specs.Queries.Telling.{StandsFor}
use Rattle.definitions_answers.specs.Seen.{seen_blocks}
use Rattle.definitions_answers.specs.Told.{TellsAsked, told_environment, AreSeen, LateConjunctsSeeWhatIsTold}
use Rattle.definitions_answers.proofs.Elements.{all_flat, all_weaker, flat_alike, list_all_alike}
use Rattle.definitions_answers.proofs.Told.{all_listed, condition_sees}

-- of one meaning that another stands for
raise_told : (m n : Meaning Truth) → StandsFor (λ t u. t ≡ u) m n → (e : Raise) → Contains (raises_of n) e → Contains (raises_of m) e
raise_told (Is t) (Is u) h e k = k
raise_told (Is t) (Raises q qs) h e k = absurd h
raise_told (Raises r rs) (Is u) h e k = absurd h
raise_told (Raises r rs) (Raises q qs) h e k = All-contains (Contains (r ∷ rs)) (q ∷ qs) e h k

quiet_told : (m n : Meaning Truth) → StandsFor (λ t u. t ≡ u) m n → raises_of n ≡ [] → m ≡ n
quiet_told (Is t) (Is u) h e = ap Is h
quiet_told (Is t) (Raises q qs) h e = absurd h
quiet_told (Raises r rs) (Is u) h e = absurd h
quiet_told (Raises r rs) (Raises q qs) h e = absurd cc

none_first : (rs qs : List Raise) → rs ++ qs ≡ [] → rs ≡ []
none_first [] qs e = refl
none_first (r ∷ rs) qs e = absurd cc

none_second : (rs qs : List Raise) → rs ++ qs ≡ [] → qs ≡ []
none_second [] qs e = e
none_second (r ∷ rs) qs e = absurd cc

module _ (env : Environment) (told : ℕ → Result (List Value) Raise) (seen_by_all : List ℕ) where
  abbrev meant : Condition → Meaning Truth
  meant d = truth env d

  abbrev seen : Condition → Meaning Truth
  seen d = truth (told_environment env told) d

  abbrev AllTold : List Condition → Type 0
  AllTold ds = AllByRecursion (λ d. AllByRecursion (λ n. TellsAsked seen_by_all (env.inner n) (told n) n) (blocks_of d)) ds

  -- the list has all whose values they see
  abbrev AllListed : List Condition → Type 0
  AllListed ds = AllByRecursion (λ d. AllByRecursion (Contains seen_by_all) (seen_blocks d)) ds

  raises_told : (ds : List Condition) → AllListed ds → AllTold ds → (e : Raise) → Contains (flat_map (λ d. raises_of (seen d)) ds) e → Contains (flat_map (λ d. raises_of (meant d)) ds) e
  raises_told [] l h e k = k
  raises_told (d ∷ ds) l h e k = pick (Contains-append_cases (raises_of (seen d)) (flat_map (λ d. raises_of (seen d)) ds) e k) (λ j. raises_told ds l.1 h.1 e j)
    where
      pick : Contains (raises_of (seen d)) e ⊎ Contains (flat_map (λ d. raises_of (seen d)) ds) e → (Contains (flat_map (λ d. raises_of (seen d)) ds) e → Contains (flat_map (λ d. raises_of (meant d)) ds) e) → Contains (flat_map (λ d. raises_of (meant d)) (d ∷ ds)) e
      pick (inl j) f = Contains-append_left (raises_of (meant d)) (flat_map (λ d. raises_of (meant d)) ds) e (raise_told (meant d) (seen d) (condition_sees env told seen_by_all d l.0 h.0) e j)
      pick (inr j) f = Contains-append_right (raises_of (meant d)) (flat_map (λ d. raises_of (meant d)) ds) e (f j)

  all_same : (ds : List Condition) → AllListed ds → AllTold ds → flat_map (λ d. raises_of (seen d)) ds ≡ [] → AllByRecursion (λ d. meant d ≡ seen d) ds
  all_same [] l h e = tt
  all_same (d ∷ ds) l h e = (
    quiet_told (meant d) (seen d) (condition_sees env told seen_by_all d l.0 h.0) (none_first (raises_of (seen d)) (flat_map (λ d. raises_of (seen d)) ds) e),
    all_same ds l.1 h.1 (none_second (raises_of (seen d)) (flat_map (λ d. raises_of (seen d)) ds) e),
  )

  pub are_seen : (ds : List Condition) → AllListed ds → AllTold ds → AreSeen env told ds
  are_seen ds l h = record {
    raises = raises_told ds l h;
    quiet = λ e. flat_alike (λ d. raises_of (meant d)) (λ d. raises_of (seen d)) ds (all_weaker (λ d. meant d ≡ seen d) (λ d. raises_of (meant d) ≡ raises_of (seen d)) (λ d s. ap raises_of s) ds (all_same ds l h e)) ∙ e;
    holds = λ e. list_all_alike (λ d. is_surely_true (seen d)) (λ d. is_surely_true (meant d)) ds (all_weaker (λ d. meant d ≡ seen d) (λ d. is_surely_true (seen d) ≡ is_surely_true (meant d)) (λ d s. sym (ap is_surely_true s)) ds (all_same ds l h e));
  }

pub late_conjuncts_see_what_is_told : LateConjunctsSeeWhatIsTold
late_conjuncts_see_what_is_told env told conditions h =
    let seen : List ℕ = flat_map seen_blocks conditions in
    are_seen env told seen conditions (all_flat (Contains seen) seen_blocks conditions (all_listed seen)) h
