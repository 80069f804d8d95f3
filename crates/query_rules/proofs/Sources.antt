-- The tables of a FROM, one after another, and their names.
use Rattle.std.proofs.Common.{◌≡◌, ◌∙◌, refl, sym, subst, inl, inr, ℕ, zero, suc, ◌+◌, ◌<◌, List, [], ◌∷◌, ◌++◌, Bool, true, false, length, map, drop, get_or, arith}
use Rattle.std.specs.Prelude.{◌||◌, IsFalse, bytes_eq}
use Rattle.std.specs.List.{list_any, AllByRecursion}
use Rattle.std.proofs.lemmas.List.{map-append}
use Rattle.definitions.specs.Lists.{AnyOf}
use Rattle.definitions.specs.Statement.{Name}
use Rattle.definitions.specs.Table.{AreDistinct}
use Rattle.definitions.specs.Binding.Scopes.{NamedTable, Scope, is_called}
use Rattle.query_rules.proofs.Views.{seen_next, pushed}

abbrev pub names : Scope → List Name
names = map (λ (t : NamedTable). t.name)

pub any_at : {A X : Type 0} (P : X → Type 0) (view : A → X) (xs : List A) (i : ℕ) (x : A) → i < length xs → x ≡ get_or xs i x → P (view x) → AnyOf P (map view xs)
any_at P view [] i x l e h = absurd (omega (arith, l))
any_at P view (y ∷ xs) zero x l e h = inl (subst (λ z. P (view z)) e h)
any_at P view (y ∷ xs) (suc i) x l e h = inr (any_at P view xs i x (omega (arith, l)) e h)

-- ---- a name that was taken

at_middle : (P : Name → Type 0) (ts : Scope) (t : NamedTable) (rest : Scope) → AllByRecursion P (names (ts ++ t ∷ rest)) → P t.name
at_middle P [] t rest h = h.0
at_middle P (u ∷ ts) t rest h = at_middle P ts t rest h.1

twice_by : (b c : Bool) → (b || c) ≡ true → IsFalse b → c ≡ true
twice_by true c h f = absurd cc
twice_by false c h f = h

pub twice : (ts : Scope) (t : NamedTable) (rest : Scope) → list_any (is_called t.name) ts ≡ true → AreDistinct (names (ts ++ t ∷ rest)) → ⊥
twice [] t rest h a = cc
twice (u ∷ ts) t rest h a = twice ts t rest (twice_by _ _ h (at_middle (λ m. IsFalse (bytes_eq u.name m)) ts t rest a.0)) a.1

-- ---- a name that was not taken

all_pushed : (P : Name → Type 0) (ts : Scope) (t : NamedTable) → AllByRecursion P (names ts) → P t.name → AllByRecursion P (names (ts ++ t ∷ []))
all_pushed P [] t h p = (p, tt)
all_pushed P (u ∷ ts) t h p = (h.0, all_pushed P ts t h.1 p)

either_false : (a b : Bool) → (a || b) ≡ false → (a ≡ false) × (b ≡ false)
either_false true b h = absurd cc
either_false false b h = (refl, h)

pub still_distinct : (ts : Scope) (t : NamedTable) → list_any (is_called t.name) ts ≡ false → AreDistinct (names ts) → AreDistinct (names (ts ++ t ∷ []))
still_distinct [] t h a = (tt, tt)
still_distinct (u ∷ ts) t h a =
    let (first, others) = either_false (bytes_eq u.name t.name) _ h in
    (all_pushed (λ m. IsFalse (bytes_eq u.name m)) ts t a.0 first, still_distinct ts t others a.1)

-- ---- the table of the next source

module _ {A S X : Type 0} (view : A → NamedTable) (table : X → NamedTable) (source : S → X) (ts : List A) (t : A) (xs : List S) (i : ℕ) (x : S) (all : Scope) where
  next_found : i < length xs → x ≡ get_or xs i x → view t ≡ table (source x) → map view ts ++ map table (map source (drop i xs)) ≡ all → map view ts ++ (view t ∷ map table (map source (drop (i + 1) xs))) ≡ all
  next_found l e v f = rw v (rw (seen_next source xs i x l e) at f)

  pub taken : (b : Bool) → i < length xs → x ≡ get_or xs i x → view t ≡ table (source x) → map view ts ++ map table (map source (drop i xs)) ≡ all
      → b ≡ list_any (is_called (view t).name) (map view ts) → b ≡ true → AreDistinct (names all) → ⊥
  taken b l e v f h c a = twice (map view ts) (view t) (map table (map source (drop (i + 1) xs))) (sym h ∙ c) (rw (← next_found l e v f) at a)

  pub found_more : (us : List A) → i < length xs → x ≡ get_or xs i x → view t ≡ table (source x) → us ≡ ts ++ t ∷ [] → map view ts ++ map table (map source (drop i xs)) ≡ all
      → map view us ++ map table (map source (drop (i + 1) xs)) ≡ all
  found_more us l e v p f = pushed view ts us t (map table (map source (drop (i + 1) xs))) p ∙ next_found l e v f

pub distinct_more : {A : Type 0} (view : A → NamedTable) (ts us : List A) (t : A) (b : Bool) → b ≡ list_any (is_called (view t).name) (map view ts) → b ≡ false → us ≡ ts ++ t ∷ [] → AreDistinct (names (map view ts)) → AreDistinct (names (map view us))
distinct_more view ts us t b h c p a = rw (p, map-append view ts (t ∷ [])) (still_distinct (map view ts) (view t) (sym h ∙ c) a)
