-- What bytes spell is what is written of it.
use Rattle.std.proofs.Common.{◌≡◌, ◌∙◌, refl, sym, ap, ap₂, subst, ℕ, ◌+◌, ◌-◌, ◌<◌, List, [], ◌∷◌, true, Option, Some, None, arith, length, get_or}
use Rattle.std.specs.Prelude.{IsTrue, map, position, unwrap_or, IsSome}
use Rattle.std.specs.List.{AllByRecursion}
use Rattle.std.proofs.lemmas.Bool.{eqb-true}
use Rattle.std.proofs.lemmas.List.Quantifiers.{position-Some}
use Rattle.std.proofs.lemmas.List.Elements.{recursion_from_All}
use Rattle.definitions.specs.Plans.Path.{Path, SegmentScan, IndexScan, MatchingScan}
use Rattle.definitions.specs.Plans.Plan.{Plan, Access, Loop, Merge, Sort}
use Rattle.definitions.specs.Plans.Certificate.{Certificate}
use Rattle.definitions.specs.Estimates.Version.{Version, One, Two, Three}
use Rattle.definitions.specs.Certificates.CertifiedBlock.{CertifiedBlock, indexes_of, is_on_column}
use Rattle.definitions.specs.Certificates.Text.{Written, text_of}
use Rattle.definitions.specs.Certificates.Form.{has_form}
use Rattle.definitions.specs.Certificates.Spelling.{index_meant, path_meant, plan_meant, IsOneOf, IndexIsThere, ConjunctIsThere, PathIsThere, PlanIsThere, AreThere, AreBelow, Spells}
use Rattle.definitions.specs.Certificates.Writing.{index_written, path_written, plan_written, written, text_written, IsSpellable}

-- ---- numbers that are there are written as they stand

named : (column : ℕ) (index : List ℕ) → is_on_column column index ≡ true → get_or index 0 0 ≡ column
named column [] h = absurd (cc)
named column (own ∷ []) h = eqb-true own column h
named column (own ∷ other ∷ more) h = absurd (cc)

found_written : (indexes : List (List ℕ)) (n : ℕ) (p : Option ℕ) → position (is_on_column (n - 1)) indexes ≡ p → 0 < n → IsSome p
    → get_or (get_or indexes (unwrap_or p 0) []) 0 0 + 1 ≡ n
found_written indexes n (Some i) e some is =
    let k = position-Some (is_on_column (n - 1)) indexes i [] e in
    omega (arith, named (n - 1) (get_or indexes i []) k.1, some)
found_written indexes n None e some is = absurd (cc)

index_again : (version : Version) (indexes : List (List ℕ)) (n : ℕ) → IndexIsThere version indexes n → index_written version indexes (index_meant version indexes n) ≡ n
index_again One indexes n (some, is) = found_written indexes n (position (is_on_column (n - 1)) indexes) refl some is
index_again Two indexes n (some, le) = omega (arith, some)
index_again Three indexes n (some, le) = omega (arith, some)

numbers_again : (count : ℕ) (ns : List ℕ) → AllByRecursion (IsOneOf count) ns → map (λ n. n + 1) (map (λ n. n - 1) ns) ≡ ns
numbers_again count [] h = refl
numbers_again count (n ∷ ns) (h, hs) =
    let e : n - 1 + 1 ≡ n = omega (arith, h.0) in
    ap₂ (λ (x : ℕ) (xs : List ℕ). x ∷ xs) e (numbers_again count ns hs)

module _ (block : CertifiedBlock) where
  path_again : (path : Path) → PathIsThere block path → path_written block (path_meant block path) ≡ path
  path_again (SegmentScan t) h = let e : t - 1 + 1 ≡ t = omega (arith, h.0) in ap SegmentScan e
  path_again (IndexScan t i backward) (h, k) =
      let e : t - 1 + 1 ≡ t = omega (arith, h.0) in
      ap₂ (λ (u j : ℕ). IndexScan u j backward) e (index_again block.version (indexes_of block (t - 1)) i k)
  path_again (MatchingScan t i gs backward) (h, k, all) =
      let e : t - 1 + 1 ≡ t = omega (arith, h.0) in
      ap₂ (λ (u j : ℕ). MatchingScan u j (map (λ n. n + 1) (map (λ n. n - 1) gs)) backward) e (index_again block.version (indexes_of block (t - 1)) i k)
      ∙ ap (λ (l : List ℕ). MatchingScan t i l backward) (numbers_again (length block.space.conjuncts) gs (recursion_from_All (ConjunctIsThere block) gs all))

  plan_again : (plan : Plan) → PlanIsThere block plan → plan_written block (plan_meant block plan) ≡ plan
  plan_again (Access path) h = ap Access (path_again path h)
  plan_again (Loop outer path) (h, k) = ap₂ Loop (plan_again outer h) (path_again path k)
  plan_again (Merge outer g inner) (h, k, l) =
      let e : g - 1 + 1 ≡ g = omega (arith, k.0) in
      ap (λ (p : Plan). Merge p (g - 1 + 1) (record inner { path = path_written block (path_meant block inner.path) })) (plan_again outer h)
      ∙ ap₂ (λ (x : ℕ) (p : Path). Merge outer x (record inner { path = p })) e (path_again inner.path l)
  plan_again (Sort input k) (h, l) = ap (λ (p : Plan). Sort p k) (plan_again input h)

  said_again : (said : Written) → AreThere block said → written block (plan_meant block said.plan) said.certificate ≡ said
  said_again said (number, plan, states) = ap₂ (λ (b : ℕ) (p : Plan). record { block = b; plan = p; certificate = said.certificate }) (sym number) (plan_again said.plan plan)

  -- ---- laws

  module _ (bytes : List ℕ) (plan : Plan) (certificate : Certificate) where
    written_again : (s : Spells block bytes plan certificate) → written block plan certificate ≡ s.said
    written_again s = ap₂ (written block) s.meant s.as_written ∙ said_again s.said s.there

    pub spelled_is_written : Spells block bytes plan certificate → IsSpellable block plan certificate × (bytes ≡ text_written block plan certificate)
    spelled_is_written s =
        let e = sym (written_again s) in (
          record {
            form = subst (λ (w : Written). IsTrue (has_form block.version w)) e s.says.0;
            there = subst (AreThere block) e s.there;
            meant = ap (λ (w : Written). plan_meant block w.plan) (written_again s) ∙ sym s.meant;
            below = subst AreBelow (sym s.as_written) s.below;
          },
          s.says.1 ∙ ap (text_of block.version) e,
        )

    pub is_spelled : IsSpellable block plan certificate → bytes ≡ text_written block plan certificate → Spells block bytes plan certificate
    is_spelled can is = record {
      said = written block plan certificate;
      says = (can.form, is);
      there = can.there;
      meant = sym can.meant;
      as_written = refl;
      below = can.below;
    }

  pub written_is_spelled : (plan : Plan) (certificate : Certificate) → IsSpellable block plan certificate → Spells block (text_written block plan certificate) plan certificate
  written_is_spelled plan certificate can = is_spelled (text_written block plan certificate) plan certificate can refl

  pub has_one_spelling : (a b : List ℕ) (plan : Plan) (certificate : Certificate) → Spells block a plan certificate → Spells block b plan certificate → a ≡ b
  has_one_spelling a b plan certificate g h = (spelled_is_written a plan certificate g).1 ∙ sym (spelled_is_written b plan certificate h).1
