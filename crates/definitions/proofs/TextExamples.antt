use Rattle.std.proofs.Common.{◌≡◌, refl, sym, ap, ℕ, List, [], ◌∷◌, false, arith}
use Rattle.std.specs.Prelude.{codes, pos, slice_index, unwrap_or, ℤ, negsuc, ◌*ℤ◌, ◌^◌, ◌*◌, nat_abs}
use Rattle.std.specs.Cmp.{int_ranked}
use Rattle.std.specs.Ordering.{int_cmp}
use Rattle.std.specs.Fmt.{digits}
use Rattle.std.specs.declared.cmp.Ordering.TheVariants.{Less, Equal}
use Rattle.definitions.specs.Value.{Value, Null, Number, Text, Integer}
use Rattle.definitions.specs.Word as w
use Rattle.definitions.specs.Token.{TokenKind, Reserved}
use Rattle.definitions.specs.Statement.{Statement, Load}
use Rattle.definitions.specs.Rule as r
use Rattle.definitions.specs.Grammar as g
use Rattle.definitions.specs.Grammar.{BeginsNone}
use Rattle.definitions.specs.Loading as f
use Rattle.definitions.specs.Loading.{StoresAs}
use Rattle.definitions.specs.Refusal.{Unexpected}
use Rattle.definitions.specs.Examples.Texts.{ValuesCompare, TextsRead, TokensDerive, FieldsAndRows, CellsCompare}

no_tenth : (u : ℤ) → u *ℤ pos 10 ≡ pos 51 → ⊥
no_tenth (pos n) h = let e : n * 10 ≡ 51 = ap nat_abs h in omega arith
no_tenth (negsuc n) h = grind (arith, h)

pub not_an_integer : (v : Value) → StoresAs Integer (Number (pos 51) 1) 2 v → ⊥
not_an_integer Null h = grind (arith, h.1)
not_an_integer (Number u s) h =
    let tied : int_cmp (u *ℤ pos 10) (pos 51 *ℤ pos (10 ^ s)) ≡ Equal = ap (λ o. unwrap_or o Less) h.1 in
    let same : u *ℤ pos 10 ≡ pos 51 *ℤ pos (10 ^ s) = int_ranked _ _ Equal (sym tied) in
    no_tenth u (rw h.0.0 at same)
not_an_integer (Text t) h = h.0

-- no script begins with LOAD FROM
no_load : (more : List TokenKind) (to : ℕ) (x : Statement) → g.LoadAt (Reserved w.Load ∷ Reserved w.From ∷ more) 1 to x → ⊥
unfolding g.LoadAt
no_load more to x (r.then a m b z w (r.reads i j v y h d) k) = cc
no_load more to x (r.then a m b z w (r.reads_not i j y h d) k) = elim d [ ]

no_statement : (levels : ℕ) (more : List TokenKind) (to : ℕ) (x : Statement) → g.StatementOf (g.within levels) (Reserved w.Load ∷ Reserved w.From ∷ more) 0 to x → ⊥
unfolding g.StatementOf
no_statement levels more to x (r.sees a b z h k) = cc
no_statement levels more to x (r.misses a b z h (r.sees c d y i (r.past e f v j k))) = no_load more to x k
no_statement levels more to x (r.misses a b z h (r.misses c d y i k)) = i refl

begins_none : (levels : ℕ) → BeginsNone levels (Reserved w.Load ∷ Reserved w.From ∷ [])
begins_none levels more ss (g.end at e) = omega (arith, e)
begins_none levels more ss (g.next at mid s rest d semi more') = no_statement levels more _ _ d

pub values_compare : ValuesCompare
values_compare = record {
  padded_texts_are_equal = refl;
  null_is_unknown = refl;
  nulls_rank_alike = refl;
  null_ranks_first = refl;
  scales_rank_alike = refl;
  negative_scales_rank_alike = refl;
  negative_ranks_first = refl;
  blanks_rank_alike = refl;
  capitals_rank_first = refl;
}

pub texts_read : TextsRead
texts_read = record {
  open_string_at_7 = (codes "SELECT" ∷ codes " " ∷ codes "'ab" ∷ [], (codes " 'ab", refl, refl, refl, (codes "'ab", refl, refl, refl, ([], refl, refl, refl, refl))), refl);
  short_script = (
    codes "load" ∷ codes " " ∷ codes "T" ∷ codes ";" ∷ codes "--x" ∷ [],
    (codes " T;--x", refl, refl, refl, (codes "T;--x", refl, refl, refl, (codes ";--x", refl, refl, refl, (codes "--x", refl, refl, refl, ([], refl, refl, refl, refl))))),
    refl,
  );
  empty_script = ([], refl, refl);
  comment_alone = (codes "--'A" ∷ [], ([], refl, refl, refl, refl), refl);
  symbols_touch = (codes "<>" ∷ codes "=" ∷ [], (codes "=", refl, refl, refl, ([], refl, refl, refl, refl)), refl);
  doubled_quote = (codes "'it''s'" ∷ [], ([], refl, refl, refl, refl), refl);
  number_at_scale_2 = (codes "1.50" ∷ [], ([], refl, refl, refl, refl), refl);
  stray_at_2 = (codes "A" ∷ codes " " ∷ codes "?" ∷ [], (codes " ?", refl, refl, refl, (codes "?", refl, refl, refl, ([], refl, refl, refl, refl))), refl);
  letter_behind_number = (codes "1x" ∷ [], ([], refl, refl, refl, refl), refl);
  name_of_19 = (codes "ABCDEFGHIJKLMNOPQRS" ∷ [], ([], refl, refl, refl, refl), refl);
  number_of_39 = (codes "100000000000000000000000000000000000000" ∷ [], ([], refl, refl, refl, refl), refl);
}

pub tokens_derive : TokensDerive
unfolding g.StatementOf g.LoadAt
tokens_derive = record {
  load_derives = let file : g.StringAt _ 3 4 (codes "f") = r.reads _ _ _ _ refl (r.gives _ _ _ refl refl) in
      let table : g.NameAt _ 1 2 (codes "T") = r.reads _ _ _ _ refl (r.gives _ _ _ refl refl) in
      let load : g.LoadAt _ 1 4 (Load (codes "T") (codes "f")) = r.then _ _ _ _ _ table (r.past _ _ _ refl (r.then _ _ _ _ _ file (r.gives _ _ _ refl refl))) in
      g.next 0 4 _ _ (r.misses _ _ _ (λ e. cc) (r.sees _ _ _ refl (r.past _ _ _ refl load))) refl (g.end 5 refl);
  load_from_fails_at_5 = g.at_token Unexpected 5 1 (record { at = 5; text = codes "FROM"; kind = Reserved w.From }) refl refl begins_none;
}

pub fields_and_rows : FieldsAndRows
unfolding digits
fields_and_rows = record {
  printed_row = refl;
  fraction_is_out_of_range = f.unfit (Number (pos 51) 1) 2 (λ e. let d : 53 ≡ 92 = ap (λ xs. slice_index xs 0) e in omega arith) (record { sign = []; numeral = codes "5.1"; minus = false; is = refl; is_sign = f.no_sign refl refl; is_numeral = refl; writes = refl; count = refl }) not_an_integer;
}

pub cells_compare : CellsCompare
cells_compare = record {
  lesser_cells = refl;
  greater_cells = refl;
  equal_cells = refl;
  other_cells = refl;
  unknown_cells = refl;
  unknown_with_null = refl;
}
