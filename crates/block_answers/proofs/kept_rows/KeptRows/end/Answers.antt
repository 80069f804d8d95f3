use Rattle.std.proofs.Common.{◌∙◌, subst, Bool, List, Ok, map}
use Rattle.std.specs.Prelude.{IsPermutation}
use Rattle.std.proofs.lemmas.List.Sorted.{IsPermutation-trans}
use Rattle.definitions.specs.Arithmetic.{Meaning, Is, Raises}
use Rattle.definitions.specs.Table.{Row}
use Rattle.definitions.specs.Value.{Value}
use Rattle.definitions.specs.Queries.Answer.{block_answer}
use Rattle.definitions.specs.Queries.Evaluation.{Combination}
use Rattle.definitions_answers.specs.Told.{values_asked, Tells}
use Rattle.definitions_execution.specs.OfBlock.{combination_of}
use Rattle.sqlvalue.specs.Owned.{owned_value}
use Rattle.sqlvalue.specs.Raises.{raise_of}
use Rattle.result_lines.specs.Faults.{IfRaised}
use Rattle.result_lines.specs.declared.fault.AnswerFault.TheVariants as f
use Rattle.filters.specs.Sources.{block_in}
use Rattle.subqueries.specs.FirstValues.{values_in}
use Rattle.block_answers.specs.BlockRows.{MayRaiseOn, TellsOf}
use Rattle.block_answers.specs.Groups.{AreTyped}
use Rattle.block_answers.specs.KeptRows.{asks_existence, TellsByLate}
use Rattle.block_answers.specs.Telling.{context_with}
use Rattle.block_answers.proofs.Ending.{late_told, raise_is_told, raise_told, values_told}
use Rattle.block_answers.proofs.KeptTaking.{not_late}
use Rattle.block_answers.proofs.kept_rows.KeptRows.end.Goals as goal

pub returns-in-Some : goal.returns-in-Some
returns-in-Some g c inner all ready told =
    let s = c.args.source.now in
    let outer = g.A.OuterRows.combinations c.args.around.now in
    raise_is_told (asks_existence c.args.self) _ (block_in s).order (raise_of c.in-Some.raise) (late_told s outer inner all ready (f.Raised c.in-Some.raise) (subst (λ late. TellsByLate s outer inner late (map (combination_of s.database (block_in s)) all) c.args.self.rows) c.in-Some.is told))

-- values are told of rows in any order
in_other_order : (existence : Bool) (m : Meaning (List Row)) (values ordered : List Value) → IsPermutation values ordered → Tells existence m (Ok values) → Tells existence m (Ok ordered)
in_other_order existence (Is rows) values ordered same told = IsPermutation-trans (values_asked existence rows) values ordered told same
in_other_order existence (Raises r rs) values ordered same told = absurd told

pub returns-in_ok-sorted-in-Ok : goal.returns-in_ok-sorted-in-Ok
returns-in_ok-sorted-in-Ok g c inner all ready told =
    let s = c.args.source.now in
    let outer = g.A.OuterRows.combinations c.args.around.now in
    let have = not_late s outer inner _ c.args.self.late c.args.self.rows c.in_default.not-Some told in
    in_other_order (asks_existence c.args.self) (block_answer (context_with s outer inner) (block_in s)) (map owned_value c.into_values.result.items) (values_in c.in_ok-sorted-in-Ok.sorted) c.in_ok-sorted-in-Ok.ensures
    (values_told s outer inner all ready c.args.self.rows have (asks_existence c.args.self) c.in-Ok.store _ c.in-Ok.ensures.rows (c.in-Ok.ensures.kind ∙ c.requires.kind) c.into_values.ensures)

pub returns-in-Err-Raised : goal.returns-in-Err-Raised
returns-in-Err-Raised g c inner all ready told =
    let s = c.args.source.now in
    let outer = g.A.OuterRows.combinations c.args.around.now in
    let have = not_late s outer inner _ c.args.self.late c.args.self.rows c.in_default.not-Some told in
    let raised : IfRaised (f.Raised c.in-Err-Raised.raise) (λ raise. (ks : List Combination) → AreTyped s outer ks → TellsOf s outer ks c.args.self.rows → MayRaiseOn s outer ks raise) =
    subst (λ fault. IfRaised fault (λ raise. (ks : List Combination) → AreTyped s outer ks → TellsOf s outer ks c.args.self.rows → MayRaiseOn s outer ks raise)) c.in-Err-Raised.field-0-is c.in-Err-Raised.ensures.raised in
    rw (← c.in-Err-Raised.raise-is) at (raise_is_told (asks_existence c.args.self) (block_answer (context_with s outer inner) (block_in s)) (block_in s).order (raise_of c.in-Err-Raised.raise) (raise_told s outer inner all ready c.args.self.rows have (f.Raised c.in-Err-Raised.raise) raised))
