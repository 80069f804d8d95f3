use Rattle.std.proofs.Common.{◌≤◌, sym, ap, subst, ℕ, ◌+◌, List, length, drop, map, arith}
use Rattle.std.proofs.lemmas.List.{length-map, length-drop}
use Rattle.definitions.specs.Binding.Formed.{IsFormedSomewhere}
use Rattle.query_tree.specs.Bound.{block_of}
use Rattle.plan_tree.specs.Versions.{version_of}
use Rattle.certificate_files.specs.Telling.{told_of, check_ended_of}
use Rattle.certificate_files.proofs.FirstLines.{whole_left}
use Rattle.certificate_files.proofs.Checked.{next_in_file, file_told, each_formed, first_of}
use Rattle.certificate_files.proofs.Kept.{all_kept, told_at, next_in_file_kept}
use Rattle.certificate_files.proofs.checking.check_file.Goals as goal

pub block_told-requires-clause-formed : goal.block_told-requires-clause-formed
block_told-requires-clause-formed c = each_formed (IsFormedSomewhere c.args.database.now) c.args.blocks.now _ _ c.requires.formed c.texts-test.true c.block-item.is

pub texts-preserved : goal.texts-preserved
texts-preserved c =
    let file : List ℕ = c.args.file.now in
    let start = c.texts.start in
    let end = c.text_end-end.result in
    let within : end ≤ length (drop start file) = rw (whole_left file start) at c.text_end-end.ensures.within in
    record {
      told = next_in_file c.args.database.now (map block_of c.args.blocks.now) file start end c.texts.number c.texts.block-index (block_of c.block-item.result) _ c.texts.text.items
          c.write_block.new.text.items (check_ended_of c.texts.ended) (check_ended_of c.with_block-ended.result) (version_of c.version_in-version.result) (told_of c.in_ok-judged.judged.told)
          (whole_left file start) c.texts.invariant.number (first_of c.args.blocks.now c.texts.block-index c.block-item.result c.texts-test.true c.block-item.is) c.version_in-version.ensures
          c.text_end-end.ensures.own c.text_end-end.ensures.rest c.in_ok-judged.ensures.told c.in_ok-write_block.ensures c.with_block-ended.ensures c.texts.invariant.told;
      kept = next_in_file_kept c.args.database.now (map block_of c.args.blocks.now) file start end c.texts.block-index (block_of c.block-item.result) _ c.texts.all.items c.push.new.self.items _
          (whole_left file start) (first_of c.args.blocks.now c.texts.block-index c.block-item.result c.texts-test.true c.block-item.is) c.text_end-end.ensures.rest c.in_ok-push.ensures.items
          (told_at c.args.database.now c.texts.number c.texts.block-index (block_of c.block-item.result) file _ end _ (whole_left file start) c.texts.invariant.number
          c.version_in-version.ensures c.text_end-end.ensures.own c.in_ok-judged.ensures.told c.in_ok-judged.ensures.kept)
          c.texts.invariant.kept;
      number = ap (λ (n : ℕ). n + 1) c.texts.invariant.number;
      within = omega (arith, within, length-drop start file, c.texts.invariant.within);
    }

pub returns-clause-blocks : goal.returns-clause-blocks
returns-clause-blocks c =
    let behind : length (map block_of c.args.blocks.now) ≤ c.texts.block-index = omega (arith, c.texts-test.false, length-map c.args.blocks.now block_of) in
    all_kept c.args.database.now (map block_of c.args.blocks.now) c.args.file.now c.texts.block-index _ c.texts.all.items behind c.texts.invariant.kept

pub returns-clause-told : goal.returns-clause-told
returns-clause-told c =
    let file : List ℕ = c.args.file.now in
    let start = c.texts.start in
    file_told c.args.database.now (map block_of c.args.blocks.now) file start c.texts.block-index _ c.texts.text.items c.write_rest.new.text.items (check_ended_of c.texts.ended)
    (check_ended_of c.with_rest.result) (whole_left file start) (omega (arith, c.texts-test.false, length-map c.args.blocks.now block_of)) c.in_ok-write_rest.ensures c.with_rest.ensures c.texts.invariant.told
