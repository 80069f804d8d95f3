use Rattle.definitions.specs.Certificates.Explaining.{certified}
use Rattle.query_tree.specs.Bound.{block_of}
use Rattle.plan_tree.specs.Certificates.{certificate_of}
use Rattle.plan_tree.specs.Versions.{version_of}
use Rattle.certificate.specs.Planned.{space_in}
use Rattle.certificate_files.specs.Telling.{judgement_told, told_of}
use Rattle.certificate_files.proofs.TextsTold.{few_tables, is_certificate, told_of_read}
use Rattle.certificate_files.proofs.telling.block_told.Goals as goal

pub read_text-requires : goal.read_text-requires
read_text-requires c =
    let own = certified c.args.database.now c.args.number (block_of c.args.block.now) (version_of c.args.version) in
    record { few = few_tables c.args.database.now (block_of c.args.block.now) _ c.requires.formed (c.certified_block.ensures own c.in_ok-own.ensures).tables }

pub spelled_told-requires : goal.spelled_told-requires
spelled_told-requires c =
    let own = certified c.args.database.now c.args.number (block_of c.args.block.now) (version_of c.args.version) in
    is_certificate c.args.database.now c.args.number (block_of c.args.block.now) (version_of c.args.version) (space_in c.in_ok-own.own.space) c.in_ok-own.ensures.space c.args.bytes.now
    (certificate_of c.in-Ok.spelled.certificate) c.in-Ok.spelled.plan (c.in-Ok.ensures.ok own (c.certified_block.ensures own c.in_ok-own.ensures))

pub returns-in_ok-judged-in-Ok-clause-told : goal.returns-in_ok-judged-in-Ok-clause-told
returns-in_ok-judged-in-Ok-clause-told c =
    let own = certified c.args.database.now c.args.number (block_of c.args.block.now) (version_of c.args.version) in
    rw c.with_text.ensures.told (told_of_read c.args.database.now c.args.number (block_of c.args.block.now) (version_of c.args.version) (space_in c.in_ok-own.own.space) c.in_ok-own.ensures.space c.args.bytes.now
    (certificate_of c.in-Ok.spelled.certificate) c.requires.valid c.in-Ok.spelled.plan (c.in-Ok.ensures.ok own (c.certified_block.ensures own c.in_ok-own.ensures))
    (told_of (judgement_told c.in_ok-judged-in-Ok.judged)) c.in_ok-judged-in-Ok.ensures.told)

pub returns-in_ok-told-in-Err-clause-told : goal.returns-in_ok-told-in-Err-clause-told
returns-in_ok-told-in-Err-clause-told c =
    let own = certified c.args.database.now c.args.number (block_of c.args.block.now) (version_of c.args.version) in
    c.in_ok-told-in-Err.ensures.told own c.args.bytes.now (c.in-Err.ensures.err own (c.certified_block.ensures own c.in_ok-own.ensures))

pub returns-in_ok-judged-in-Ok-clause-kept : goal.returns-in_ok-judged-in-Ok-clause-kept
returns-in_ok-judged-in-Ok-clause-kept c =
    let own = certified c.args.database.now c.args.number (block_of c.args.block.now) (version_of c.args.version) in
    c.with_text.ensures.kept own c.args.bytes.now c.in_ok-own.ensures (c.in-Ok.ensures.ok own (c.certified_block.ensures own c.in_ok-own.ensures)) c.in_ok-judged-in-Ok.ensures.first
