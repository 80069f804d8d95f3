use Rattle.std.proofs.lemmas.Result.{IfOk-weaker, IfErr-weaker}
use Rattle.certificate_syntax.specs.Said.{said_of}
use Rattle.certificate.specs.Blocks.{block_in}
use Rattle.certificate.specs.Reads.{IsMeant, IsLacking, IsRead, HasTextFault}
use Rattle.certificate.proofs.Read.{is_read, is_faulty}
use Rattle.certificate.proofs.reading.read_text.Goals as goal

pub returns-in-Ok-clause-ok : goal.returns-in-Ok-clause-ok
returns-in-Ok-clause-ok c = λ of is.
    let said = said_of c.in-Ok.said in
    IfOk-weaker c.read_meaning.result (IsMeant (block_in c.args.block.now) said) (IsRead of c.args.bytes.now)
    (is_read of c.args.block.now is c.args.bytes.now said c.in-Ok.ensures.said) c.read_meaning.ensures.ok

pub returns-in-Ok-clause-err : goal.returns-in-Ok-clause-err
returns-in-Ok-clause-err c = λ of is.
    let said = said_of c.in-Ok.said in
    IfErr-weaker c.read_meaning.result (IsLacking (block_in c.args.block.now) said) (HasTextFault of c.args.bytes.now)
    (is_faulty of c.args.block.now is c.args.bytes.now said c.in-Ok.ensures.said) c.read_meaning.ensures.err
