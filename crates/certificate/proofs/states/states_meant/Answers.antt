use Rattle.std.proofs.Common.{◌<◌, length, get_or, arith}
use Rattle.plan_tree.specs.Certificates.{state_of}
use Rattle.definitions.specs.Certificates.Spelling.{StateIsThere}
use Rattle.certificate_syntax.specs.declared.written.WrittenState.{WrittenState}
use Rattle.certificate_syntax.specs.Said.{state_said}
use Rattle.certificate.specs.Blocks.{block_in}
use Rattle.certificate.proofs.Elements.{same_element, at_element, gathered, one_more, mapped_element}
use Rattle.certificate.proofs.states.states_meant.Goals as goal

abbrev zero : WrittenState
zero = record { tables = 0; order = 0; cost = 0 }

pub returns-in-Err-clause-err : goal.returns-in-Err-clause-err
returns-in-Err-clause-err c = λ all.
    let within : c.states.place < length c.args.said.now = omega arith in
    let own = get_or c.args.said.now c.states.place zero in
    c.in-Err.ensures.err
    (at_element (StateIsThere (block_in c.args.block.now)) state_said c.args.said.now c.states.place own within (same_element c.args.said.now c.states.place zero own within) all)

pub states-preserved : goal.states-preserved
states-preserved c =
    let within : c.states.place < length c.args.said.now = omega arith in
    let own = get_or c.args.said.now c.states.place zero in
    let is = same_element c.args.said.now c.states.place zero own within in
    record {
      exact = gathered state_said state_of c.args.said.now c.states.place own c.states.states.items c.push.new.self.items c.in-Ok.state within is c.in-Ok-push.ensures.items c.in-Ok.ensures.ok.0 c.states.invariant.exact;
      there = one_more (StateIsThere (block_in c.args.block.now)) _ c.states.place (state_said own) (λ d. mapped_element state_said c.args.said.now c.states.place d own within is) c.in-Ok.ensures.ok.1 c.states.invariant.there;
    }
