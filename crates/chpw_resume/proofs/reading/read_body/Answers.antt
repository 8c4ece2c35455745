use Rattle.std.proofs.Common.{sym, ◌∙◌}
use Rattle.chpw_resume.specs.ResumeText.{blocks_of}
use Rattle.chpw_resume.proofs.TextLemmas.{blocks_short, blocks_of_body, body_found, few_blocks, rest_of_body, split_two}
use Rattle.chpw_resume.proofs.reading.read_body.Goals as goal

pub returns-in_default-2 : goal.returns-in_default-2
returns-in_default-2 c =
    let none = rw c.in_default-2.is at c.in_ok-blocks.ensures.value in
    record {
      value = λ r f e. none (blocks_of r) (blocks_short r f) (rest_of_body r c.args.body.now c.in-Some.rest.now c.in-Some.ensures.value e);
    }

pub returns : goal.returns
returns c =
    let some = rw c.in-Some-2.is at c.in_ok-blocks.ensures.value in
    record {
      value = λ r f e.
          let few = rw c.as_slice.ensures.value at c.in_default-as_slice.len_below in
          few_blocks r c.in-Some-2.blocks.items few
          (blocks_of_body r c.args.body.now c.in-Some.rest.now c.in-Some-2.blocks.items f c.in-Some.ensures.value some.0 some.1 e);
    }

pub returns-in-len2-up : goal.returns-in-len2-up
returns-in-len2-up c =
    let some = rw c.in-Some-2.is at c.in_ok-blocks.ensures.value in
    record {
      value = body_found c.args.body.now c.in-Some.rest.now c.in-Some-2.blocks.items _ c.read_parts.result c.in-Some.ensures.value some.0 some.1
          (sym c.as_slice.ensures.value
          ∙ split_two c.as_slice.result.now c.realm-item.result c.as_slice-in-len2-up.result.now c.state-item.result c.in-len2-up.len_at_least
          c.realm-item.is c.state-item.is c.as_slice-in-len2-up.ensures.value)
          c.read_parts.ensures.value;
    }
