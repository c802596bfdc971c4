use Rattle.std.proofs.Common.{◌≡◌, ◌+◌, ◌*◌, ◌<◌, length, None, refl, ◌∙◌, arith}
use Rattle.std.proofs.lemmas.List.{get_or_default}
use Rattle.section_data.proofs.Runs.{none_joined, joined_more, all_joined}
use Rattle.section_data.proofs.blocks.joined_span.Goals as goal

pub loop-part-init : goal.loop-part-init
loop-part-init c = (
  c.none-span.ensures.some,
  λ size pieces noted. none_joined size _ _ pieces c.none-span.ensures.end,
)

pub joined-requires : goal.joined-requires
joined-requires c = c.loop-part.invariant.0

pub loop-part-preserved : goal.loop-part-preserved
loop-part-preserved c =
    let place = c.args.block * 32 + c.loop-part.part in
    let there : place < length c.args.spans.now =
    omega (arith, c.if-spans-block.false, c.loop-part-test.true) in (
      c.in-Some-joined.ensures.some,
      λ size pieces noted.
          joined_more size (c.args.block * 32) c.loop-part.part c.loop-part.span c.in-Some.next
          c.in-Some-joined.more pieces (c.loop-part.invariant.1 size pieces noted)
          (noted place c.in-Some.next
          (get_or_default c.args.spans.now place None _ there ∙ c.in-Some.is))
          c.in-Some-joined.ensures.end,
    )

pub returns : goal.returns
returns c = λ size pieces noted.
    let all : c.loop-part.part ≡ 32 =
    omega (arith, c.loop-part-test.false, c.loop-part.auto.part-end) in
    all_joined size c.args.block (c.args.block * 32) c.loop-part.part c.loop-part.span pieces refl
    all (c.loop-part.invariant.1 size pieces noted)
