use Rattle.std.proofs.Common.{◌+◌, refl}
use Rattle.section_table.specs.elf_ident.Front.{front_bytes, most_front_bytes}
use Rattle.elf_descriptor.proofs.BeginAnswers.{opened_told, opened_refused, over_answers, over_begun, over_asks, over_bound}
use Rattle.elf_descriptor.proofs.descriptor.Elf.begin.Goals as goal

pub begin_with-requires-clause-told : goal.begin_with-requires-clause-told
begin_with-requires-clause-told g c =
    opened_told (g.S.Source.holds c.args.src) (g.S.Source.holds c.read_front.new.src)
    c.in-Ok.front c.in-Ok.ensures.asks.leaves.same_bytes c.in-Ok.ensures.front

pub returns-in-Ok-clause-answer : goal.returns-in-Ok-clause-answer
returns-in-Ok-clause-answer g c =
    over_answers g.S.Source c.in-Ok.front c.read_front.new.src c.begin_with.result
    (g.S.Source.holds c.args.src) c.in-Ok.ensures.asks.leaves.same_bytes
    (opened_told (g.S.Source.holds c.args.src) (g.S.Source.holds c.args.src) c.in-Ok.front refl
    c.in-Ok.ensures.front)
    c.begin_with.ensures.state c.begin_with.ensures.back

pub returns-in-Ok-clause-begun : goal.returns-in-Ok-clause-begun
returns-in-Ok-clause-begun g c =
    over_begun g.S.Source c.in-Ok.front c.read_front.new.src c.begin_with.result c.args.src
    c.in-Ok.ensures.fitting c.in-Ok.ensures.counted c.in-Ok.ensures.tables c.in-Ok.ensures.small
    c.begin_with.ensures.state

pub returns-in-Ok-clause-asks : goal.returns-in-Ok-clause-asks
returns-in-Ok-clause-asks g c =
    over_asks g.S.Source c.in-Ok.front c.read_front.new.src c.begin_with.result _ c.args.src
    most_front_bytes c.in-Ok.ensures.asks c.begin_with.ensures.state c.begin_with.ensures.back

pub returns-in-Ok-clause-bound : goal.returns-in-Ok-clause-bound
returns-in-Ok-clause-bound g c =
    over_bound g.S.Source c.in-Ok.front c.read_front.new.src c.begin_with.result
    (g.S.Source.holds c.args.src) (λ image. g.S.Source.taken c.args.src + front_bytes image)
    c.in-Ok.ensures.bound c.begin_with.ensures.state c.begin_with.ensures.back

pub returns-in-Err-clause-answer : goal.returns-in-Err-clause-answer
returns-in-Err-clause-answer g c = opened_refused (g.S.Source.holds c.args.src) c.in-Err.refusal
    c.in-Err.ensures.front
