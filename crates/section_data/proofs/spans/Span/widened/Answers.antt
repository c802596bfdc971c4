use Rattle.std.proofs.Common.{ℕ, ◌+◌, ap, ◌∙◌}
use Rattle.elf_object.specs.elf_layout.Layout.{rounded_up}
use Rattle.section_data.proofs.Rounding.{widened_end}
use Rattle.section_data.proofs.spans.Span.widened.Goals as goal

pub returns-clause-end : goal.returns-clause-end
returns-clause-end c = λ end.
    let span = c.args.self.now in
    ap (λ (n : ℕ). rounded_up (end + n) c.args.align + c.args.len)
    (c.in-Some-checked_add.ensures.1 ∙ ap (λ (m : ℕ). span.before + m) c.in-Some.ensures.1)
    ∙ widened_end end span.before span.align span.len c.args.align c.args.len
    c.requires.run c.requires.some c.requires.divides
