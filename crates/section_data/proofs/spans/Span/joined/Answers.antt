use Rattle.std.proofs.Common.{◌≡◌, ℕ, ◌+◌, ap, ◌∙◌, arith}
use Rattle.std.proofs.lemmas.Option.{IfSome_then}
use Rattle.elf_object.specs.elf_layout.Layout.{rounded_up}
use Rattle.section_data.proofs.spans.Span.joined.Goals as goal

pub returns-clause-end : goal.returns-clause-end
returns-clause-end c =
    let span = c.args.self.now in
    let next = c.args.next in
    IfSome_then c.followed.result c.followed.ensures.end
    (λ s ends end.
    let moved : rounded_up (end + span.before) span.align + c.in-Some.len
    ≡ rounded_up (end + span.before) span.align + span.len + next.before =
    omega (arith, c.in-Some.ensures.1) in
    ends end ∙ ap (λ (n : ℕ). rounded_up n next.align + next.len) moved)
