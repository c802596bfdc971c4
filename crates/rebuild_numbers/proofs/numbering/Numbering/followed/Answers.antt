use Rattle.std.proofs.Common.{Bool, sym, ap, ◌∙◌}
use Rattle.std.specs.Prelude.{if◌then◌else◌}
use Rattle.rebuild_select.specs.elf_object.Sections.{number_or_0}
use Rattle.rebuild_select.specs.rebuild_model.Followed.{followed, renumbered}
use Rattle.rebuild_numbers.proofs.numbering.Numbering.followed.Goals as goal

pub number_or_0-requires : goal.number_or_0-requires
number_or_0-requires c = sym c.is_section_number.ensures ∙ c.if-is_section_number.true

pub returns-then-is_section_number : goal.returns-then-is_section_number
unfolding followed
returns-then-is_section_number c =
    c.number_or_0.ensures
    ∙ sym (ap (λ (b : Bool).
    if b then number_or_0 (renumbered c.args.self.now c.args.n) else c.args.n)
    (sym c.is_section_number.ensures ∙ c.if-is_section_number.true))

pub returns : goal.returns
unfolding followed
returns c =
    sym (ap (λ (b : Bool).
    if b then number_or_0 (renumbered c.args.self.now c.args.n) else c.args.n)
    (sym c.is_section_number.ensures ∙ c.if-is_section_number.false))
