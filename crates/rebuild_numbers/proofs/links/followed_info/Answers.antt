use Rattle.std.proofs.Common.{Bool, sym, ap, ◌∙◌}
use Rattle.std.specs.Prelude.{if◌then◌else◌}
use Rattle.rebuild_select.specs.rebuild_model.Followed.{followed}
use Rattle.rebuild_numbers.proofs.links.followed_info.Goals as goal

pub returns-then-info_is_section : goal.returns-then-info_is_section
returns-then-info_is_section c =
    let h = c.args.h.now in
    c.followed.ensures
    ∙ sym (ap (λ (b : Bool). if b then followed c.args.numbering.now h.info else h.info)
    (sym c.info_is_section.ensures ∙ c.if-info_is_section.true))

pub returns : goal.returns
returns c =
    let h = c.args.h.now in
    sym (ap (λ (b : Bool). if b then followed c.args.numbering.now h.info else h.info)
    (sym c.info_is_section.ensures ∙ c.if-info_is_section.false))
