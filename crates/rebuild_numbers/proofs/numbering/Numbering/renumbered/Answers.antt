use Rattle.std.proofs.Common.{◌≡◌, true, ap, sym, subst, ◌∙◌}
use Rattle.rebuild_select.specs.rebuild_model.Followed.{Renumbering, is_section_number, renumbered}
use Rattle.rebuild_numbers.proofs.numbering.Numbering.renumbered.Goals as goal

pub new_number-requires : goal.new_number-requires
new_number-requires c = record {
  numbering = c.self.invariant;
  section = subst (λ (m : Renumbering). is_section_number m c.args.n ≡ true)
      (sym c.self.view_is) c.requires;
}

pub returns-clause-value : goal.returns-clause-value
returns-clause-value c =
    c.new_number.ensures.value
    ∙ ap (λ (m : Renumbering). renumbered m c.args.n) c.self.view_is
