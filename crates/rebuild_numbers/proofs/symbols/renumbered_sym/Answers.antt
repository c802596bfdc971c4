use Rattle.std.proofs.Common.{ℕ, Some, None, ap, ◌∙◌, arith}
use Rattle.rebuild_select.specs.rebuild_model.Followed.{is_section_number}
use Rattle.rebuild_numbers.proofs.SymLaws.{sym_renumbered}
use Rattle.rebuild_numbers.proofs.symbols.renumbered_sym.Goals as goal

pub renumbered-requires : goal.renumbered-requires
renumbered-requires c =
    ap (λ (n : ℕ). is_section_number c.args.numbering.now n) c.from.ensures ∙ c.requires.section

pub in_section-requires : goal.in_section-requires
in_section-requires c =
    omega (arith, c.in-Some.ensures.below, c.from.ensures, c.requires.small)

pub returns-in-Some : goal.returns-in-Some
returns-in-Some c =
    sym_renumbered c.args.numbering.now c.args.x c.in_section.result c.from.result
    (Some c.in-Some.number) c.from.ensures c.in-Some.ensures.value c.in_section.ensures

pub returns-in-None : goal.returns-in-None
returns-in-None c =
    sym_renumbered c.args.numbering.now c.args.x c.without_section.result c.from.result
    None c.from.ensures c.in-None.ensures.value c.without_section.ensures
