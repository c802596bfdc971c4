use Rattle.std.proofs.Common.{sym, ◌∙◌}
use Rattle.rebuild_numbers.proofs.SymLaws.{number_parts, sym_follows, sym_stays}
use Rattle.rebuild_numbers.proofs.symbols.followed_sym.Goals as goal

pub renumbered_sym-requires : goal.renumbered_sym-requires
renumbered_sym-requires c =
    let parts = number_parts c.args.numbering.now c.args.x
    (sym c.has_number.ensures ∙ c.if-has_number.true) in
    record { section = parts.1; small = parts.0 }

pub returns-then-has_number : goal.returns-then-has_number
returns-then-has_number c =
    sym_follows c.args.numbering.now c.args.x c.renumbered_sym.result
    (sym c.has_number.ensures ∙ c.if-has_number.true) c.renumbered_sym.ensures

pub returns : goal.returns
returns c =
    sym_stays c.args.numbering.now c.args.x (sym c.has_number.ensures ∙ c.if-has_number.false)
