use Rattle.std.proofs.Common.{sym, ◌∙◌}
use Rattle.std.specs.Prelude.{nat_lt, not, ◌==◌}
use Rattle.std.proofs.lemmas.Bool.{and_parts, ltb-true}
use Rattle.elf_types.specs.declared.constants.TheConstants.{SHN_LORESERVE}
use Rattle.rebuild_numbers.proofs.SymLaws.{sym_moves, sym_keeps}
use Rattle.rebuild_numbers.proofs.symbols.moved_sym.Goals as goal

pub in_section-requires : goal.in_section-requires
in_section-requires c =
    ltb-true c.args.number SHN_LORESERVE
    (and_parts (not (c.args.number == c.args.word)) (nat_lt c.args.number SHN_LORESERVE)
    (sym c.moves_in.ensures ∙ c.if-moves_in.true)).1

pub returns-then-moves_in : goal.returns-then-moves_in
returns-then-moves_in c =
    sym_moves c.args.word c.args.number c.args.x c.in_section.result
    (sym c.moves_in.ensures ∙ c.if-moves_in.true) c.in_section.ensures

pub returns : goal.returns
returns c =
    sym_keeps c.args.word c.args.number c.args.x (sym c.moves_in.ensures ∙ c.if-moves_in.false)
