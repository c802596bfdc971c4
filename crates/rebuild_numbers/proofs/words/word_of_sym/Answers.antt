use Rattle.std.proofs.Common.{Option, sym, ap, ◌∙◌}
use Rattle.elf_types.specs.declared.records.Sym.{Sym}
use Rattle.rebuild_select.specs.rebuild_model.Followed.{word_of_sym}
use Rattle.rebuild_numbers.proofs.words.word_of_sym.Goals as goal

pub returns-in-Some : goal.returns-in-Some
returns-in-Some c =
    c.word_with_sym.ensures
    ∙ ap (λ (o : Option Sym). word_of_sym c.args.numbering.now c.args.word o) (sym c.in-Some.is)

pub returns-in-None : goal.returns-in-None
returns-in-None c =
    ap (λ (o : Option Sym). word_of_sym c.args.numbering.now c.args.word o) (sym c.in-None.is)
