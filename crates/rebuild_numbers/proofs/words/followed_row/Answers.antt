use Rattle.std.proofs.Common.{Option, ap, ◌∙◌}
use Rattle.elf_types.specs.declared.records.Sym.{Sym}
use Rattle.rebuild_select.specs.rebuild_model.Followed.{word_of_sym}
use Rattle.rebuild_numbers.proofs.words.followed_row.Goals as goal

pub returns : goal.returns
returns c =
    c.word_of_sym.ensures
    ∙ ap (λ (o : Option Sym). word_of_sym c.args.numbering.now c.args.word o) c.sym_at.ensures
