use Rattle.std.proofs.Common.{◌==◌, sym, ◌∙◌}
use Rattle.std.proofs.lemmas.Bool.{and_parts}
use Rattle.elf_types.specs.declared.constants.TheConstants.{SHN_XINDEX}
use Rattle.rebuild_select.specs.rebuild_model.Followed.{is_section_number}
use Rattle.rebuild_numbers.proofs.SymLaws.{with_word_counts, with_word_other}
use Rattle.rebuild_numbers.proofs.symbols.sym_with_word.Goals as goal

pub followed_extended-requires : goal.followed_extended-requires
followed_extended-requires c =
    (and_parts (c.args.x.shndx == SHN_XINDEX)
    (is_section_number c.args.numbering.now c.args.word)
    (sym c.word_counts.ensures ∙ c.if-word_counts.true)).1

pub returns-then-word_counts : goal.returns-then-word_counts
returns-then-word_counts c =
    with_word_counts c.args.numbering.now c.args.word c.args.x c.followed_extended.result
    (sym c.word_counts.ensures ∙ c.if-word_counts.true) c.followed_extended.ensures

pub returns : goal.returns
returns c =
    with_word_other c.args.numbering.now c.args.word c.args.x c.followed_sym.result
    (sym c.word_counts.ensures ∙ c.if-word_counts.false) c.followed_sym.ensures
