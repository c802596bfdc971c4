use Rattle.std.proofs.Common.{◌==◌, sym, ◌∙◌}
use Rattle.std.proofs.lemmas.Bool.{and_parts}
use Rattle.elf_types.specs.declared.constants.TheConstants.{SHN_XINDEX}
use Rattle.rebuild_select.specs.rebuild_model.Followed.{is_section_number}
use Rattle.rebuild_numbers.proofs.SymLaws.{word_moves, word_stays}
use Rattle.rebuild_numbers.proofs.words.word_with_sym.Goals as goal

pub followed_word-requires : goal.followed_word-requires
followed_word-requires c =
    (and_parts (c.args.x.shndx == SHN_XINDEX)
    (is_section_number c.args.numbering.now c.args.word)
    (sym c.word_counts.ensures ∙ c.if-word_counts.true)).1

pub returns-then-word_counts : goal.returns-then-word_counts
returns-then-word_counts c =
    word_moves c.args.numbering.now c.args.word c.args.x c.followed_word.result
    (sym c.word_counts.ensures ∙ c.if-word_counts.true) c.followed_word.ensures

pub returns : goal.returns
returns c =
    word_stays c.args.numbering.now c.args.word c.args.x
    (sym c.word_counts.ensures ∙ c.if-word_counts.false)
