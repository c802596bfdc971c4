use Rattle.std.proofs.Common.{inl, refl, sym, ◌∙◌}
use Rattle.rebuild_keep.proofs.HomeLaws.{there_below}
use Rattle.rebuild_tables.proofs.FindLaws.{words_somewhere}
use Rattle.rebuild_tables.proofs.finding.find_words_if.Goals as goal

pub find_words-requires : goal.find_words-requires
find_words-requires g c =
    there_below c.args.elf.now.o c.args.s (sym c.is_there.ensures ∙ c.if-is_there.true)

pub returns-then-is_there : goal.returns-then-is_there
returns-then-is_there g c =
    words_somewhere c.args.elf.now.o c.args.s c.find_words.result
    (sym c.is_there.ensures ∙ c.if-is_there.true) c.find_words.ensures

pub returns : goal.returns
returns g c = inl (sym c.is_there.ensures ∙ c.if-is_there.false, refl)
