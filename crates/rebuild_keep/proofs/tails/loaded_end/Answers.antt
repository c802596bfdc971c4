use Rattle.std.proofs.Common.{sym, ap, ◌∙◌}
use Rattle.elf_types.specs.declared.records.Shdr.{Shdr}
use Rattle.rebuild_making.specs.elf_object.Object.{section_at}
use Rattle.rebuild_making.proofs.elf_object.AnswerLaws.{home_value}
use Rattle.rebuild_keep.specs.Ends.{at_most_word, home_end}
use Rattle.rebuild_keep.proofs.EndLaws.{home_end_is, home_never}
use Rattle.rebuild_keep.proofs.tails.loaded_end.Goals as goal

pub unreachable-requires : goal.unreachable-requires
unreachable-requires g c =
    home_never c.args.elf.now.o c.args.s.0 _ c.requires c.in-Err.ensures

pub returns : goal.returns
returns g c =
    let o = c.args.elf.now.o in
    let s = c.args.s.0 in
    let home = home_value o s (c.in-Ok.at, c.in-Ok.len) (sym c.in-Ok.ensures) in
    c.home_end.ensures
    ∙ ap (λ (h : Shdr). at_most_word (home_end h c.in-Ok.at c.in-Ok.len)) c.section_header.ensures
    ∙ ap at_most_word (home_end_is (section_at o s) c.in-Ok.at c.in-Ok.len home.1 home.2)
