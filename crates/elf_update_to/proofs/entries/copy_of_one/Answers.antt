use Rattle.std.proofs.Common.{length, ◌∙◌, arith}
use Rattle.elf_update_to.proofs.EntryLaws.{of_one}
use Rattle.elf_update_to.proofs.entries.copy_of_one.Goals as goal

pub copy_range-requires : goal.copy_range-requires
copy_range-requires g c =
    omega (arith, c.requires.inside, c.requires.whole, c.put_entries.auto.out)

pub returns : goal.returns
returns g c =
    c.copy_range.ensures
    ∙ of_one (g.E.Entries.size c.args.entries.now) c.args.index c.args.skip
    (length c.args.out.now) (g.E.Entries.bytes c.args.entries.now) c.put_entries.new.out
    c.requires.inside c.put_entries.ensures
