use Rattle.std.proofs.Common.{Bool, sym, subst}
use Rattle.elf_update_to.specs.elf_object.Changed.{when}
use Rattle.elf_update_to.specs.Pieces.{block_at}
use Rattle.elf_update_to.specs.Descriptors.{stored_pieces}
use Rattle.elf_update_in_place.specs.Writes.Walks.{PutsAll}
use Rattle.elf_update_in_place.proofs.writes.PutLaws.{all_one}
use Rattle.elf_update_in_place.proofs.writes.WalkLaws.{part_fits}
use Rattle.elf_update_in_place.proofs.writes.walks.write_changed.Goals as goal

pub returns-clause-puts : goal.returns-clause-puts
returns-clause-puts g c = λ old_end.
    let may = c.requires.may c.if-not-changes.false in
    let within = may.within in
    subst (λ (t : Bool). PutsAll {T = Unit {0}} g.D.Source g.D.Device old_end
    c.write_part.result c.args.elf.now c.write_part.new.elf
    (when t (block_at c.args.fill (stored_pieces c.args.elf.now.o) c.args.part))) (sym c.if-not-changes.false)
    (all_one g.D.Source g.D.Device old_end c.args.elf.now c.write_part.new.elf
    (block_at c.args.fill (stored_pieces c.args.elf.now.o) c.args.part)
    (part_fits c.args.fill (stored_pieces c.args.elf.now.o) c.args.part
    (g.D.Source.size c.args.elf.now.source) c.requires.long within)
    c.write_part.result c.write_part.ensures.over)
