use Rattle.std.proofs.Common.{ℕ, length, take, drop, get_or, refl, sym, subst, ◌∙◌}
use Rattle.elf_update_to.specs.Origins.{absent_piece}
use Rattle.elf_update_to.specs.Descriptors.{stored_pieces}
use Rattle.elf_update_to.proofs.CopyLaws.{range_long}
use Rattle.elf_update_in_place.specs.Writes.Overwrites.{MayOverwrite}
use Rattle.elf_update_in_place.proofs.writes.OverLaws.{over_written}
use Rattle.elf_update_in_place.proofs.writes.RebaseLaws.{not_to_read}
use Rattle.elf_update_in_place.proofs.writes.pieces.write_some.Goals as goal

pub returns-clause-over : goal.returns-clause-over
returns-clause-over g c =
    let n = length c.args.buf.now in
    let piece = (get_or (stored_pieces c.args.elf.now.o c.args.part) c.args.p absent_piece).1 in
    over_written g.D.Source g.D.Device c.write_base.result c.args.elf.now c.write_base.new.self
    c.args.at c.copy_at_hand.new.buf (take n (drop c.args.from piece))
    (subst (λ (k : ℕ). MayOverwrite g.D.Source c.args.elf.now c.args.at k)
    (sym c.in-None.ensures.len) c.requires.may)
    c.write_base.ensures.cuts c.write_base.ensures.patches c.write_base.ensures.err
    (c.in-None.ensures.len
    ∙ sym (range_long c.args.from n piece (take n (drop c.args.from piece)) c.requires.there refl))
    (c.in-None.ensures.copied refl)

pub unreachable-requires : goal.unreachable-requires
unreachable-requires g c =
    not_to_read c.args.elf.now c.args.part c.args.p c.args.from (length c.args.buf.now) _
    c.requires.held c.requires.some c.requires.there c.in-Some.ensures.unread
