use Rattle.std.proofs.Common.{sym, ◌∙◌, inl, inr, arith}
use Rattle.elf_update_in_place.proofs.moves.MeetingLaws.{meets_none, meets_first}
use Rattle.elf_update_in_place.proofs.moves.meeting.meets.Goals as goal

pub returns-then-len-eq0 : goal.returns-then-len-eq0
returns-then-len-eq0 c =
    sym (meets_none c.args.extents.now c.args.at c.args.len c.count_ended-index.result c.requires
    c.count_ended-index.ensures (inl (omega (arith, c.if-len-eq0.true))))

pub returns-then-index-extents : goal.returns-then-index-extents
returns-then-index-extents c =
    sym (meets_none c.args.extents.now c.args.at c.args.len c.count_ended-index.result c.requires
    c.count_ended-index.ensures (inr (omega (arith, c.if-index-extents.true))))

pub returns : goal.returns
returns c =
    c.is_below_end.ensures
    ∙ sym (meets_first c.args.extents.now c.args.at c.args.len c.count_ended-index.result c.requires
    c.count_ended-index.ensures (omega (arith, c.if-len-eq0.false))
    (omega (arith, c.if-index-extents.false)))
