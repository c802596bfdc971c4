use Rattle.std.proofs.Common.{inl, refl, arith}
use Rattle.section_table.proofs.Views.{slot_clear, slot_taken}
use Rattle.section_table.proofs.making.make.Goals as goal

pub index-slot-requires : goal.index-slot-requires
index-slot-requires c = omega (arith, c.requires.there, c.args.slots.now.ok.0)

pub make_new-requires-clause-none : goal.make_new-requires-clause-none
make_new-requires-clause-none c =
    slot_clear c.args.slots.now.items c.args.s c.index-slot.result.now c.requires.there
    c.index-slot.ensures c.if-slot-eq0.true

pub make_new-requires-clause-room : goal.make_new-requires-clause-room
make_new-requires-clause-room c =
    c.requires.room
    (slot_clear c.args.slots.now.items c.args.s c.index-slot.result.now c.requires.there
    c.index-slot.ensures c.if-slot-eq0.true)

pub make_new-requires-clause-few : goal.make_new-requires-clause-few
make_new-requires-clause-few c =
    c.requires.few
    (slot_clear c.args.slots.now.items c.args.s c.index-slot.result.now c.requires.there
    c.index-slot.ensures c.if-slot-eq0.true)

pub returns-clause-makes : goal.returns-clause-makes
returns-clause-makes c = inl (record {
  slot =
      slot_taken c.args.slots.now.items c.args.s c.index-slot.result.now c.requires.there
      c.index-slot.ensures c.if-slot-eq0.false;
  same_slots = refl;
  same_cells = refl;
})
