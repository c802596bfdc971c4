use Rattle.std.proofs.Common.{List, sym, subst}
use Rattle.elf_object.specs.Object.{Piece}
use Rattle.section_data.specs.Spans.{AreNoted}
use Rattle.section_data.proofs.others.Others.note.Goals as goal

pub note_blocks-requires-clause-short : goal.note_blocks-requires-clause-short
note_blocks-requires-clause-short c =
    subst (λ (l : List Piece). AreNoted 16 c.self.inside.short.items l)
    (sym c.as_slice.ensures.value) c.self.invariant.shorts

pub note_blocks-requires-clause-middle : goal.note_blocks-requires-clause-middle
note_blocks-requires-clause-middle c =
    subst (λ (l : List Piece). AreNoted 512 c.self.inside.middle.items l)
    (sym c.as_slice.ensures.value) c.self.invariant.middles

pub note_blocks-requires-clause-long : goal.note_blocks-requires-clause-long
note_blocks-requires-clause-long c =
    subst (λ (l : List Piece). AreNoted 16384 c.self.inside.long.items l)
    (sym c.as_slice.ensures.value) c.self.invariant.longs

pub invariant_of-self : goal.invariant_of-self
invariant_of-self c = record {
  shorts =
      subst (λ (l : List Piece). AreNoted 16 c.note_blocks.new.short.items l)
      c.as_slice.ensures.value c.note_blocks.ensures.short;
  middles =
      subst (λ (l : List Piece). AreNoted 512 c.note_blocks.new.middle.items l)
      c.as_slice.ensures.value c.note_blocks.ensures.middle;
  longs =
      subst (λ (l : List Piece). AreNoted 16384 c.note_blocks.new.long.items l)
      c.as_slice.ensures.value c.note_blocks.ensures.long;
}
