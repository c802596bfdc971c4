-- The law of copy: what it keeps, and the bytes that it gives.
use Rattle.std.proofs.Common.{◌≡◌, ℕ, List, [], ap, ◌∙◌, arith}
use Rattle.std.specs.Prelude.{◌==◌}
use Rattle.std.proofs.lemmas.Bool.{ne_eqb, and_right}
use Rattle.elf_types.specs.declared.records.Class.{Class}
use Rattle.elf_types.specs.declared.records.Kind.{Kind}
use Rattle.elf_types.specs.declared.records.Order.{Order}
use Rattle.law_object.specs.elf_xlate.Translation.{EncodesAsDecoded}
use Rattle.law_object.specs.elf_object.Layout.{places_of}
use Rattle.law_object.specs.elf_object.Object.{Object, Section, section_at}
use Rattle.law_object.specs.Laws.{ReopenLaw}
use Rattle.law_object.specs.elf_object.Sections.{header_at}
use Rattle.rebuild_model.specs.Removed.{removed_by_name}
use Rattle.rebuild_model.specs.Arranged.{Rebuilt}
use Rattle.rebuild_model.specs.Rebuilt.{renews_names, rebuilt_object}
use Rattle.rebuild_model.specs.Copied.{Changes}
use Rattle.rebuild_model.specs.Laws.{AreChanges}
use Rattle.rebuild_model.specs.KeepingLaws.{IsCopied, IsLeft, CopyLaw, without_places}
use Rattle.law_rebuild.proofs.copy.SameItems.{opened_at}
use Rattle.law_rebuild.proofs.copy.EachChange.{pieces_both}
use Rattle.law_rebuild.proofs.copy.AllChanges.{bytes_pieces, not_chosen}
use Rattle.law_rebuild.proofs.copy.Reopened.{front_is, shdr_kept}
use Rattle.law_rebuild.proofs.copy.KeptSections.{plain_header, made_of_section, passed_at, has_section}
use Rattle.law_rebuild.proofs.copy.CopySteps.{KeepsAll, keeps_all}
use Rattle.law_rebuild.proofs.copy.GivenBytes.{bytes_given}
use Rattle.law_rebuild.proofs.copy.KeptNames.{names_stay}

-- ---- A section that no change chooses

-- its header but for sh_name and sh_offset, and its bytes
record SectionStays (before after : Object) (s : ℕ) : Type 0 where
  header : without_places (header_at after s) ≡ without_places (header_at before s)
  bytes : (section_at after s).raw ≡ (section_at before s).raw

section_stays :
    ((kind : Kind) (class : Class) (order : Order) (bytes : List ℕ)
    → EncodesAsDecoded kind class order bytes)
    → (c : Changes) (before after : Object) (r : Rebuilt) (s : ℕ)
    → (k : IsCopied c before after) → KeepsAll c before after r k.made → IsLeft c before r s
    → SectionStays before after s
section_stays back c before after r s k all left =
    let there = left.there in
    let from = left.from_1 in
    let to = all.to in
    let q = all.to.changes.known in
    let m = k.made.object in
    let free = not_chosen c (renews_names before (removed_by_name c.remove before)) r.object
    to.changed s q left.not_chosen in
    let front = front_is before [] in
    let made = made_of_section before s from there in
    let header : without_places (header_at m s) ≡ without_places (header_at before s) =
    to.places.header s (all.in_changed s there)
    ∙ to.changes.header s (all.in_r s there) free.flags
    ∙ all.base.header s (all.in_base s there)
    ∙ ap (λ (x : Section). without_places x.header) made
    ∙ plain_header before s in
    let pieces = pieces_both (rebuilt_object before []) r.object m s
    (all.base.pieces s (all.in_base s there))
    (pieces_both r.object q.updated m s
    (bytes_pieces r.object c.update q.updated s q.is_updated free.bytes)
    (pieces_both q.updated to.changed m s
    (to.changes.pieces s (all.in_r s there) (λ clash. left.no_table (clash ∙ all.index)))
    (to.places.pieces s (all.in_changed s there)))) in
    let has = has_section back before m s to.ok (opened_at k.image before s k.is_before there)
    (passed_at before r s all.known from there) from
    (and_right (renews_names before []) (s == before.header.shstrndx)
    (ne_eqb s before.header.shstrndx left.no_table))
    (all.follows.class ∙ front.class) (all.follows.order ∙ front.order) header
    (pieces.pieces ∙ ap (λ (x : Section). x.pieces) made) in
    let again = to.again s (all.in_made s there) in
    record {
      header = ap without_places again.header
          ∙ shdr_kept (places_of m) m s (header_at m s) (omega (arith, from)) has.size
          ∙ has.header;
      bytes = again.raw ∙ has.bytes;
    }

-- ---- The law

left_in : (reopens : (o : Object) → ReopenLaw o) (c : Changes) (before after : Object)
    (r : Rebuilt) (s : ℕ) → AreChanges c → (k : IsCopied c before after) → IsLeft c before r s
    → KeepsAll c before after r k.made
left_in reopens c before after r s are k left =
    let there = left.there in
    keeps_all reopens c before after r are k left.none_removed left.rebuilt (omega (arith, there))

pub copy_law : (reopens : (o : Object) → ReopenLaw o)
    → ((kind : Kind) (class : Class) (order : Order) (bytes : List ℕ)
    → EncodesAsDecoded kind class order bytes)
    → CopyLaw
copy_law reopens back c before after are k = (
  record {
    header = λ r s left. (section_stays back c before after r s k
        (left_in reopens c before after r s are k left) left).header;
    bytes = λ r s left. (section_stays back c before after r s k
        (left_in reopens c before after r s are k left) left).bytes;
    name = λ r s left stays. names_stay back c before after r s are k
        (left_in reopens c before after r s are k left) left stays;
  },
  bytes_given reopens c before after are k,
)
