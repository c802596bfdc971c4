-- What copy makes of an image, in its steps, and what is opened again.
use Rattle.std.proofs.Common.{◌≡◌, ℕ, ◌<◌, true, List, [], length, Ok, sym, ap, ◌∙◌, subst, arith}
use Rattle.std.specs.Prelude.{All}
use Rattle.elf_types.specs.Lists.{AreBytes}
use Rattle.elf_types.specs.declared.records.Phdr.{Phdr}
use Rattle.elf_types.specs.declared.errors.ElfError.{ElfError}
use Rattle.law_object.specs.elf_xlate.Headers.{IsPhdr}
use Rattle.law_object.specs.elf_object.Object.{Object}
use Rattle.law_object.specs.elf_object.Open.{opened}
use Rattle.law_object.specs.elf_object.Settled.{settle}
use Rattle.law_object.specs.elf_object.Valid.{IsObject, as_opened}
use Rattle.law_object.specs.Laws.{ReopenLaw}
use Rattle.law_object.proofs.OpenLaws.{opened_is, opened_phdrs}
use Rattle.rebuild_model.specs.Removed.{removed_by_name}
use Rattle.rebuild_model.specs.Arranged.{Rebuilt}
use Rattle.rebuild_model.specs.Rebuilt.{rebuilt, renews_names, rebuilt_object, rebuilt_tail}
use Rattle.rebuild_model.specs.Copied.{Changes, copied, with_changes}
use Rattle.rebuild_model.specs.Laws.{AreChanges}
use Rattle.rebuild_model.specs.KeepingLaws.{IsCopied, rebuilt_for}
use Rattle.law_rebuild.proofs.strip.RebuiltLaws.{IsRebuilt, rebuilt_known}
use Rattle.law_rebuild.proofs.strip.CopyLaws.{copied_is_object}
use Rattle.law_rebuild.proofs.strip.WrittenLaws.{ok_same, opens_again, settled_again}
use Rattle.law_rebuild.specs.Copy.CopyOpens.{CopyOpens}
use Rattle.law_rebuild.proofs.copy.NoneRemoved.{none_removed}
use Rattle.law_rebuild.proofs.copy.EachChange.{Follows, follows_both}
use Rattle.law_rebuild.proofs.copy.AllChanges.{made_known, ChangesLeave, changes_leave, changes_follow, PlacesLeave, places_leave, KeepsNames, places_names}
use Rattle.law_rebuild.proofs.copy.Reopened.{front_is, marked_dirty, IsWrittenAgain, reopened_at}
use Rattle.law_rebuild.proofs.copy.KeptSections.{made_count, same_index}

-- ---- What is written opens again

pub record CanReopen (m : Object) : Type 0 where
  pub object : IsObject m
  pub phdrs : All IsPhdr m.phdrs
  pub marked : m.header_marked ≡ true

pub copied_can_reopen : (c : Changes) (image : List ℕ) (before : Object) (m : Rebuilt)
    → AreChanges c → AreBytes image → opened image ≡ Ok before → copied c before ≡ Ok m
    → CanReopen m.object
copied_can_reopen c image before m are bytes is e =
    let removed = removed_by_name c.remove before in
    let made = made_known c before m e in
    let known = rebuilt_known before removed made.first made.is_first in
    let base = places_leave
    (record { object = rebuilt_object before removed; tail = rebuilt_tail before removed })
    made.first known.is in
    let changes = changes_follow c (renews_names before removed) made.first.object made.changed
    made.is_changed in
    let front = front_is before removed in
    let all = follows_both (rebuilt_object before removed) made.first.object m.object base.follows
    (follows_both made.first.object made.changed m.object changes made.places.follows) in
    record {
      object = copied_is_object before c m (opened_is image before bytes is) are e;
      phdrs = subst (λ (l : List Phdr). All IsPhdr l) (sym (all.phdrs ∙ front.phdrs))
          (opened_phdrs image before bytes is);
      marked = all.marked front.marked;
    }

pub copy_opens : (reopens : (o : Object) → ReopenLaw o) → CopyOpens
copy_opens reopens c image before m out are bytes is e written =
    let w = copied_can_reopen c image before m are bytes is e in (
      as_opened (settle m.object),
      opens_again reopens m.object out w.object w.phdrs (marked_dirty m.object w.marked) written,
    )

-- ---- Its steps

pub record IsCopiedTo (c : Changes) (before after : Object) (r m : Rebuilt) : Type 0 where
  pub ok : IsObject before
  pub base : PlacesLeave (rebuilt_object before (removed_by_name c.remove before)) r.object
  pub changed : Object
  pub changes : ChangesLeave c (renews_names before (removed_by_name c.remove before)) r.object
      changed
  pub places : PlacesLeave changed m.object
  pub named : KeepsNames changed m.object
  pub follows : Follows r.object m.object
  pub marked : m.object.header_marked ≡ true
  pub is : after ≡ as_opened (settle m.object)
  pub again : (s : ℕ) → s < length m.object.sections → IsWrittenAgain m.object after s

pub copied_to : (reopens : (o : Object) → ReopenLaw o) (c : Changes) (before after : Object)
    (r : Rebuilt) → AreChanges c → (k : IsCopied c before after)
    → rebuilt before (removed_by_name c.remove before) ≡ Ok r → 0 < length r.object.sections
    → IsCopiedTo c before after r k.made
copied_to reopens c before after r are k e some =
    let removed = removed_by_name c.remove before in
    let made = made_known c before k.made k.is_made in
    let same = ok_same {A = Rebuilt} {E = ElfError} (rebuilt before removed) made.first r
    made.is_first e in
    let renewed = renews_names before removed in
    let is_changed =
    ap (λ (x : Rebuilt). with_changes c renewed x.object) (sym same) ∙ made.is_changed in
    let known = rebuilt_known before removed r e in
    let base = places_leave
    (record { object = rebuilt_object before removed; tail = rebuilt_tail before removed }) r
    known.is in
    let changes = changes_leave c renewed r.object made.changed some is_changed in
    let w = copied_can_reopen c k.image before k.made are k.bytes k.is_before k.is_made in
    let is = settled_again reopens k.made.object after k.out w.object w.phdrs
    (marked_dirty k.made.object w.marked) k.is_out k.is_after in
    record {
      ok = opened_is k.image before k.bytes k.is_before;
      base = base;
      changed = made.changed;
      changes = changes;
      places = made.places;
      named = made.named;
      follows = follows_both r.object made.changed k.made.object changes.follows
          made.places.follows;
      marked = w.marked;
      is = is;
      again = λ s below. reopened_at k.made.object after s is w.marked below;
    }

-- ---- Where no section is removed

-- each section of the image stands with its number in what is made, step by step
pub record KeepsAll (c : Changes) (before after : Object) (r m : Rebuilt) : Type 0 where
  pub none : removed_by_name c.remove before ≡ []
  pub known : IsRebuilt before [] r
  pub base : PlacesLeave (rebuilt_object before []) r.object
  pub named : KeepsNames (rebuilt_object before []) r.object
  pub to : IsCopiedTo c before after r m
  pub follows : Follows (rebuilt_object before []) m.object
  pub index : r.object.header.shstrndx ≡ before.header.shstrndx
  pub in_base : (t : ℕ) → t < length before.sections
      → t < length (rebuilt_object before []).sections
  pub in_r : (t : ℕ) → t < length before.sections → t < length r.object.sections
  pub in_changed : (t : ℕ) → t < length before.sections → t < length to.changed.sections
  pub in_made : (t : ℕ) → t < length before.sections → t < length m.object.sections

pub keeps_all : (reopens : (o : Object) → ReopenLaw o) (c : Changes) (before after : Object)
    (r : Rebuilt) → AreChanges c → (k : IsCopied c before after) → c.remove ≡ []
    → rebuilt_for c before ≡ Ok r → 0 < length before.sections
    → KeepsAll c before after r k.made
keeps_all reopens c before after r are k no_names e some =
    let none : removed_by_name c.remove before ≡ [] =
    ap (λ (l : List (List ℕ)). removed_by_name l before) no_names ∙ none_removed before in
    let plain : rebuilt before [] ≡ Ok r = sym (ap (rebuilt before) none) ∙ e in
    let known = rebuilt_known before [] r plain in
    let made : Rebuilt =
    record { object = rebuilt_object before []; tail = rebuilt_tail before [] } in
    let base = places_leave made r known.is in
    let count = made_count before in
    let first = base.follows.count in
    let to = copied_to reopens c before after r are k e (omega (arith, some, count, first)) in
    let second = to.changes.follows.count in
    let third = to.follows.count in
    record {
      none = none;
      known = known;
      base = base;
      named = places_names made r known.is;
      to = to;
      follows = follows_both (rebuilt_object before []) r.object k.made.object base.follows
          to.follows;
      index = base.follows.index ∙ (front_is before []).index ∙ same_index before;
      in_base = λ t below. omega (arith, below, count);
      in_r = λ t below. omega (arith, below, count, first);
      in_changed = λ t below. omega (arith, below, count, first, second);
      in_made = λ t below. omega (arith, below, count, first, third);
    }
