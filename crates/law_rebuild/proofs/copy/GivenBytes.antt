-- What copy gives: the bytes of the last change that chooses a section, and those of new sections.
use Rattle.std.proofs.Common.{◌≡◌, ◌≢◌, ℕ, zero, suc, ◌+◌, ◌<◌, Bool, true, false, not, ◌&&◌, List, [], ◌∷◌, ◌++◌, length, Option, Some, None, Result, Ok, refl, sym, ap, ◌∙◌, subst, arith, ⊎_elim}
use Rattle.std.specs.Prelude.{All, nat_le, if◌then◌else◌, ◌==◌, map, slice_get}
use Rattle.std.proofs.lemmas.Bool.{ne_eqb, eqb-true, leb-false, not-false, and_cases, and_parts, and_right}
use Rattle.std.proofs.lemmas.List.{length-map}
use Rattle.std.proofs.lemmas.List.Elements.{All-head, All-tail, All-get_or}
use Rattle.std.proofs.lemmas.Option.{slice_get_within, get_or_from_slice_get}
use Rattle.elf_types.specs.Lists.{AreBytes}
use Rattle.elf_types.specs.declared.records.Shdr.{Shdr}
use Rattle.elf_types.specs.declared.errors.ElfError.TheVariants.{NoSection, Unfit}
use Rattle.elf_types.specs.declared.records.Part.TheVariants as part
use Rattle.law_object.specs.elf_xlate.Headers.{ehdr_fits}
use Rattle.law_object.specs.elf_xlate.declared.content.Items.{Items}
use Rattle.law_object.specs.elf_xlate.declared.content.Items.TheVariants as items
use Rattle.law_object.proofs.elf_ident.Refusals.{bind_ok}
use Rattle.law_object.specs.elf_object.Object.{Object, Section, section_at, occupies_file}
use Rattle.law_object.specs.elf_object.Joined.{file_bytes}
use Rattle.law_object.specs.elf_object.Answers.{piece_count}
use Rattle.law_object.specs.elf_object.Steps.{own_piece, stored_ehdr}
use Rattle.law_object.specs.elf_object.Calls.{update_ehdr_refusal}
use Rattle.law_object.proofs.elf_object.PassedLaws.{passed_two}
use Rattle.law_object.proofs.elf_object.StepLaws.{section_count-with_own}
use Rattle.law_object.specs.Laws.{ReopenLaw}
use Rattle.law_object.specs.elf_object.Sections.{header_at, in_turn, is_among}
use Rattle.rebuild_model.specs.Removed.{removed_by_name}
use Rattle.rebuild_model.specs.Followed.{kept_sections, kept_from_1}
use Rattle.rebuild_model.specs.Arranged.{Rebuilt}
use Rattle.rebuild_model.specs.Rebuilt.{rebuilt, renews_names, rebuilt_section, rebuilt_sections, rebuilt_object, rebuilt_tail, rebuilt_index, index_refusal}
use Rattle.rebuild_model.specs.Copied.{Changes, names_in, section_named, with_bytes, with_section_flags, with_bits, with_added, added_header, changes_names, named}
use Rattle.rebuild_model.specs.Laws.{AreChanges}
use Rattle.rebuild_model.specs.KeepingLaws.{IsCopied, IsLastUpdate, BytesAreGiven}
use Rattle.law_rebuild.proofs.strip.KeptLaws.{IsInRange, kept_first, kept_in_range, first_stays}
use Rattle.law_rebuild.proofs.strip.RebuiltLaws.{rebuilt_known}
use Rattle.law_rebuild.proofs.strip.MadeSections.{bytes_encoded}
use Rattle.law_rebuild.proofs.strip.WrittenLaws.{ok_same}
use Rattle.law_rebuild.proofs.copy.EachChange.{pieces_both, IsUpdated, updated_known, updated_header, IsFlagged, flagged_known, shdr_count_kept, added_known}
use Rattle.law_rebuild.proofs.copy.NamesAndPlaces.{named_known}
use Rattle.law_rebuild.proofs.copy.AllChanges.{in_turn_each, made_known, changed_known, places_leave, added_grow, bytes_pieces, bytes_follow, flags_follow, names_leave}
use Rattle.law_rebuild.proofs.copy.Reopened.{front_is, piece_bytes_are}
use Rattle.law_rebuild.proofs.copy.KeptSections.{filled_by_type}
use Rattle.law_rebuild.proofs.copy.OnePiece.{AreAlone, own_set, one_set, bytes_alone, rebuilt_pieces}
use Rattle.law_rebuild.proofs.copy.CopySteps.{copied_to}

-- ---- Changes in two rows

in_turn_both : {A B E : Type 0} (change : A → B → Result A E) (a : A) (l m : List B) (b c : A)
    → in_turn change a l ≡ Ok b → in_turn change a (l ++ m) ≡ Ok c → in_turn change b m ≡ Ok c
unfolding in_turn
in_turn_both {A} change a [] m b c e f =
    let same : a ≡ b = cc in subst (λ (y : A). in_turn change y m ≡ Ok c) same f
in_turn_both {A} change a (x ∷ l) m b c e f =
    let one = bind_ok (change a x) (λ y. in_turn change y l) b e in
    let two = bind_ok (change a x) (λ y. in_turn change y (l ++ m)) c f in
    let same = ok_same (change a x) two.0 one.0 two.1 one.1 in
    in_turn_both change one.0 l m b c one.2
    (subst (λ (y : A). in_turn change y (l ++ m) ≡ Ok c) same two.2)

all_at : {X : Type 0} (P : X → Type 0) (l : List X) (x : X) (m : List X) → All P (l ++ x ∷ m) → P x
all_at P [] x m all = All-head P x m all
all_at P (y ∷ l) x m all = all_at P l x m (All-tail P y (l ++ x ∷ m) all)

-- ---- A section that is given bytes

pub given_bytes : (m : Object) (s : ℕ) (bytes : List ℕ)
    → (section_at m s).pieces ≡ own_piece (items.Bytes bytes) 1 ∷ [] → 0 < s
    → occupies_file (header_at m s) ≡ true → AreBytes bytes → file_bytes m s ≡ bytes
given_bytes m s bytes pieces from filled are =
    piece_bytes_are m s (items.Bytes bytes) pieces from filled
    ∙ bytes_encoded m.header.class m.header.order bytes are

-- changes of bytes make no sections
record SameCount (old new : Object) : Type 0 where
  same : length new.sections ≡ length old.sections

updated_count : (o : Object) (change : List ℕ × List ℕ) (p : Object) → IsUpdated o change p
    → length p.sections ≡ length o.sections
updated_count o change p k =
    ap (λ (q : Object). length q.sections) k.is
    ∙ section_count-with_own o k.number 0 (items.Bytes change.1)

bytes_same_count : (o : Object) (l : List (List ℕ × List ℕ)) (p : Object)
    → in_turn with_bytes o l ≡ Ok p → length p.sections ≡ length o.sections
bytes_same_count o l p e =
    (in_turn_each SameCount with_bytes (λ a. record { same = refl })
    (λ a b c first second. record { same = second.same ∙ first.same })
    (λ a x b f. record { same = updated_count a x b (updated_known a x b f) }) o l p e).same

some_sections : (o : Object) (l : List (List ℕ × List ℕ)) (old : Object)
    (change : List ℕ × List ℕ) (p : Object) → in_turn with_bytes o l ≡ Ok old
    → IsUpdated old change p → 0 < length o.sections
some_sections o l old change p e u =
    let under = u.below in
    let count = bytes_same_count o l old e in
    omega (arith, under, count)

after_one : (o : Object) (x : List ℕ × List ℕ) (l : List (List ℕ × List ℕ)) (new p : Object)
    → with_bytes o x ≡ Ok new → in_turn with_bytes o (x ∷ l) ≡ Ok p
    → in_turn with_bytes new l ≡ Ok p
unfolding in_turn
after_one o x l new p e f =
    let next = bind_ok (with_bytes o x) (λ b. in_turn with_bytes b l) p f in
    subst (λ (q : Object). in_turn with_bytes q l ≡ Ok p)
    (ok_same (with_bytes o x) next.0 new next.1 e) next.2

-- the steps of the changes of bytes
record LastUpdate (c : Changes) (r p : Object) (s : ℕ) (bytes : List ℕ) : Type 0 where
  filled : occupies_file (header_at p s) ≡ true
  pieces : (section_at p s).pieces ≡ own_piece (items.Bytes bytes) 1 ∷ []
  from : 0 < s
  below : s < length r.sections

last_update : (c : Changes) (o p : Object) (r : Rebuilt) (s : ℕ) (bytes : List ℕ)
    → AreAlone r.object → IsLastUpdate c o r s bytes → in_turn with_bytes r.object c.update ≡ Ok p
    → LastUpdate c r.object p s bytes
unfolding piece_count
last_update c o p r s bytes alone last e =
    let own : Items = items.Bytes bytes in
    let u = updated_known last.old (last.name, bytes) last.new last.is_new in
    let number : u.number ≡ s =
    ok_same (section_named (names_in last.old) last.name) u.number s u.chosen last.chooses in
    let count = bytes_same_count r.object last.earlier last.old last.is_old in
    let under = u.below in
    let from_old = bytes_alone r.object last.earlier last.old u.number last.is_old (alone u.number)
    in
    let at : (section_at last.new u.number).pieces ≡ own_piece own 1 ∷ [] =
    ap (λ (q : Object). (section_at q u.number).pieces) u.is
    ∙ own_set last.old u.number own u.below
    ∙ one_set (section_at last.old u.number).pieces own from_old u.some in
    let headed : header_at last.new u.number ≡ header_at last.old u.number =
    updated_header last.old (last.name, bytes) last.new u.number u u.below in
    let whole : in_turn with_bytes r.object (last.earlier ++ (last.name, bytes) ∷ last.later)
    ≡ Ok p = sym (ap (in_turn with_bytes r.object) last.change) ∙ e in
    let rest = in_turn_both with_bytes r.object last.earlier ((last.name, bytes) ∷ last.later)
    last.old p last.is_old whole in
    let later = after_one last.old (last.name, bytes) last.later last.new p last.is_new rest in
    let stays = bytes_pieces last.new last.later p s later last.last in
    let here : (section_at last.new s).pieces ≡ own_piece own 1 ∷ [] =
    subst (λ (n : ℕ). (section_at last.new n).pieces ≡ own_piece own 1 ∷ []) number at in
    let filled : occupies_file (header_at last.new s) ≡ true =
    subst (λ (n : ℕ). occupies_file (header_at last.new n) ≡ true) number
    (ap (λ (h : Shdr). occupies_file h) headed ∙ u.filled) in
    record {
      filled = filled_by_type (header_at p s) (header_at last.new s) stays.stype ∙ filled;
      pieces = stays.pieces ∙ here;
      from = subst (λ (n : ℕ). 0 < n) number u.from;
      below = subst (λ (n : ℕ). n < length r.object.sections) number (omega (arith, under, count));
    }

-- ---- The law

updated_is : (reopens : (o : Object) → ReopenLaw o) (c : Changes) (before after : Object)
    (r : Rebuilt) (s : ℕ) (bytes : List ℕ) → AreChanges c → IsCopied c before after
    → IsLastUpdate c before r s bytes → s ≢ r.object.header.shstrndx
    → (section_at after s).raw ≡ bytes
updated_is reopens c before after r s bytes are k last other =
    let removed = removed_by_name c.remove before in
    let made = rebuilt_pieces before removed r last.rebuilt in
    let some = some_sections r.object last.earlier last.old (last.name, bytes) last.new last.is_old
    (updated_known last.old (last.name, bytes) last.new last.is_new) in
    let to = copied_to reopens c before after r are k last.rebuilt some in
    let is = last_update c before to.changes.known.updated r s bytes made last
    to.changes.known.is_updated in
    let in_r = is.below in
    let more = to.changes.follows.count in
    let in_changed : s < length to.changed.sections = omega (arith, in_r, more) in
    let even = to.places.follows.count in
    let in_m : s < length k.made.object.sections = omega (arith, in_changed, even) in
    let stays = pieces_both to.changes.known.updated to.changed k.made.object s
    (to.changes.pieces s in_r other) (to.places.pieces s in_changed) in
    let bytes_are = all_at (λ (z : List ℕ × List ℕ). AreBytes z.1) last.earlier
    (last.name, bytes) last.later
    (subst (λ (l : List (List ℕ × List ℕ)). All (λ (z : List ℕ × List ℕ). AreBytes z.1) l)
    last.change
    are.update) in
    (to.again s in_m).raw
    ∙ given_bytes k.made.object s bytes (stays.pieces ∙ is.pieces) is.from
    (filled_by_type (header_at k.made.object s) (header_at to.changes.known.updated s) stays.stype
    ∙ is.filled) bytes_are

-- ---- New sections

-- a section that is in the file and has one piece, with these bytes
record IsGiven (p : Object) (n : ℕ) (bytes : List ℕ) : Type 0 where
  below : n < length p.sections
  filled : occupies_file (header_at p n) ≡ true
  pieces : (section_at p n).pieces ≡ own_piece (items.Bytes bytes) 1 ∷ []

new_filled : occupies_file added_header ≡ true
new_filled = refl

added_given : (o : Object) (l : List (List ℕ × List ℕ)) (p : Object) (i : ℕ) (x : List ℕ × List ℕ)
    → in_turn with_added o l ≡ Ok p → 0 < length o.sections → slice_get l i ≡ Some x
    → IsGiven p (length o.sections + i) x.1
unfolding in_turn
added_given o [] p i x e some at = absurd (omega (arith, slice_get_within [] i x at))
added_given o (y ∷ l) p zero x e some at =
    let next = bind_ok (with_added o y) (λ b. in_turn with_added b l) p e in
    let k = added_known o y next.0 next.1 some in
    let count = k.count in
    let g = added_grow next.0 l p next.2 (omega (arith, count)) in
    let more = g.follows.count in
    let in_next : length o.sections < length next.0.sections = omega (arith, count) in
    let same = g.others (length o.sections) in_next in
    let one : y ≡ x = get_or_from_slice_get (y ∷ l) 0 x y at in
    let here : IsGiven p (length o.sections) y.1 = record {
      below = omega (arith, in_next, more);
      filled = ap (λ (c : Section). occupies_file c.header) same
          ∙ ap (λ (h : Shdr). occupies_file h) k.header
          ∙ new_filled;
      pieces = ap (λ (c : Section). c.pieces) same ∙ k.pieces;
    } in
    let end : length o.sections ≡ length o.sections + 0 = omega arith in
    subst (λ (n : ℕ). IsGiven p n x.1) end
    (subst (λ (z : List ℕ × List ℕ). IsGiven p (length o.sections) z.1) one here)
added_given o (y ∷ l) p (suc i) x e some at =
    let next = bind_ok (with_added o y) (λ b. in_turn with_added b l) p e in
    let k = added_known o y next.0 next.1 some in
    let count = k.count in
    let number : length next.0.sections + i ≡ length o.sections + suc i = omega (arith, count) in
    subst (λ (n : ℕ). IsGiven p n x.1) number
    (added_given next.0 l p i x next.2 (omega (arith, count)) at)

flagged_count : (names : List (Option (List ℕ))) (o : Object) (change : List ℕ × ℕ) (p : Object)
    → IsFlagged names o change p → length p.sections ≡ length o.sections
flagged_count names o change p k =
    ap (λ (q : Object). length q.sections) k.is
    ∙ shdr_count_kept o k.number (with_bits change.1 (header_at o k.number))

flags_same_count : (names : List (Option (List ℕ))) (o : Object) (l : List (List ℕ × ℕ))
    (p : Object) → in_turn (with_section_flags names) o l ≡ Ok p
    → length p.sections ≡ length o.sections
flags_same_count names o l p e =
    (in_turn_each SameCount (with_section_flags names) (λ a. record { same = refl })
    (λ a b c first second. record { same = second.same ∙ first.same })
    (λ a x b f. record { same = flagged_count names a x b (flagged_known names a x b f) }) o l p
    e).same

-- ---- The table of the names is there

-- the string index is below the number of sections
pub string_index_below : (o : Object) (sections : List Section) (index : ℕ)
    → index_refusal o sections index ≡ None → 0 < length sections → index < length sections
unfolding index_refusal update_ehdr_refusal stored_ehdr
string_index_below o sections index passed some =
    let tests = passed_two (not (index == 0) && nat_le (length sections) index)
    (not (ehdr_fits (stored_ehdr (record o.header { shnum = length sections })
    (record o.header { shstrndx = index }))))
    (NoSection index (length sections)) (Unfit part.Header 0) passed in
    ⊎_elim
    (λ zero_is.
    let none = eqb-true index 0 (not-false (index == 0) zero_is) in omega (arith, none, some))
    (λ below. leb-false (length sections) index below)
    (and_cases (not (index == 0)) (nat_le (length sections) index) tests.0)

among_some : (l : List ℕ) (n : ℕ) → is_among l n ≡ true → 0 < length l
unfolding is_among
among_some [] n e = cc
among_some (m ∷ l) n e = omega arith

-- where names are made anew some section is kept
some_kept : (o : Object) (removed : List ℕ) → renews_names o removed ≡ true
    → 0 < length (kept_from_1 o removed)
unfolding renews_names
some_kept o removed e =
    among_some (kept_from_1 o removed) o.header.shstrndx (and_parts _ _ e).0

some_from_1 : (o : Object) (removed : List ℕ) → 0 < length (kept_from_1 o removed)
    → 0 < length o.sections
some_from_1 o removed some =
    let within = All-get_or (λ s. IsInRange 1 (length o.sections) s) (kept_from_1 o removed) 0 0
    some (kept_in_range o removed) in
    omega (arith, within.0, within.1)

changes_some : (c : Changes) (i : ℕ) (x : List ℕ × List ℕ) → slice_get c.add i ≡ Some x
    → changes_names c ≡ true
changes_some c i x at =
    let there = slice_get_within c.add i x at in
    ap not (and_right (length c.rename == 0) (length c.add == 0)
    (ne_eqb (length c.add) 0 (λ none. omega (arith, there, none))))

renewed_of : (b renewed : Bool) (o : Object) (names : List (Option (List ℕ))) (p : Object)
    → b ≡ true → (if b then named renewed o names else Ok o) ≡ Ok p → renewed ≡ true
renewed_of true renewed o names p e h = (named_known renewed o names p h).0
renewed_of false renewed o names p e h = cc

rebuilt_count : (o : Object) (removed : List ℕ)
    → length (rebuilt_object o removed).sections ≡ length (kept_sections o removed)
unfolding rebuilt_sections
rebuilt_count o removed =
    ap length (front_is o removed).sections
    ∙ length-map (kept_sections o removed) (rebuilt_section o removed)

added_is : (reopens : (o : Object) → ReopenLaw o) (c : Changes) (before after : Object)
    (r : Rebuilt) (i : ℕ) (name bytes : List ℕ) → AreChanges c → IsCopied c before after
    → rebuilt before (removed_by_name c.remove before) ≡ Ok r
    → slice_get c.add i ≡ Some (name, bytes)
    → (section_at after (length r.object.sections + i)).raw ≡ bytes
added_is reopens c before after r i name bytes are k e at =
    let removed = removed_by_name c.remove before in
    let made = made_known c before k.made k.is_made in
    let known = changed_known c (renews_names before removed) made.first.object made.changed
    made.is_changed in
    let renewed = renewed_of (changes_names c) (renews_names before removed) known.added
    (known.names ++ map (λ change. Some change.0) c.add) made.changed
    (changes_some c i (name, bytes) at) known.last in
    let kept = some_kept before removed renewed in
    let any = some_from_1 before removed kept in
    let first = kept_first before removed (first_stays.copy c.remove before) any in
    let count = rebuilt_count before removed in
    let long = ap length first in
    let is = rebuilt_known before removed r e in
    let base = places_leave
    (record { object = rebuilt_object before removed; tail = rebuilt_tail before removed }) r is.is
    in
    let grows = base.follows.count in
    let some : 0 < length r.object.sections = omega (arith, count, long, grows) in
    let to = copied_to reopens c before after r are k e some in
    let q = to.changes.known in
    let u = bytes_same_count r.object c.update q.updated q.is_updated in
    let f = flags_same_count q.names q.updated c.flags q.flagged q.is_flagged in
    let in_flagged : length q.flagged.sections + i ≡ length r.object.sections + i =
    omega (arith, u, f) in
    let given : IsGiven q.added (length r.object.sections + i) bytes =
    subst (λ (t : ℕ). IsGiven q.added t bytes) in_flagged
    (added_given q.flagged c.add q.added i (name, bytes) q.is_added (omega (arith, some, u, f)) at)
    in
    let d = names_leave (changes_names c) (renews_names before removed) q.added
    (q.names ++ map (λ change. Some change.0) c.add) to.changed q.last in
    let g = added_grow q.flagged c.add q.added q.is_added (omega (arith, some, u, f)) in
    let a = bytes_follow r.object c.update q.updated q.is_updated in
    let b = flags_follow q.names q.updated c.flags q.flagged q.is_flagged in
    let index : q.added.header.shstrndx ≡ rebuilt_index before removed =
    g.follows.index ∙ b.index ∙ a.index ∙ base.follows.index ∙ (front_is before removed).index in
    let listed = ap length (front_is before removed).sections in
    let low = string_index_below before (rebuilt_sections before removed)
    (rebuilt_index before removed) is.index (omega (arith, count, long, listed)) in
    let in_added = given.below in
    let last = d.follows.count in
    let in_changed : length r.object.sections + i < length to.changed.sections =
    omega (arith, in_added, last) in
    let even = to.places.follows.count in
    let in_m : length r.object.sections + i < length k.made.object.sections =
    omega (arith, in_changed, even) in
    let stays = pieces_both q.added to.changed k.made.object (length r.object.sections + i)
    (d.pieces (length r.object.sections + i) in_added
    (λ clash. omega (arith, clash, index, low, listed, grows)))
    (to.places.pieces (length r.object.sections + i) in_changed) in
    let there = slice_get_within c.add i (name, bytes) at in
    let bytes_are : AreBytes bytes =
    subst (λ (z : List ℕ × List ℕ). AreBytes z.1)
    (get_or_from_slice_get c.add i (name, bytes) (name, bytes) at)
    (All-get_or (λ (z : List ℕ × List ℕ). AreBytes z.0 × AreBytes z.1) c.add i (name, bytes) there
    are.add).1 in
    (to.again (length r.object.sections + i) in_m).raw
    ∙ given_bytes k.made.object (length r.object.sections + i) bytes (stays.pieces ∙ given.pieces)
    (omega (arith, some))
    (filled_by_type (header_at k.made.object (length r.object.sections + i))
    (header_at q.added (length r.object.sections + i)) stays.stype ∙ given.filled)
    bytes_are

pub bytes_given : (reopens : (o : Object) → ReopenLaw o) (c : Changes) (before after : Object)
    → AreChanges c → IsCopied c before after → BytesAreGiven c before after
bytes_given reopens c before after are k = record {
  updated = λ r s bytes last other. updated_is reopens c before after r s bytes are k last other;
  added = λ r i name bytes e at. added_is reopens c before after r i name bytes are k e at;
}
