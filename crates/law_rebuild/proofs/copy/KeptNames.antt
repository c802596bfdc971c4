-- What copy keeps besides: the name of each section that no change chooses, where no new bytes are
-- given to the table of the names.
use Rattle.std.proofs.Common.{◌≡◌, ℕ, ◌<◌, ◌≤◌, Bool, true, false, List, [], ◌∷◌, ◌++◌, length, get_or, Option, Some, None, Ok, refl, sym, ap, ◌∙◌, subst, arith, inl, inr}
use Rattle.std.specs.Prelude.{All, Contains, nat_eq, if◌then◌else◌, ◌==◌, map}
use Rattle.std.specs.List.{list_any}
use Rattle.std.proofs.lemmas.Bool.{and_left, and_parts, eqb-true, ne_eqb, or_cases}
use Rattle.std.proofs.lemmas.List.{get_or_append_left, length-append}
use Rattle.std.proofs.lemmas.List.Elements.{All-head, All-tail, All-append, All-map, All-weaker}
use Rattle.elf_types.specs.Lists.{AreBytes}
use Rattle.elf_types.specs.declared.records.Class.{Class}
use Rattle.elf_types.specs.declared.records.Kind.{Kind}
use Rattle.elf_types.specs.declared.records.Order.{Order}
use Rattle.elf_types.specs.declared.records.Shdr.{Shdr}
use Rattle.law_object.specs.elf_xlate.Translation.{EncodesAsDecoded}
use Rattle.strtab_build.specs.Table.{table}
use Rattle.law_object.specs.elf_object.Layout.{places_of}
use Rattle.law_object.specs.elf_object.Object.{Object, Section, section_at}
use Rattle.law_object.specs.elf_object.Open.{opened}
use Rattle.law_object.specs.elf_object.Settled.{settle}
use Rattle.law_object.specs.elf_object.Strings.{string_answer, readable, section_name, or_empty_name}
use Rattle.law_object.specs.elf_object.Valid.{as_opened}
use Rattle.law_object.proofs.KeepLaws.{section_at_is}
use Rattle.law_object.proofs.StandLaws.{type-placed}
use Rattle.law_object.specs.elf_object.Sections.{header_at, is_among}
use Rattle.rebuild_model.specs.Removed.{removed_by_name}
use Rattle.rebuild_model.specs.Followed.{kept_from_1}
use Rattle.rebuild_model.specs.Arranged.{Rebuilt}
use Rattle.rebuild_model.specs.Rebuilt.{renews_names, has_names_alone, rebuilt_items, rebuilt_header, rebuilt_name, rebuilt_index, rebuilt_sections, rebuilt_object, kept_names, made_section}
use Rattle.rebuild_model.specs.Copied.{Changes, changes_names, names_in}
use Rattle.rebuild_model.specs.Laws.{AreChanges}
use Rattle.rebuild_model.specs.KeepingLaws.{IsCopied, IsLeft, chosen_for_bytes, kept_name}
use Rattle.strtab_build.specs.Table.{place_of}
use Rattle.law_rebuild.proofs.strip.KeptLaws.{IsInRange, kept_in_range}
use Rattle.law_rebuild.proofs.copy.SameItems.{opened_at}
use Rattle.law_rebuild.proofs.copy.EachChange.{pieces_both, positive_by_test}
use Rattle.law_rebuild.proofs.copy.AllChanges.{bytes_follow, bytes_header, bytes_pieces, not_chosen}
use Rattle.law_rebuild.proofs.copy.Reopened.{front_is, IsWrittenAgain, reopened_index, reopened_inside, placed_name}
use Rattle.law_rebuild.proofs.copy.KeptSections.{same_index, plain_header, made_of_section, made_count, passed_at, raw_inside, remade_bytes}
use Rattle.law_rebuild.proofs.copy.CopySteps.{KeepsAll}
use Rattle.law_rebuild.proofs.copy.GivenBytes.{given_bytes, string_index_below}
use Rattle.law_rebuild.proofs.copy.SectionStrings.{blocks_are, IsStringSection, opened_strings, own_strings, same_string}
use Rattle.law_rebuild.proofs.copy.TableNames.{HasNoNul, named_there, name_whole}
use Rattle.law_rebuild.proofs.copy.NamePlaces.{kept_up_to, plain_name, plain_pieces}
use Rattle.law_rebuild.proofs.copy.RenewedNames.{IsNamedIn, IsNameTable, AreByteNames, texts_of, named_stays, name_is, renewed_type, strings_fill, made_named, names_kept, renamed_bytes, listed_name_at, listed_count, names_are, text_at, last_named}

-- ---- Where the table of the names is not made anew

made_name : (o : Object) (s : ℕ) → renews_names o [] ≡ false
    → (made_section (rebuilt_header o [] s) (rebuilt_items o [] s)).header.name
    ≡ (header_at o s).name
unfolding made_section rebuilt_header rebuilt_name
made_name o s plain =
    ap (λ (b : Bool). if b
    then place_of (or_empty_name (section_name o s)) (kept_names o [])
    else (header_at o s).name) plain

named_alike : (a b : Object) (s : ℕ) → a.header.shstrndx ≡ b.header.shstrndx
    → (header_at a s).name ≡ (header_at b s).name
    → ((b.header.shstrndx == 0) ≡ false → (offset : ℕ)
    → string_answer a b.header.shstrndx offset ≡ string_answer b b.header.shstrndx offset)
    → section_name a s ≡ section_name b s
unfolding section_name
named_alike a b s index name same =
    ap (λ (i : ℕ).
    let n : Option (List ℕ) =
    if i == 0 then None else readable (string_answer a i (header_at a s).name) in n) index
    ∙ ap (λ (offset : ℕ).
    let n : Option (List ℕ) = if b.header.shstrndx == 0 then None
    else readable (string_answer a b.header.shstrndx offset) in n) name
    ∙ by_test (b.header.shstrndx == 0) refl
  where
    by_test : (t : Bool) → (b.header.shstrndx == 0) ≡ t
        → ◌≡◌ {A = Option (List ℕ)}
        (if t then None else readable (string_answer a b.header.shstrndx (header_at b s).name))
        (if t then None else readable (string_answer b b.header.shstrndx (header_at b s).name))
    by_test true e = refl
    by_test false e = ap readable (same e (header_at b s).name)

-- the table of the names answers as before
table_alike :
    ((kind : Kind) (class : Class) (order : Order) (bytes : List ℕ)
    → EncodesAsDecoded kind class order bytes)
    → (c : Changes) (before after : Object) (r : Rebuilt) (t offset : ℕ)
    → (k : IsCopied c before after) → KeepsAll c before after r k.made
    → is_among (chosen_for_bytes r.object c.update) t ≡ false
    → renews_names before [] ≡ false → 1 ≤ t → t < length before.sections
    → t < length after.sections → string_answer after t offset ≡ string_answer before t offset
table_alike back c before after r t offset k all stays plain from below in_after =
    let to = all.to in
    let m = k.made.object in
    let renewed = renews_names before (removed_by_name c.remove before) in
    let renewed_is : renews_names before (removed_by_name c.remove before) ≡ false =
    ap (renews_names before) all.none ∙ plain in
    let again = to.again t (all.in_made t below) in
    let made = made_of_section before t from below in
    let front = front_is before [] in
    let pieces = pieces_both (rebuilt_object before []) r.object m t
    (all.base.pieces t (all.in_base t below))
    (pieces_both r.object to.changes.known.updated m t
    (bytes_pieces r.object c.update to.changes.known.updated t to.changes.known.is_updated stays)
    (pieces_both to.changes.known.updated to.changed m t
    (plain_pieces c renewed r.object to.changed t to.changes.known renewed_is (all.in_r t below))
    (to.places.pieces t (all.in_changed t below)))) in
    let stype : (header_at m t).stype ≡ (header_at before t).stype =
    pieces.stype
    ∙ ap (λ (x : Section). x.header.stype) made
    ∙ ap (λ (h : Shdr). h.stype) (plain_header before t) in
    let at = opened_at k.image before t k.is_before below in
    let passed = passed_at before r t all.known from below in
    same_string after before t offset (record {
      in_a = in_after;
      in_b = below;
      a_at = opened_at k.out after t k.is_after in_after;
      b_at = at;
      a_inside = reopened_inside m after k.out t k.is_after again in_after (all.in_made t below)
          (omega (arith, from));
      b_inside = raw_inside before t passed;
      stype = ap (λ (h : Shdr). h.stype) again.header
          ∙ type-placed (places_of m) m t (header_at m t)
          ∙ stype;
      raw = again.raw
          ∙ remade_bytes back before m t to.ok at passed from
          (and_left (renews_names before []) (t == before.header.shstrndx) plain)
          (all.follows.class ∙ front.class) (all.follows.order ∙ front.order) stype
          (pieces.pieces ∙ ap (λ (x : Section). x.pieces) made);
    })

-- a string index that is not 0 is that of a section
table_below : (c : Changes) (before after : Object) (r m : Rebuilt) → KeepsAll c before after r m
    → 0 < length before.sections → before.header.shstrndx < length before.sections
table_below c before after r m all some =
    let count = made_count before in
    let listed = ap length (front_is before []).sections in
    let low = string_index_below before (rebuilt_sections before []) (rebuilt_index before [])
    all.known.index (omega (arith, some, count, listed)) in
    omega (arith, low, same_index before, listed, count)

plain_names :
    ((kind : Kind) (class : Class) (order : Order) (bytes : List ℕ)
    → EncodesAsDecoded kind class order bytes)
    → (c : Changes) (before after : Object) (r : Rebuilt) (s : ℕ)
    → (k : IsCopied c before after) → KeepsAll c before after r k.made → IsLeft c before r s
    → is_among (chosen_for_bytes r.object c.update) before.header.shstrndx ≡ false
    → renews_names before [] ≡ false
    → section_name after s ≡ section_name before s
plain_names back c before after r s k all left stays plain =
    let there = left.there in
    let to = all.to in
    let m = k.made.object in
    let renewed = renews_names before (removed_by_name c.remove before) in
    let renewed_is : renews_names before (removed_by_name c.remove before) ≡ false =
    ap (renews_names before) all.none ∙ plain in
    let in_m = all.in_made s there in
    let held = reopened_index m after to.is to.marked (omega (arith, in_m)) in
    let count = held.1 in
    let index : after.header.shstrndx ≡ before.header.shstrndx =
    held.0 ∙ to.follows.index ∙ all.index in
    let again = to.again s in_m in
    let name : (header_at after s).name ≡ (header_at before s).name =
    ap (λ (h : Shdr). h.name) again.header
    ∙ placed_name (places_of m) m s (header_at m s)
    ∙ to.named.stays s (all.in_changed s there)
    ∙ plain_name c renewed r.object to.changed s to.changes.known renewed_is (all.in_r s there)
    ∙ all.named.stays s (all.in_base s there)
    ∙ ap (λ (x : Section). x.header.name) (made_of_section before s left.from_1 there)
    ∙ made_name before s plain in
    let below = table_below c before after r k.made all (omega (arith, there)) in
    let in_made = all.in_made before.header.shstrndx below in
    named_alike after before s index name (λ full offset.
    let some = positive_by_test before.header.shstrndx full in
    table_alike back c before after r before.header.shstrndx offset k all stays plain
    (omega (arith, some)) below (omega (arith, in_made, count)))

-- ---- Where it is made anew

-- a number that is among others has what all of them have
among_all : (P : ℕ → Type 0) (l : List ℕ) (n : ℕ) → All P l → is_among l n ≡ true → P n
unfolding is_among
among_all P [] n each e = cc
among_all P (m ∷ l) n each e = elim (or_cases (nat_eq n m) (list_any (nat_eq n) l) e) [
  | inl same ↦ subst P (sym (eqb-true n m same)) (All-head P m l each)
  | inr later ↦ among_all P l n (All-tail P m l each) later
]

name_table : (o : Object) → renews_names o [] ≡ true → IsNameTable o o.header.shstrndx
unfolding renews_names
name_table o renewed =
    let index = o.header.shstrndx in
    let kept = and_parts (is_among (kept_from_1 o []) index) (has_names_alone o [] index) renewed
    in
    let within = among_all (λ s. IsInRange 1 (length o.sections) s) (kept_from_1 o []) index
    (kept_in_range o []) kept.0 in
    record {
      from = within.0;
      below = within.1;
      index = refl;
      renewed = renewed;
      stype = renewed_type o [] renewed;
    }

-- of what is made, opened again
named_again : (m after : Object) (out : List ℕ) (t s : ℕ) (name : List ℕ) → IsNamedIn m t s name
    → opened out ≡ Ok after → after ≡ as_opened (settle m) → m.header_marked ≡ true
    → m.header.shstrndx ≡ t → 1 ≤ t → t < length m.sections
    → IsWrittenAgain m after t → IsWrittenAgain m after s → HasNoNul name
    → section_name after s ≡ Some name
named_again m after out t s name named e is marked index from below again_t again_s whole =
    let held = reopened_index m after is marked (omega (arith, below)) in
    let count = held.1 in
    let in_after : t < length after.sections = omega (arith, below, count) in
    let stype = ap (λ (h : Shdr). h.stype) again_t.header
    ∙ type-placed (places_of m) m t (header_at m t) ∙ named.stype in
    let raw : (section_at after t).raw ≡ table named.names =
    again_t.raw
    ∙ given_bytes m t (table named.names) named.pieces (omega (arith, from))
    (strings_fill (header_at m t) named.stype) named.bytes in
    let has : IsStringSection after t (table named.names) =
    subst (λ (l : List ℕ). IsStringSection after t l) raw
    (opened_strings after t in_after (opened_at out after t e in_after)
    (reopened_inside m after out t e again_t in_after below (omega (arith, from))) stype) in
    let one : t ≡ after.header.shstrndx = sym (held.0 ∙ index) in
    named_there after s named.names name
    (subst (λ (i : ℕ). IsStringSection after i (table named.names)) one has)
    (ne_eqb after.header.shstrndx 0 (λ none. omega (arith, one, none, from)))
    (ap (λ (h : Shdr). h.name) again_s.header ∙ placed_name (places_of m) m s (header_at m s)
    ∙ named.place) named.there whole

-- the names that are written, of those that the object has
all_bytes : (c : Changes) (names : List (Option (List ℕ))) → AreChanges c → AreByteNames names
    → AreByteNames (names ++ map (λ change. Some change.0) c.add)
all_bytes c names are each =
    All-append (λ (name : Option (List ℕ)). AreBytes (or_empty_name name)) names
    (map (λ change. Some change.0) c.add) each
    (All-map (λ (name : Option (List ℕ)). AreBytes (or_empty_name name))
    (λ (change : List ℕ × List ℕ). Some change.0) c.add
    (All-weaker (λ (change : List ℕ × List ℕ). AreBytes change.0 × AreBytes change.1)
    (λ (change : List ℕ × List ℕ). AreBytes change.0) (λ change both. both.0) c.add are.add))

-- what the last step is given of the names: that of a section, and that all of them are bytes
record IsGivenName (names : List (Option (List ℕ))) (s : ℕ) (name : List ℕ) : Type 0 where
  here : get_or ([] ∷ texts_of names) s [] ≡ name
  there : Contains (texts_of names) name
  bytes : AreByteNames names

given_name : (names more : List (Option (List ℕ))) (s : ℕ) (name : List ℕ) → 1 ≤ s
    → s < length names → get_or names s None ≡ Some name → AreByteNames (names ++ more)
    → IsGivenName (names ++ more) s name
given_name names more s name from below is bytes =
    let long = length-append names more in
    let text = text_at (names ++ more) s from (omega (arith, below, long)) in
    let same : or_empty_name (get_or (names ++ more) s None) ≡ name =
    ap or_empty_name (get_or_append_left names more None s below ∙ is) in
    record {
      here = text.0 ∙ same;
      there = subst (λ (x : List ℕ). Contains (texts_of (names ++ more)) x) same text.1;
      bytes = bytes;
    }

renewed_names : (c : Changes) (before after : Object) (r : Rebuilt) (s : ℕ) → AreChanges c
    → (k : IsCopied c before after) → KeepsAll c before after r k.made → IsLeft c before r s
    → is_among (chosen_for_bytes r.object c.update) before.header.shstrndx ≡ false
    → renews_names before [] ≡ true
    → section_name after s ≡ Some (or_empty_name (section_name before s))
renewed_names c before after r s are k all left stays renewed =
    let name = or_empty_name (section_name before s) in
    let t = before.header.shstrndx in
    let there = left.there in
    let from = left.from_1 in
    let to = all.to in
    let q = all.to.changes.known in
    let m = k.made.object in
    let anew = renews_names before (removed_by_name c.remove before) in
    let is = name_table before renewed in
    let blocks = blocks_are before t
    (opened_at k.image before t k.is_before is.below).pieces in
    let made = made_named before t s
    (section_at before t).raw is blocks
    (section_at_is before t to.ok).home.bytes from there in
    let in_r = named_stays (rebuilt_object before []) r.object t s
    name made
    (all.base.pieces t (all.in_base t is.below))
    (all.named.stays s (all.in_base s there)) in
    let headed = bytes_header r.object c.update q.updated s q.is_updated (all.in_r s there) in
    let in_updated = named_stays r.object q.updated t s
    name in_r
    (bytes_pieces r.object c.update q.updated t q.is_updated stays)
    (ap (λ (h : Shdr). h.name) headed) in
    let follow = bytes_follow r.object c.update q.updated q.is_updated in
    let more = follow.count in
    let s_in_r = all.in_r s there in
    let t_in_r = all.in_r t is.below in
    let index : q.updated.header.shstrndx ≡ t = follow.index ∙ all.index in
    let at : IsNamedIn q.updated q.updated.header.shstrndx s
    name =
    subst (λ (i : ℕ). IsNamedIn q.updated i s name) (sym index)
    in_updated in
    let t_from = is.from in
    let t_in_updated : q.updated.header.shstrndx < length q.updated.sections =
    omega (arith, t_in_r, more, index) in
    let s_in_updated : s < length q.updated.sections = omega (arith, s_in_r, more) in
    let read = name_is q.updated s name at
    (ne_eqb q.updated.header.shstrndx 0 (λ none. omega (arith, none, index, t_from)))
    t_in_updated (name_whole before s) in
    let free = not_chosen c anew r.object to.changed s q left.not_chosen in
    let kept = names_kept (names_in q.updated) c.rename q.names s q.is_names free.names in
    let long = kept.count in
    let count = listed_count q.updated (omega (arith, s_in_updated)) in
    let strings = own_strings q.updated q.updated.header.shstrndx (table at.names) t_in_updated
    at.pieces at.stype at.bytes in
    let given = given_name q.names (map (λ change. Some change.0) c.add) s
    name from (omega (arith, s_in_updated, long, count))
    (kept.name ∙ listed_name_at q.updated s from s_in_updated ∙ read)
    (all_bytes c q.names are
    (renamed_bytes (names_in q.updated) c.rename q.names q.is_names are.rename
    (names_are q.updated (table at.names) strings.blocks at.bytes))) in
    let kept_s = kept_up_to c anew r.object to.changed s q (all.in_r s there) in
    let kept_t = kept_up_to c anew r.object to.changed t q t_in_r in
    let in_added = named_stays q.updated q.added t s
    name in_updated kept_t.pieces
    (kept_s.name ∙ sym (ap (λ (h : Shdr). h.name) headed)) in
    let in_changed = last_named (changes_names c) anew q.added to.changed
    t s (q.names ++ map (λ change. Some change.0) c.add)
    name q.last (sym (kept_t.index ∙ all.index)) kept_t.below
    kept_s.below (ne_eqb s 0 (λ none. omega (arith, none, from))) in_added given.here given.there
    given.bytes in
    let in_made = named_stays to.changed m t s
    name in_changed
    (to.places.pieces t (all.in_changed t is.below))
    (to.named.stays s (all.in_changed s there)) in
    let t_in_m = all.in_made t is.below in
    named_again m after k.out t s name
    in_made k.is_after to.is to.marked (to.follows.index ∙ all.index) is.from t_in_m
    (to.again t t_in_m) (to.again s (all.in_made s there))
    (name_whole before s)

-- ---- Both

pub names_stay :
    ((kind : Kind) (class : Class) (order : Order) (bytes : List ℕ)
    → EncodesAsDecoded kind class order bytes)
    → (c : Changes) (before after : Object) (r : Rebuilt) (s : ℕ) → AreChanges c
    → (k : IsCopied c before after) → KeepsAll c before after r k.made → IsLeft c before r s
    → is_among (chosen_for_bytes r.object c.update) before.header.shstrndx ≡ false
    → section_name after s ≡ kept_name (renews_names before []) (section_name before s)
names_stay back c before after r s are k all left stays =
    by_table (renews_names before []) refl
  where
    by_table : (b : Bool) → renews_names before [] ≡ b
        → section_name after s ≡ kept_name b (section_name before s)
    by_table true e = renewed_names c before after r s are k all left stays e
    by_table false e = plain_names back c before after r s k all left stays e
