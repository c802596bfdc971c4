-- What copy makes of an object, and an object whose symbols are in another order, are objects.
use Rattle.std.proofs.Common.{◌≡◌, ℕ, ◌-◌, ◌^◌, ◌<◌, ◌≤◌, Bool, true, false, List, [], ◌∷◌, ◌++◌, length, get_or, drop, Option, Some, Result, Ok, Err, sym, ap, ◌∙◌, subst, arith, lit<}
use Rattle.std.specs.Prelude.{All, slice_index_or, if◌then◌else◌, ◌==◌, map}
use Rattle.std.specs.List.{enumerate_from}
use Rattle.std.proofs.lemmas.Bool.{ltb-false}
use Rattle.std.proofs.lemmas.List.{length-map, nil_from_length}
use Rattle.std.proofs.lemmas.List.Elements.{All-head, All-tail, All-map, All-get_or}
use Rattle.std.proofs.lemmas.List.FromFn.{length-enumerate_from}
use Rattle.elf_types.specs.Answers.{answered}
use Rattle.elf_types.specs.declared.records.Class.{Class}
use Rattle.elf_types.specs.declared.records.Shdr.{Shdr}
use Rattle.elf_types.specs.declared.errors.ElfError.{ElfError}
use Rattle.elf_types.specs.declared.errors.ElfError.TheVariants.{TooLarge}
use Rattle.hash_model.specs.elf_xlate.declared.content.Items.TheVariants as items
use Rattle.hash_model.specs.elf_xlate.Headers.{IsShdr}
use Rattle.hash_model.specs.strtab_build.Table.{table, place_of}
use Rattle.hash_model.specs.elf_ident.Front.{zero_shdr}
use Rattle.hash_model.proofs.elf_ident.Refusals.{answered_ok, bind_ok}
use Rattle.hash_model.specs.elf_object.Object.{Object, Section, absent_section}
use Rattle.hash_model.specs.elf_object.Calls.{Call, newscn, update_shdr, newdata, replace}
use Rattle.hash_model.specs.elf_object.Steps.{new_number}
use Rattle.hash_model.specs.elf_object.Strings.{or_empty_name}
use Rattle.hash_model.specs.elf_object.Valid.{IsSection, IsObject, KeepsObject}
use Rattle.hash_model.proofs.elf_object.PassedLaws.{not_refused, step_ok}
use Rattle.law_object.proofs.KeepLaws.{zero_shdr_is, section_at_is, with_own_is, newscn_keeps, update_shdr_keeps, newdata_keeps, replace_keeps}
use Rattle.law_object.proofs.PlacedLaws.{each_row}
use Rattle.hash_model.specs.elf_object.Sections.{header_at, edited, in_turn}
use Rattle.rebuild_model.specs.Removed.{removed_by_name}
use Rattle.rebuild_model.specs.Arranged.{Rebuilt, arranged}
use Rattle.rebuild_model.specs.Rebuilt.{rebuilt, renews_names, table_refusal}
use Rattle.rebuild_model.specs.Copied.{Changes, or_strip, names_in, section_named, update_fault, with_bytes, with_name, flags_fault, with_bits, with_section_flags, added_header, with_added, named_section, with_names, named, changes_names, with_changes, copied}
use Rattle.rebuild_model.specs.Laws.{AreChanges}
use Rattle.law_rebuild.proofs.strip.NameLaws.{place_within}
use Rattle.law_rebuild.proofs.strip.SectionLaws.{relinked_is}
use Rattle.law_rebuild.proofs.strip.ArrangedLaws.{arranged_keeps, placed_from_is}
use Rattle.law_rebuild.proofs.strip.RebuiltLaws.{rebuilt_is_object}

-- ---- Changes one after the other

or_strip_ok : {A : Type 0} (r : Result A ElfError) (x : A) → or_strip r ≡ Ok x → r ≡ Ok x
or_strip_ok (Ok y) x e = cc
or_strip_ok (Err d) x e = cc

in_turn_keeps : {A B E : Type 0} (P : A → Type 0) (Q : B → Type 0)
    (change : A → B → Result A E)
    → ((a : A) (b : B) (c : A) → P a → Q b → change a b ≡ Ok c → P c)
    → (a : A) (l : List B) (c : A) → P a → All Q l → in_turn change a l ≡ Ok c → P c
unfolding in_turn
in_turn_keeps P Q change keeps a [] c is each e = let same : a ≡ c = cc in subst P same is
in_turn_keeps P Q change keeps a (x ∷ l) c is each e =
    let next = bind_ok (change a x) (λ b. in_turn change b l) c e in
    in_turn_keeps P Q change keeps next.0 l c
    (keeps a x next.0 is (All-head Q x l each) next.1) (All-tail Q x l each) next.2

-- an edit that was not refused is a step
pub edited_keeps : {A : Type 0} (call : Call A) (o p : Object) → KeepsObject call → IsObject o
    → edited call o ≡ Ok p → IsObject p
edited_keeps call o p keeps ok e =
    let value = bind_ok (call.answer o) (λ x. Ok (call.after o)) p e in
    let same : call.after o ≡ p = let both = value.2 in cc in
    subst IsObject (step_ok call o value.0 value.1 ∙ same) (keeps o ok)

-- ---- Each change

bytes_keep : (o : Object) (change : List ℕ × List ℕ) (p : Object) → IsObject o
    → with_bytes o change ≡ Ok p → IsObject p
unfolding with_bytes
bytes_keep o change p ok e =
    let found = bind_ok (section_named (names_in o) change.0) _ p e in
    let passed = bind_ok (answered (update_fault o found.0 change.0 change.1) found.0)
    (λ s. or_strip (edited (replace s 0 (items.Bytes change.1)) o)) p found.2 in
    edited_keeps (replace passed.0 0 (items.Bytes change.1)) o p
    (replace_keeps passed.0 0 (items.Bytes change.1)) ok
    (or_strip_ok (edited (replace passed.0 0 (items.Bytes change.1)) o) p passed.2)

flags_are : (h : Shdr) (bits : ℕ) → IsShdr h → bits < 2 ^ 64 → IsShdr (with_bits bits h)
flags_are h bits is small = record {
  name = is.name;
  stype = is.stype;
  flags = small;
  addr = is.addr;
  offset = is.offset;
  size = is.size;
  link = is.link;
  info = is.info;
  addralign = is.addralign;
  entsize = is.entsize;
}

flags_keep : (names : List (Option (List ℕ))) (o : Object) (change : List ℕ × ℕ) (p : Object)
    → IsObject o → change.1 < 2 ^ 64 → with_section_flags names o change ≡ Ok p → IsObject p
unfolding with_section_flags
flags_keep names o change p ok small e =
    let found = bind_ok (section_named names change.0) _ p e in
    let passed = bind_ok (answered (flags_fault o found.0 change.0 change.1) found.0)
    (λ s. or_strip (edited (update_shdr s (with_bits change.1 (header_at o s))) o)) p found.2 in
    let h = with_bits change.1 (header_at o passed.0) in
    edited_keeps (update_shdr passed.0 h) o p
    (update_shdr_keeps passed.0 h
    (flags_are (header_at o passed.0) change.1 (section_at_is o passed.0 ok).header small)) ok
    (or_strip_ok (edited (update_shdr passed.0 h) o) p passed.2)

added_header_is : IsShdr added_header
unfolding zero_shdr
added_header_is =
    let zeros = zero_shdr_is in
    record {
      name = zeros.name;
      stype = lit< tt;
      flags = zeros.flags;
      addr = zeros.addr;
      offset = zeros.offset;
      size = zeros.size;
      link = zeros.link;
      info = zeros.info;
      addralign = lit< tt;
      entsize = zeros.entsize;
    }

added_keeps : (o : Object) (change : List ℕ × List ℕ) (p : Object) → IsObject o
    → with_added o change ≡ Ok p → IsObject p
unfolding with_added
added_keeps o change p ok e =
    let s = new_number o in
    let whole = or_strip_ok _ p e in
    let first = bind_ok (edited newscn o) _ p whole in
    let second = bind_ok (edited (update_shdr s added_header) first.0) _ p first.2 in
    edited_keeps (newdata s (items.Bytes change.1)) second.0 p
    (newdata_keeps s (items.Bytes change.1) 1)
    (edited_keeps (update_shdr s added_header) first.0 second.0
    (update_shdr_keeps s added_header added_header_is)
    (edited_keeps newscn o first.0 newscn_keeps ok first.1) second.1) second.2

-- ---- The table of the names

named_section_is : (class : Class) (names : List (List ℕ)) (s : ℕ) (c : Section)
    → length (table names) ≤ 2 ^ 32 - 1 → IsSection class c
    → IsSection class (named_section names s c)
named_section_is class names s c small is = by_test (s == 0)
  where
    by_test : (b : Bool) → IsSection class (if b then c else (record c {
      header = record c.header { name = place_of (slice_index_or ([] ∷ names) s []) names };
      marked = true;
    }))
    by_test true = is
    by_test false =
        let place = place_within (slice_index_or ([] ∷ names) s []) names in
        let header = relinked_is class c.header
        (place_of (slice_index_or ([] ∷ names) s []) names) c.header.link c.header.info is.header
        is.fitting (omega (arith, place, small)) is.header.link is.header.info in
        record {
          header = header.0;
          fitting = header.1;
          home = is.home;
          pieces = is.pieces;
          others = is.others;
          piece_count = is.piece_count;
        }

-- with the name of each section
named_is : (o : Object) (names : List (List ℕ)) → IsObject o
    → length (table names) ≤ 2 ^ 32 - 1
    → IsObject (record o {
      sections = map (λ row. named_section names row.0 row.1) (enumerate_from 0 o.sections);
    })
named_is o names ok small =
    let count : length (map (λ row. named_section names row.0 row.1)
    (enumerate_from 0 o.sections)) ≡ length o.sections =
    length-map (enumerate_from 0 o.sections) (λ row. named_section names row.0 row.1)
    ∙ length-enumerate_from 0 o.sections in
    let few = ok.section_count in
    record {
      header = ok.header;
      fitting = ok.fitting;
      phnum = ok.phnum;
      shnum = ok.shnum ∙ sym count;
      pad = ok.pad;
      pad_bytes = ok.pad_bytes;
      phdr_count = ok.phdr_count;
      sections = All-map (IsSection o.header.class)
          (λ row. named_section names row.0 row.1) (enumerate_from 0 o.sections)
          (each_row (λ row. IsSection o.header.class (named_section names row.0 row.1))
          o.sections absent_section
          (λ i h. named_section_is o.header.class names i (get_or o.sections i absent_section)
          small
          (All-get_or (IsSection o.header.class) o.sections i absent_section h ok.sections)));
      section_count = omega (arith, count, few);
      string_index = λ none. ok.string_index
          (nil_from_length o.sections (sym count ∙ ap length none));
      base = ok.base;
      base_length = ok.base_length;
      fill = ok.fill;
    }

names_keep : (renewed : Bool) (o : Object) (names : List (Option (List ℕ))) (p : Object)
    → IsObject o → named renewed o names ≡ Ok p → IsObject p
unfolding named with_names table_refusal
names_keep renewed o names p ok e =
    let texts = map or_empty_name (drop 1 names) in
    let first = bind_ok _ (λ q. or_strip (answered (table_refusal texts) (with_names q texts))) p e
    in
    let value = answered_ok _ o first.0 first.1 in
    let made = answered_ok (table_refusal texts) (with_names first.0 texts) p
    (or_strip_ok (answered (table_refusal texts) (with_names first.0 texts)) p first.2) in
    let small : length (table texts) ≤ 2 ^ 32 - 1 =
    ltb-false (2 ^ 32 - 1) (length (table texts)) (not_refused _ TooLarge made.0) in
    let named_as = named_is first.0 texts (subst IsObject value.1 ok) small in
    subst IsObject made.1
    (with_own_is (record first.0 {
      sections = map (λ row. named_section texts row.0 row.1)
          (enumerate_from 0 first.0.sections);
    }) first.0.header.shstrndx 0 (items.Bytes (table texts)) named_as)

-- ---- All changes

changes_keep : (c : Changes) (renewed : Bool) (o p : Object) → IsObject o → AreChanges c
    → with_changes c renewed o ≡ Ok p → IsObject p
unfolding with_changes
changes_keep c renewed o p ok are e =
    let updated = bind_ok (in_turn with_bytes o c.update) _ p e in
    let names = bind_ok (in_turn with_name (names_in updated.0) c.rename) _ p updated.2 in
    let flagged = bind_ok (in_turn (with_section_flags names.0) updated.0 c.flags) _ p names.2 in
    let added = bind_ok (in_turn with_added flagged.0 c.add) _ p flagged.2 in
    let first = in_turn_keeps IsObject (λ change. Unit {0}) with_bytes
    (λ a b d is any. bytes_keep a b d is) o c.update updated.0 ok (λ k d h. tt) updated.1 in
    let second = in_turn_keeps IsObject (λ change. change.1 < 2 ^ 64) (with_section_flags names.0)
    (λ a b d is small. flags_keep names.0 a b d is small) updated.0 c.flags flagged.0 first
    are.flags flagged.1 in
    let third = in_turn_keeps IsObject (λ change. Unit {0}) with_added
    (λ a b d is any. added_keeps a b d is) flagged.0 c.add added.0 second (λ k d h. tt) added.1 in
    by_names (changes_names c) added.0 (names.0 ++ map (λ change. Some change.0) c.add) third
    added.2
  where
    by_names : (b : Bool) (q : Object) (names : List (Option (List ℕ))) → IsObject q
        → (if b then named renewed q names else Ok q) ≡ Ok p → IsObject p
    by_names true q names is h = names_keep renewed q names p is h
    by_names false q names is h = let same : q ≡ p = cc in subst IsObject same is

pub copied_is_object : (o : Object) (c : Changes) (r : Rebuilt) → IsObject o → AreChanges c
    → copied c o ≡ Ok r → IsObject r.object
unfolding copied
copied_is_object o c r ok are e =
    let removed = removed_by_name c.remove o in
    let first = bind_ok (or_strip (rebuilt o removed)) _ r e in
    let is = rebuilt_is_object o removed first.0 ok
    (or_strip_ok (rebuilt o removed) first.0 first.1) in
    let changed = bind_ok (with_changes c (renews_names o removed) first.0.object) _ r first.2 in
    let kept = changes_keep c (renews_names o removed) first.0.object changed.0 is are changed.1 in
    arranged_keeps IsObject (record { object = changed.0; tail = first.0.tail }) r
    (or_strip_ok (arranged (record { object = changed.0; tail = first.0.tail })) r changed.2) kept
    (λ tail stated passed. placed_from_is changed.0 tail kept passed)
