-- An update in place leaves an object, and so does one that failed (`IsObject`).
use Rattle.std.proofs.Common.{◌≡◌, ℕ, ◌^◌, ◌<◌, Bool, true, false, List, [], ◌∷◌, length, get_or, None, refl, arith, lit<, sym, ap, ◌∙◌, subst}
use Rattle.std.specs.Prelude.{All, IsTrue, map, if◌then◌else◌}
use Rattle.std.specs.List.{enumerate_from}
use Rattle.std.proofs.lemmas.List.{length-map, nil_from_length}
use Rattle.std.proofs.lemmas.List.FromFn.{length-enumerate_from}
use Rattle.std.proofs.lemmas.List.Elements.{All-map, All-replicate, All-weaker}
use Rattle.elf_types.specs.declared.records.Class.{Class}
use Rattle.elf_types.specs.declared.records.Shdr.{Shdr}
use Rattle.elf_object.specs.elf_xlate.Headers.{IsShdr, shdr_fits}
use Rattle.elf_object.specs.Object.{Object, Section, Piece, absent_section, section_at, is_dirty}
use Rattle.elf_object.specs.Layout.{places_of, placed_by, placed}
use Rattle.elf_object.specs.Joined.{file_bytes}
use Rattle.elf_object.specs.Open.{opened_section}
use Rattle.elf_object.specs.Image.{image}
use Rattle.elf_object.specs.Refusal.{refusal}
use Rattle.elf_object.specs.Settled.{settled_section, settled_over, settle, blank, untold_section, untold, settled}
use Rattle.elf_object.specs.Changed.{is_moved, marked_piece, torn_section, torn_over, torn}
use Rattle.elf_types.specs.Lists.{AreBytes}
use Rattle.elf_object.specs.Valid.{IsPiece, OthersOwn, IsSection, IsObject}
use Rattle.elf_object.proofs.PieceLaws.{IsOwn}
use Rattle.elf_object.proofs.SettledSections.{length-blank}
use Rattle.law_object.specs.Laws.{UpdatesKeep}
use Rattle.law_object.proofs.ByteLaws.{image_are}
use Rattle.law_object.proofs.KeepLaws.{section_at_is, pieces_kept, marked_is}
use Rattle.law_object.proofs.PlacedLaws.{each_row, placed_is}
use Rattle.law_object.proofs.ImageLaws.{placed-dirty}
use Rattle.law_object.proofs.OpenLaws.{opened_section_is}
use Rattle.law_object.proofs.ReopenLaws.{image_stands}
use Rattle.law_object.proofs.CountLaws.{limit_small}
use Rattle.law_object.proofs.StandLaws.{section_count-placed}
use Rattle.law_object.proofs.SettledLaws.{section_raw, sections_settle, settle-dirty, settle-clean}

-- ---- An update in place

-- the image stays below the limit
image_limited : (o : Object) → IsObject o → is_dirty o ≡ true → refusal o ≡ None → length (image o) < 2 ^ 64
image_limited o ok dirty passed =
    let stands = image_stands o ok dirty passed in
    let limit = limit_small (placed o).header.class in
    let small = stands.small in
    omega arith

-- the sections of the image, opened
sections_are : (o : Object) → IsObject o → is_dirty o ≡ true → refusal o ≡ None
    → All (IsSection (placed_by (places_of o) o).header.class) (map (opened_section (image o)) (map (λ c. c.header) (placed_by (places_of o) o).sections))
sections_are o ok dirty passed =
    let q = placed_by (places_of o) o in
    let is : IsObject (placed_by (places_of o) o) = subst IsObject (placed-dirty o dirty) (placed_is o ok passed) in
    let are = image_are o ok passed in
    let each = λ (x : Shdr) (both : IsShdr x × IsTrue (shdr_fits (placed_by (places_of o) o).header.class x)). opened_section_is (placed_by (places_of o) o).header.class (image o) x are both.0 both.1 in
    All-map (IsSection (placed_by (places_of o) o).header.class) (opened_section (image o)) (map (λ c. c.header) (placed_by (places_of o) o).sections)
    (All-weaker (λ x. IsShdr x × IsTrue (shdr_fits (placed_by (places_of o) o).header.class x)) (λ x. IsSection (placed_by (places_of o) o).header.class (opened_section (image o) x)) each (map (λ c. c.header) (placed_by (places_of o) o).sections)
    (All-map (λ h. IsShdr h × IsTrue (shdr_fits (placed_by (places_of o) o).header.class h)) (λ c. c.header) (placed_by (places_of o) o).sections
    (All-weaker (IsSection (placed_by (places_of o) o).header.class) (λ c. IsShdr c.header × IsTrue (shdr_fits (placed_by (places_of o) o).header.class c.header)) (λ c x. (x.header, x.fitting)) (placed_by (places_of o) o).sections is.sections)))

settled_over_is : (image : List ℕ) (q : Object) → IsObject q → AreBytes image → length image < 2 ^ 64
    → All (IsSection q.header.class) (map (λ row. settled_section (length image) (file_bytes q row.0) row.1.header) (enumerate_from 0 q.sections))
    → IsObject (settled_over image q)
unfolding settled_over
settled_over_is image q is are small each = record {
  header = is.header;
  fitting = is.fitting;
  phnum = is.phnum;
  shnum = is.shnum ∙ sym (length-map (enumerate_from 0 q.sections) (λ (row : ℕ × Section). settled_section (length image) (file_bytes q row.0) row.1.header) ∙ length-enumerate_from 0 q.sections);
  pad = is.pad;
  pad_bytes = is.pad_bytes;
  phdr_count = is.phdr_count;
  sections = each;
  section_count = rw (length-map, length-enumerate_from) (is.section_count);
  string_index = λ none. is.string_index (nil_from_length q.sections (sym (length-map (enumerate_from 0 q.sections) (λ (row : ℕ × Section). settled_section (length image) (file_bytes q row.0) row.1.header) ∙ length-enumerate_from 0 q.sections) ∙ ap length none));
  base = are;
  base_length = small;
  fill = is.fill;
}

settle_is : (o : Object) → IsObject o → refusal o ≡ None → IsObject (settle o)
settle_is o ok passed = by_test (is_dirty o) refl
  where
    by_test : (b : Bool) → is_dirty o ≡ b → IsObject (settle o)
    by_test true dirty =
        let same = placed-dirty o dirty in
        let is : IsObject (placed_by (places_of o) o) = subst IsObject same (placed_is o ok passed) in
        let count = section_count-placed (places_of o) o in
        let sections = sections_settle (image o) (placed_by (places_of o) o) (λ s h. section_raw o s ok dirty passed (omega arith)) in
        let each = subst (All (IsSection (placed_by (places_of o) o).header.class)) sections (sections_are o ok dirty passed) in
        subst IsObject (sym (settle-dirty o dirty ∙ ap (settled_over (image o)) same))
        (settled_over_is (image o) (placed_by (places_of o) o) is (image_are o ok passed) (image_limited o ok dirty passed) each)
    by_test false clean = subst IsObject (sym (settle-clean o clean)) ok

-- ---- Over a source that does not tell its bytes

blank_are : (l : List ℕ) → AreBytes (blank l)
blank_are l = All-replicate (λ n. n < 2 ^ 8) (length l) 0 (lit< tt)

untold_section_is : (class : Class) (c : Section) → IsSection class c
    → IsSection class (untold_section c)
untold_section_is class c is = record {
  header = is.header;
  fitting = is.fitting;
  home = record {
    at = is.home.at;
    len = is.home.len;
    inside = λ stays. length-blank c.raw ∙ is.home.inside stays;
    outside = λ out. ap blank (is.home.outside out);
    empty = is.home.empty;
    bytes = blank_are c.raw;
  };
  pieces = is.pieces;
  others = is.others;
  piece_count = is.piece_count;
}

untold_is : (o : Object) → IsObject o → IsObject (untold o)
unfolding untold
untold_is o is =
    let count = length-map o.sections untold_section in
    record {
      header = is.header;
      fitting = is.fitting;
      phnum = is.phnum;
      shnum = is.shnum ∙ sym count;
      pad = is.pad;
      pad_bytes = is.pad_bytes;
      phdr_count = is.phdr_count;
      sections = All-map (IsSection o.header.class) untold_section o.sections
          (All-weaker (IsSection o.header.class)
          (λ c. IsSection o.header.class (untold_section c)) (untold_section_is o.header.class)
          o.sections is.sections);
      section_count = rw length-map (is.section_count);
      string_index = λ none. is.string_index (nil_from_length o.sections (sym count ∙ ap length none));
      base = blank_are o.base;
      base_length = let len = length-blank o.base in let small = is.base_length in omega arith;
      fill = is.fill;
    }

left_is : (o : Object) (told : Bool) → IsObject o → refusal o ≡ None → IsObject (settled told o)
unfolding settled
left_is o true ok passed = settle_is o ok passed
left_is o false ok passed = untold_is (settle o) (settle_is o ok passed)

-- ---- An update that failed

others_marked : (l : List Piece) → OthersOwn l → OthersOwn (map marked_piece l)
others_marked [] others = tt
others_marked (x ∷ l) others = All-map IsOwn marked_piece l others

torn_section_is : (class : Class) (moved : Bool) (c : Section) → IsSection class c → IsSection class (torn_section moved c)
unfolding torn_section
torn_section_is class true c is =
    pieces_kept class c (map marked_piece c.pieces) is
    (All-map IsPiece marked_piece c.pieces (All-weaker IsPiece (λ p. IsPiece (marked_piece p)) marked_is c.pieces is.pieces))
    (others_marked c.pieces is.others)
    (rw length-map (is.piece_count))
torn_section_is class false c is = is

torn_over_is : (moved : ℕ → Bool) (bytes : List ℕ) (q : Object) → IsObject q → AreBytes bytes → length bytes < 2 ^ 64 → IsObject (torn_over moved bytes q)
unfolding torn_over section_at
torn_over_is moved bytes q is are small =
    let row : (i : ℕ) → i < length q.sections → IsSection q.header.class (torn_section (moved i) (get_or q.sections i absent_section)) = λ i h.
    torn_section_is q.header.class (moved i) (get_or q.sections i absent_section) (section_at_is q i is) in
    record {
      header = is.header;
      fitting = is.fitting;
      phnum = is.phnum;
      shnum = is.shnum ∙ sym (length-map (enumerate_from 0 q.sections) (λ (r : ℕ × Section). torn_section (moved r.0) r.1) ∙ length-enumerate_from 0 q.sections);
      pad = is.pad;
      pad_bytes = is.pad_bytes;
      phdr_count = is.phdr_count;
      sections = All-map (IsSection q.header.class) (λ r. torn_section (moved r.0) r.1) (enumerate_from 0 q.sections)
          (each_row (λ r. IsSection q.header.class (torn_section (moved r.0) r.1)) q.sections absent_section row);
      section_count = rw (length-map, length-enumerate_from) (is.section_count);
      string_index = λ none. is.string_index (nil_from_length q.sections (sym (length-map (enumerate_from 0 q.sections) (λ (r : ℕ × Section). torn_section (moved r.0) r.1) ∙ length-enumerate_from 0 q.sections) ∙ ap length none));
      base = are;
      base_length = small;
      fill = is.fill;
    }

torn_is : (o : Object) (bytes : List ℕ) → IsObject o → refusal o ≡ None → AreBytes bytes → length bytes < 2 ^ 64 → IsObject (torn o bytes)
unfolding torn
torn_is o bytes ok passed are small = by_test (is_dirty o)
  where
    by_test : (b : Bool) → IsObject (if b then torn_over (is_moved o) bytes (placed o) else o)
    by_test true = torn_over_is (is_moved o) bytes (placed o) (placed_is o ok passed) are small
    by_test false = ok

-- ---- The law

pub updates_keep : (o : Object) → UpdatesKeep o
updates_keep o = record {
  bytes = image_are o;
  left = left_is o;
  settled = settle_is o;
  torn = torn_is o;
}
