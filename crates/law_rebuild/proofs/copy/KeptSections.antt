-- Where no section is removed: what is made of a section has its header and its bytes.
use Rattle.std.proofs.Common.{◌≡◌, ℕ, zero, suc, ◌+◌, ◌-◌, ◌<◌, ◌≤◌, Bool, true, false, not, ◌&&◌, List, [], ◌∷◌, length, get_or, Option, None, refl, sym, ap, ◌∙◌, arith, inl, inr, ⊎_elim}
use Rattle.std.specs.Prelude.{if◌then◌else◌, ◌==◌, ◌||◌, map}
use Rattle.std.specs.List.{range_with_len}
use Rattle.std.proofs.lemmas.Bool.{cases_eq, cases_lt, ne_eqb}
use Rattle.std.proofs.lemmas.List.{nil_from_length}
use Rattle.std.proofs.lemmas.List.FromFn.{length-map-range_with_len, get_or-map-range_with_len}
use Rattle.elf_types.specs.Answers.{first_refusal}
use Rattle.elf_types.specs.declared.records.Class.{Class}
use Rattle.elf_types.specs.declared.records.Kind.{Kind}
use Rattle.elf_types.specs.declared.records.Order.{Order}
use Rattle.elf_types.specs.declared.records.Shdr.{Shdr}
use Rattle.elf_types.specs.declared.errors.ElfError.{ElfError}
use Rattle.elf_types.specs.declared.errors.ElfError.TheVariants.{OutOfFile}
use Rattle.law_object.specs.elf_xlate.declared.content.Items.{Items}
use Rattle.law_object.specs.elf_xlate.declared.content.Items.TheVariants as items
use Rattle.law_object.specs.elf_xlate.Translation.{encoded, EncodesAsDecoded}
use Rattle.strtab_build.specs.Table.{table}
use Rattle.law_object.specs.elf_object.Object.{Object, Section, Piece, section_at, absent_section, new_section, occupies_file}
use Rattle.law_object.specs.elf_object.Open.{home_len}
use Rattle.law_object.specs.elf_object.Answers.{no_section, out_of_file, raw_refusal, data_refusal}
use Rattle.law_object.specs.elf_object.Joined.{file_bytes}
use Rattle.law_object.specs.elf_object.Steps.{own_piece}
use Rattle.law_object.specs.elf_object.Valid.{IsObject}
use Rattle.law_object.proofs.elf_object.PassedLaws.{none_first, none_rest, not_refused}
use Rattle.law_object.proofs.ImageLaws.{joined-none}
use Rattle.law_object.proofs.KeepLaws.{section_at_is}
use Rattle.law_object.proofs.StandLaws.{file_bytes_when}
use Rattle.law_object.specs.elf_object.Sections.{header_at}
use Rattle.rebuild_model.specs.Followed.{renumbering}
use Rattle.rebuild_model.specs.Arranged.{Rebuilt}
use Rattle.rebuild_model.specs.Rebuilt.{renews_names, rebuilt_items, kept_items, kept_names, kept_refusal, items_follow, made_section, rebuilt_header, rebuilt_section, rebuilt_sections, rebuilt_object, rebuilt_index}
use Rattle.rebuild_model.specs.KeepingLaws.{without_places}
use Rattle.law_rebuild.proofs.strip.RebuiltLaws.{IsRebuilt}
use Rattle.law_rebuild.proofs.copy.NoneRemoved.{all_kept, all_from_1, all_same, header_same, followed_same}
use Rattle.law_rebuild.proofs.copy.SameItems.{IsOpenedAt, kept_same}
use Rattle.law_rebuild.proofs.copy.Reopened.{front_is, piece_bytes_are}

-- ---- Where no section is removed

-- what is rebuilt has each section from 1 on as it is made of the one with its number
pub made_of_section : (o : Object) (s : ℕ) → 1 ≤ s → s < length o.sections
    → section_at (rebuilt_object o []) s
    ≡ made_section (rebuilt_header o [] s) (rebuilt_items o [] s)
unfolding section_at rebuilt_sections rebuilt_section
made_of_section o s from below =
    ap (λ (l : List Section). get_or l s absent_section) (front_is o []).sections
    ∙ ap (λ (l : List ℕ). get_or (map (rebuilt_section o []) l) s absent_section) (all_kept o)
    ∙ get_or-map-range_with_len (rebuilt_section o []) 0 (length o.sections) s s absent_section
    below (omega arith)
    ∙ ap (λ (b : Bool). if b then new_section
    else made_section (rebuilt_header o [] s) (rebuilt_items o [] s))
    (ne_eqb s 0 (λ none. omega (arith, from, none)))

pub made_count : (o : Object) → length (rebuilt_object o []).sections ≡ length o.sections
unfolding rebuilt_sections
made_count o =
    ap length (front_is o []).sections
    ∙ ap (λ (l : List ℕ). length (map (rebuilt_section o []) l)) (all_kept o)
    ∙ length-map-range_with_len (rebuilt_section o []) 0 (length o.sections)

pub header_made : (o : Object) (s : ℕ)
    → without_places (rebuilt_header o [] s) ≡ without_places (header_at o s)
unfolding rebuilt_header
header_made o s = ap without_places (header_same (renumbering o []) (header_at o s) (all_same o))

pub same_index : (o : Object) → rebuilt_index o [] ≡ o.header.shstrndx
unfolding rebuilt_index
same_index o = followed_same (renumbering o []) o.header.shstrndx (all_same o)

pub plain_header : (o : Object) (s : ℕ)
    → without_places (made_section (rebuilt_header o [] s) (rebuilt_items o [] s)).header
    ≡ without_places (header_at o s)
unfolding made_section
plain_header o s = header_made o s

none_in_range : (f : ℕ → Option ElfError) (a n s : ℕ)
    → first_refusal (map f (range_with_len a n)) ≡ None → a ≤ s → s < a + n → f s ≡ None
none_in_range f a zero s none from below = absurd (omega (arith, from, below))
none_in_range f a (suc n) s none from below = elim (cases_eq s a) [
  | inl same ↦ ap f same ∙ none_first (f a) (map f (range_with_len (a + 1) n)) none
  | inr other ↦ none_in_range f (a + 1) n s
      (none_rest (f a) (map f (range_with_len (a + 1) n)) none) (greater s a from other)
      (omega (arith, below))
]
  where
    greater : (v a : ℕ) → a ≤ v → (v ≡ a → ⊥) → a + 1 ≤ v
    greater v a from other =
        ⊎_elim (λ less. omega (arith, less)) (λ past. absurd (other (omega (arith, from, past))))
        (cases_lt a v)

pub passed_at : (o : Object) (r : Rebuilt) (s : ℕ) → IsRebuilt o [] r → 1 ≤ s
    → s < length o.sections → kept_refusal o [] s ≡ None
passed_at o r s known from below =
    none_in_range (kept_refusal o []) 1 (length o.sections - 1) s
    (sym (ap (λ (l : List ℕ). first_refusal (map (kept_refusal o []) l)) (all_from_1 o))
    ∙ known.kept) from (omega (arith, from, below))

pub raw_inside : (o : Object) (s : ℕ) → kept_refusal o [] s ≡ None
    → (section_at o s).home.out ≡ false
unfolding kept_refusal raw_refusal
raw_inside o s passed =
    not_refused (section_at o s).home.out (OutOfFile s)
    (none_first (out_of_file o s) []
    (none_rest (no_section o s) (out_of_file o s ∷ [])
    (none_first (raw_refusal o s)
    ((if items_follow o [] s then data_refusal o s 0 else None) ∷ []) passed)))

-- ---- Sections in a file, and others

pub filled_pieces : (h : Shdr) (own : Items) → occupies_file h ≡ true
    → (made_section h own).pieces ≡ own_piece own 1 ∷ []
unfolding made_section
filled_pieces h own filled =
    ap (λ (b : Bool). let l : List Piece = if b then own_piece own 1 ∷ [] else [] in l) filled

size_of : (o : Object) (s : ℕ) → IsOpenedAt o s → occupies_file (header_at o s) ≡ true
    → (section_at o s).home.len ≡ (header_at o s).size
unfolding home_len
size_of o s at filled =
    at.len ∙ ap (λ (b : Bool). if b then (header_at o s).size else 0) filled

no_size : (o : Object) (s : ℕ) → IsOpenedAt o s → occupies_file (header_at o s) ≡ false
    → (section_at o s).home.len ≡ 0
unfolding home_len
no_size o s at filled =
    at.len ∙ ap (λ (b : Bool). if b then (header_at o s).size else 0) filled

pub filled_by_type : (a b : Shdr) → a.stype ≡ b.stype → occupies_file a ≡ occupies_file b
filled_by_type a b e = ap (λ (t : ℕ). not (t == 0 || t == 8)) e

-- ---- What an object has of a section of another one

-- its header but for its name and its place, and its bytes
pub record HasSection (o m : Object) (s : ℕ) : Type 0 where
  pub header : without_places (header_at m s) ≡ without_places (header_at o s)
  pub bytes : file_bytes m s ≡ (section_at o s).raw
  pub size : occupies_file (header_at m s) ≡ true
      → length (file_bytes m s) ≡ (header_at m s).size

-- its bytes, with the pieces that it is made with
pub remade_bytes :
    (back : (kind : Kind) (class : Class) (order : Order) (bytes : List ℕ)
    → EncodesAsDecoded kind class order bytes)
    (o m : Object) (s : ℕ) → IsObject o → IsOpenedAt o s → kept_refusal o [] s ≡ None → 1 ≤ s
    → (renews_names o [] && s == o.header.shstrndx) ≡ false
    → m.header.class ≡ o.header.class → m.header.order ≡ o.header.order
    → (header_at m s).stype ≡ (header_at o s).stype
    → (section_at m s).pieces ≡ (made_section (rebuilt_header o [] s) (rebuilt_items o [] s)).pieces
    → file_bytes m s ≡ (section_at o s).raw
unfolding rebuilt_items
remade_bytes back o m s ok at passed from plain class order stype pieces =
    by_type (occupies_file (header_at o s)) refl
  where
    same : occupies_file (header_at m s) ≡ occupies_file (header_at o s)
    same = filled_by_type (header_at m s) (header_at o s) stype

    made : occupies_file (rebuilt_header o [] s) ≡ occupies_file (header_at o s)
    made = filled_by_type (rebuilt_header o [] s) (header_at o s)
        (ap (λ (h : Shdr). h.stype) (header_made o s))

    by_type : (b : Bool) → occupies_file (header_at o s) ≡ b
        → file_bytes m s ≡ (section_at o s).raw
    by_type true e =
        piece_bytes_are m s (rebuilt_items o [] s)
        (pieces ∙ filled_pieces (rebuilt_header o [] s) (rebuilt_items o [] s) (made ∙ e))
        (omega (arith, from)) (same ∙ e)
        ∙ ap (λ (c : Class). encoded c m.header.order (rebuilt_items o [] s)) class
        ∙ ap (λ (r : Order). encoded o.header.class r (rebuilt_items o [] s)) order
        ∙ ap (λ (b : Bool). encoded o.header.class o.header.order
        (if b then items.Bytes (table (kept_names o [])) else kept_items o [] s)) plain
        ∙ kept_same back o s ok at passed
    by_type false e =
        let len = (section_at_is o s ok).home.inside (raw_inside o s passed) in
        let none = no_size o s at e in
        joined-none m s (file_bytes_when s (section_at m s) (omega (arith, from)) ∙ same ∙ e)
        ∙ sym (nil_from_length (section_at o s).raw (len ∙ none))

pub has_section :
    (back : (kind : Kind) (class : Class) (order : Order) (bytes : List ℕ)
    → EncodesAsDecoded kind class order bytes)
    (o m : Object) (s : ℕ) → IsObject o → IsOpenedAt o s → kept_refusal o [] s ≡ None → 1 ≤ s
    → (renews_names o [] && s == o.header.shstrndx) ≡ false
    → m.header.class ≡ o.header.class → m.header.order ≡ o.header.order
    → without_places (header_at m s) ≡ without_places (header_at o s)
    → (section_at m s).pieces ≡ (made_section (rebuilt_header o [] s) (rebuilt_items o [] s)).pieces
    → HasSection o m s
has_section back o m s ok at passed from plain class order header pieces =
    let stype : (header_at m s).stype ≡ (header_at o s).stype =
    ap (λ (h : Shdr). h.stype) header in
    let bytes = remade_bytes back o m s ok at passed from plain class order stype pieces in
    record {
      header = header;
      bytes = bytes;
      size = λ filled.
          let old : occupies_file (header_at o s) ≡ true =
          sym (filled_by_type (header_at m s) (header_at o s) stype) ∙ filled in
          ap length bytes
          ∙ (section_at_is o s ok).home.inside (raw_inside o s passed)
          ∙ size_of o s at old
          ∙ sym (ap (λ (h : Shdr). h.size) header);
    }
