-- What the program keeps of an object, opened again over its image, stands for the object settled.
use Rattle.std.proofs.Common.{◌≡◌, ◌∙◌, ℕ, zero, suc, ◌+◌, ◌<◌, ◌≤◌, Bool, true, false, List, [], ◌∷◌, length, take, drop, map, Option, Some, None, refl, sym, ap, subst, arith}
use Rattle.std.specs.Prelude.{IfSome, is_some, slice_get, if◌then◌else◌}
use Rattle.std.specs.List.{enumerate_from}
use Rattle.std.proofs.Math.ListN.{replicate}
use Rattle.std.proofs.lemmas.List.{length-take, length-drop}
use Rattle.std.proofs.lemmas.Option.{get_or_from_slice_get, slice_get_within}
use Rattle.elf_types.specs.declared.records.Shdr.{Shdr}
use Rattle.section_table.specs.elf_object.Object.{Object, Section, Home, WrittenFront, home_piece, section_at}
use Rattle.section_table.specs.elf_object.Open.{home_of, home_bytes, front_in_image}
use Rattle.section_table.specs.elf_object.Derived.{written_header}
use Rattle.section_table.specs.elf_object.Joined.{file_bytes}
use Rattle.section_table.specs.elf_object.Image.{front_blocks}
use Rattle.section_table.specs.elf_object.Settled.{settled_section, settled_over, blank, untold_section, untold}
use Rattle.section_table.proofs.section_data.Loading.{opened_lies}
use Rattle.section_table.specs.Sections.{SectionView as Scn, absent_scn, reopened_scn}
use Rattle.elf_descriptor.specs.declared.body.Body.{Body}
use Rattle.elf_descriptor.specs.Views.{object_of, section_of, raw_of, source_bytes, scn_at}
use Rattle.elf_descriptor.specs.Settling.{SettlesBody}
use Rattle.elf_descriptor.proofs.Objects.{section_is, section_count_is, whole_source}
use Rattle.elf_descriptor.proofs.Rows.{rows_map}
use Rattle.elf_descriptor.proofs.Settling.{reopened_plain, headers_in}

-- ---- What is left where the source tells its bytes or does not

abbrev pub left_object : Bool → Object → Object
left_object told o = if told then o else untold o

abbrev left_section : Bool → Section → Section
left_section told c = if told then c else untold_section c

abbrev left_sections : Bool → List Section → List Section
left_sections told l = if told then l else map untold_section l

abbrev left_base : Bool → List ℕ → List ℕ
left_base told l = if told then l else blank l

left_parts : (told : Bool) (o : Object) → left_object told o
    ≡ record o { base = left_base told o.base; sections = left_sections told o.sections }
unfolding untold
left_parts true o = refl
left_parts false o = refl

untold_each : {X : Type 0} (form : X → Section) (l : List X)
    → map (λ x. untold_section (form x)) l ≡ map untold_section (map form l)
untold_each form [] = refl
untold_each form (x ∷ l) =
    ap (λ (m : List Section). untold_section (form x) ∷ m) (untold_each form l)

left_each : {X : Type 0} (told : Bool) (form : X → Section) (l : List X)
    → map (λ x. left_section told (form x)) l ≡ left_sections told (map form l)
left_each true form l = refl
left_each false form l = untold_each form l

-- ---- One section

-- of a source that does not tell its bytes a home has as many zeros as it has bytes in the image
home_zeros : (home : Home) (whole : List ℕ)
    → (home.out ≡ false → 0 < home.len → home.at + home.len ≤ length whole)
    → (if home.out then [] else replicate home.len 0) ≡ blank (home_bytes home whole)
unfolding home_bytes
home_zeros home whole lies = by_out home.out refl
  where
    by_len : (len : ℕ) → (0 < len → home.at + len ≤ length whole)
        → replicate len 0 ≡ blank (take len (drop home.at whole))
    by_len zero inside = refl
    by_len (suc len) inside =
        let end = inside (omega arith) in
        let taken = length-take (suc len) (drop home.at whole) in
        let dropped = length-drop home.at whole in
        let same : suc len ≡ length (take (suc len) (drop home.at whole)) =
        omega (arith, end, taken, dropped) in
        ap (λ (n : ℕ). replicate {A = ℕ} n 0) same

    by_out : (out : Bool) → home.out ≡ out → (if out then [] else replicate home.len 0)
        ≡ blank (if out then [] else take home.len (drop home.at whole))
    by_out true is = refl
    by_out false is = by_len home.len (λ some. lies is some)

abbrev section_with : Shdr → Home → List ℕ → Section
section_with h home raw =
    record { header = h; home = home; raw = raw; pieces = home_piece ∷ []; marked = false }

section_reopened : (image : Option (List ℕ)) (x : Scn) (whole bytes : List ℕ)
    → IfSome image (λ held. held ≡ whole)
    → home_bytes (home_of (length whole) x.header) whole ≡ bytes
    → section_of image (reopened_scn (length whole) x)
    ≡ left_section (is_some image) (settled_section (length whole) bytes x.header)
unfolding section_of raw_of settled_section
section_reopened None x whole bytes held raw =
    let lies = opened_lies x.cell.section (length whole) x.header refl in
    ap (section_with x.header (home_of (length whole) x.header))
    (home_zeros (home_of (length whole) x.header) whole lies ∙ ap blank raw)
section_reopened (Some told) x whole bytes held raw =
    ap (section_with x.header (home_of (length whole) x.header))
    (ap (home_bytes (home_of (length whole) x.header)) held ∙ raw)

-- ---- All sections

sections_reopened : (image : Option (List ℕ)) (scns : List Scn) (q : Object) (whole : List ℕ)
    → IfSome image (λ held. held ≡ whole)
    → ((i : ℕ) (x : Scn) → slice_get scns i ≡ Some x
    → home_bytes (home_of (length whole) x.header) whole ≡ file_bytes q i)
    → map (section_of image) (map (reopened_scn (length whole)) scns)
    ≡ left_sections (is_some image)
    (map (λ row. settled_section (length whole) (file_bytes q row.0) row.1.header)
    (enumerate_from 0 (map (section_of image) scns)))
unfolding section_of
sections_reopened image scns q whole held raws =
    let told = is_some image in
    ap (λ (l : List Scn). map (section_of image) l) (sym (reopened_plain (length whole) scns))
    ∙ rows_map (section_of image) (λ s x. reopened_scn (length whole) x)
    (λ s c. left_section told (settled_section (length whole) (file_bytes q s) c.header)) 0 scns
    (λ i x at. let number : i ≡ 0 + i = omega arith in
    section_reopened image x whole (file_bytes q i) held (raws i x at)
    ∙ ap (λ (n : ℕ). left_section told (settled_section (length whole) (file_bytes q n) x.header))
    number)
    ∙ left_each told
    (λ (row : ℕ × Section). settled_section (length whole) (file_bytes q row.0) row.1.header)
    (enumerate_from 0 (map (section_of image) scns))

pub headers_same : (image : Option (List ℕ)) (scns : List Scn)
    → map (λ c. c.header) (map (section_of image) scns) ≡ headers_in scns
unfolding section_of
headers_same image [] = refl
headers_same image (x ∷ scns) = ap (λ (l : List Shdr). x.header ∷ l) (headers_same image scns)

front_same : (image : Option (List ℕ)) (size : ℕ) (b : Body)
    → front_in_image (written_header b.header) b.pad b.phdrs (headers_in b.sections)
    ≡ front_blocks (object_of image size b)
unfolding front_blocks object_of
front_same image size b =
    ap (λ (l : List Shdr). front_in_image (written_header b.header) b.pad b.phdrs l)
    (sym (headers_same image b.sections))

-- ---- The object

base_same : (image : Option (List ℕ)) (size : ℕ) (whole : List ℕ)
    → IfSome image (λ held. length held ≡ size) → size ≡ length whole
    → IfSome image (λ held. held ≡ whole)
    → take size (source_bytes image size) ≡ left_base (is_some image) whole
base_same image size whole sized long held = whole_source image size sized ∙ by_image image held
  where
    by_image : (i : Option (List ℕ)) → IfSome i (λ bytes. bytes ≡ whole)
        → source_bytes i size ≡ left_base (is_some i) whole
    by_image None is = ap (λ (n : ℕ). replicate {A = ℕ} n 0) long
    by_image (Some bytes) is = is

module _ (image : Option (List ℕ)) (size : ℕ) (mid new : Body) (whole : List ℕ)
    (sized : IfSome image (λ held. length held ≡ size)) (long : size ≡ length whole)
    (held : IfSome image (λ bytes. bytes ≡ whole))
    (raws : (s : ℕ) → s < length (object_of image size mid).sections
    → home_bytes (home_of (length whole) (section_at (object_of image size mid) s).header) whole
    ≡ file_bytes (object_of image size mid) s)
    (settles : SettlesBody size mid new) where
  raw_at : (i : ℕ) (x : Scn) → slice_get mid.sections i ≡ Some x
      → home_bytes (home_of (length whole) x.header) whole ≡ file_bytes (object_of image size mid) i
  unfolding section_of scn_at
  raw_at i x at =
      let q = object_of image size mid in
      let there = slice_get_within mid.sections i x at in
      let count = section_count_is image size mid in
      let here : (section_at q i).header ≡ x.header =
      ap (λ (c : Section). c.header) (section_is image size mid i)
      ∙ ap (λ (y : Scn). y.header) (get_or_from_slice_get mid.sections i x absent_scn at) in
      subst (λ (h : Shdr). home_bytes (home_of (length whole) h) whole ≡ file_bytes q i) here
      (raws i (omega (arith, there, count)))

  sections_now : map (section_of image) new.sections
      ≡ left_sections (is_some image)
      (map (λ row. settled_section (length whole) (file_bytes (object_of image size mid) row.0)
      row.1.header) (enumerate_from 0 (map (section_of image) mid.sections)))
  sections_now =
      ap (λ (l : List Scn). map (section_of image) l)
      (settles.sections ∙ ap (λ (n : ℕ). map (reopened_scn n) mid.sections) long)
      ∙ sections_reopened image mid.sections (object_of image size mid) whole held raw_at

  pub reopened_object : object_of image size new
      ≡ left_object (is_some image) (settled_over whole (object_of image size mid))
  unfolding object_of settled_over
  reopened_object =
      let q : Object = object_of image size mid in
      let base = take size (source_bytes image size) in
      let headers = headers_in mid.sections in
      let front = front_in_image (written_header mid.header) mid.pad mid.phdrs headers in
      let marks : Object = record q {
        marked = false;
        header_marked = false;
        segments_marked = false;
      } in
      let sections = left_sections (is_some image)
      (map (λ row. settled_section (length whole) (file_bytes q row.0) row.1.header)
      (enumerate_from 0 q.sections)) in
      ap (λ (b : Body). object_of image size b) settles.rest
      ∙ ap (λ (l : List Section). record marks { sections = l; base = base; written_front = front })
      sections_now
      ∙ ap (λ (l : List ℕ). record marks { sections = sections; base = l; written_front = front })
      (base_same image size whole sized long held)
      ∙ ap (λ (f : WrittenFront). record marks {
        sections = sections;
        base = left_base (is_some image) whole;
        written_front = f;
      }) (front_same image size mid)
      ∙ sym (left_parts (is_some image) (settled_over whole q))
