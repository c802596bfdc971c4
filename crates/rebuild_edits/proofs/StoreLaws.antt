-- A new table and the places of names, stored.
use Rattle.std.proofs.Common.{◌≡◌, ◌≢◌, ◌+◌, ◌<◌, ◌≤◌, ℕ, Bool, true, not, List, [], ◌∷◌, length, map, get_or, None, refl, sym, ap, ◌∙◌, subst, inl, inr, arith}
use Rattle.std.specs.Prelude.{slice_get, slice_set, unwrap_or, if◌then◌else◌}
use Rattle.std.specs.List.{enumerate_from}
use Rattle.std.proofs.lemmas.Bool.{cases_eq, cases_lt, ne_eqb, lt-leb}
use Rattle.std.proofs.lemmas.List.{ext_get_or, length-map, get_or-map, set_past, set-get_or}
use Rattle.std.proofs.lemmas.List.FromFn.{length-enumerate_from, get_or-enumerate_from}
use Rattle.elf_types.specs.declared.records.Shdr.{Shdr}
use Rattle.elf_types.specs.declared.records.Part.TheVariants as part
use Rattle.elf_types.specs.declared.errors.ElfError.TheVariants.{NoSection, Reserved, Unfit}
use Rattle.elf_types.specs.Answers.{refused_if}
use Rattle.rebuild_names.specs.elf_xlate.declared.content.Items.{Items}
use Rattle.rebuild_names.specs.elf_xlate.declared.content.Items.TheVariants as items
use Rattle.rebuild_names.specs.elf_xlate.Headers.{shdr_fits}
use Rattle.rebuild_changes.specs.elf_object.Object.{Object, Section, Piece, section_at, piece_at, absent_section}
use Rattle.rebuild_changes.specs.elf_object.Answers.{no_section, reserved}
use Rattle.rebuild_changes.specs.elf_object.Steps.{with_section, with_piece_at, with_own, with_shdr, own_piece}
use Rattle.rebuild_changes.specs.elf_object.Calls.{update_shdr_refusal}
use Rattle.rebuild_changes.specs.elf_object.Valid.{IsObject}
use Rattle.rebuild_changes.proofs.elf_object.StepLaws.{section_count-with_section, section_at-with_shdr, section_at-with_shdr_other}
use Rattle.law_rebuild.proofs.law_object.KeepLaws.{section_at_is}
use Rattle.rebuild_changes.specs.elf_object.Sections.{header_at}
use Rattle.rebuild_making.proofs.RefusedLaws.{alone, passes_first}
use Rattle.rebuild_edits.specs.declared.naming.NewNameTable.{NewNameTable}
use Rattle.rebuild_edits.specs.Edits.Steps.{IsPresentSection, KeepsIndex}
use Rattle.rebuild_edits.proofs.edits.StepLaws.{keeps_both}
use Rattle.rebuild_edits.specs.Stores.{with_name_place, with_places, with_table}

-- ---- One name

fits_still : (o : Object) (h : Shdr) (place : ℕ)
    → shdr_fits o.header.class (record h { name = place }) ≡ shdr_fits o.header.class h
unfolding shdr_fits
fits_still o h place = refl

pub name_passes : (o : Object) (s place : ℕ) → IsObject o → IsPresentSection o s
    → update_shdr_refusal o s (record (header_at o s) { name = place }) ≡ None
unfolding update_shdr_refusal
name_passes o s place is there =
    let h = record (header_at o s) { name = place } in
    let unfit = refused_if (not (shdr_fits o.header.class h)) (Unfit (part.Section s) 0) in
    let first = there.0 in
    passes_first (no_section o s) (reserved s ∷ unfit ∷ [])
    (ap (λ (b : Bool). refused_if b (NoSection s (length o.sections)))
    (lt-leb (length o.sections) s there.1))
    ∙ passes_first (reserved s) (unfit ∷ [])
    (ap (λ (b : Bool). refused_if b Reserved) (ne_eqb s 0 (λ none. omega (arith, none, first))))
    ∙ alone unfit
    ∙ ap (λ (b : Bool). refused_if (not b) (Unfit (part.Section s) 0))
    (fits_still o (header_at o s) place ∙ (section_at_is o s is).fitting)

-- ---- All names

-- the sections below a number have the places of their names
pub record PutBelow (places : List ℕ) (o now : Object) (s : ℕ) : Type 0 where
  pub object : now ≡ record o { sections = now.sections }
  pub long : length now.sections ≡ length o.sections
  pub before : (t : ℕ) → t < s → t < length o.sections
      → section_at now t ≡ with_name_place places t (section_at o t)
  pub after : (t : ℕ) → s ≤ t → section_at now t ≡ section_at o t

pub put_none : (places : List ℕ) (o : Object) → PutBelow places o o 1
put_none places o = record {
  object = refl;
  long = refl;
  before = λ t below there.
      let zero_is : 0 ≡ t = omega (arith, below) in
      subst (λ (k : ℕ). section_at o k ≡ with_name_place places k (section_at o k)) zero_is refl;
  after = λ t above. refl;
}

stored_alone : (o : Object) (s : ℕ) (h : Shdr)
    → with_shdr o s h ≡ record o { sections = (with_shdr o s h).sections }
unfolding with_shdr with_section
stored_alone o s h = refl

module _ (places : List ℕ) (o now : Object) (s : ℕ) (so_far : PutBelow places o now s) where
  pub put_there : 0 < s → s < length o.sections → IsPresentSection now s
  put_there from below = let long = so_far.long in (from, omega (arith, below, long))

  put_here : (place : ℕ) → 0 < s → s < length o.sections
      → place ≡ unwrap_or (slice_get places s) 0
      → section_at (with_shdr now s (record (header_at now s) { name = place })) s
      ≡ with_name_place places s (section_at o s)
  put_here place from below is =
      let long = so_far.long in
      section_at-with_shdr now s (record (header_at now s) { name = place })
      (omega (arith, below, long))
      ∙ ap (λ (k : ℕ). record (section_at now s) {
        header = record (section_at now s).header { name = k };
        marked = true;
      }) is
      ∙ ap (λ (c : Section). record c {
        header = record c.header { name = unwrap_or (slice_get places s) 0 };
        marked = true;
      }) (so_far.after s (omega arith))
      ∙ sym (ap (λ (b : Bool). if b then section_at o s else (record (section_at o s) {
        header = record (section_at o s).header { name = unwrap_or (slice_get places s) 0 };
        marked = true;
      })) (ne_eqb s 0 (λ none. omega (arith, none, from))))

  pub put_more : (place : ℕ) (new : Object) → 0 < s → s < length o.sections
      → place ≡ unwrap_or (slice_get places s) 0
      → new ≡ with_shdr now s (record (header_at now s) { name = place })
      → PutBelow places o new (s + 1)
  unfolding with_shdr
  put_more place new from below is stored =
      let h = record (header_at now s) { name = place } in
      let other = λ (t : ℕ) (apart : t ≢ s).
      ap (λ (q : Object). section_at q t) stored ∙ section_at-with_shdr_other now s t h apart
      in
      record {
        object = stored ∙ stored_alone now s h
            ∙ ap (λ (l : List Section). record now { sections = l })
            (ap (λ (q : Object). q.sections) (sym stored))
            ∙ ap (λ (q : Object). record q { sections = new.sections }) so_far.object;
        long = ap (λ (q : Object). length q.sections) stored
            ∙ section_count-with_section now s _ ∙ so_far.long;
        before = λ t low there. elim (cases_eq t s) [
          | inl same ↦
              subst (λ (k : ℕ). section_at new k ≡ with_name_place places k (section_at o k))
              (sym same)
              (ap (λ (q : Object). section_at q s) stored ∙ put_here place from below is)
          | inr apart ↦
              other t apart ∙ so_far.before t (lower t low apart) there
        ];
        after = λ t high.
            other t (λ same. omega (arith, same, high)) ∙ so_far.after t (omega (arith, high));
      }
    where
      lower : (t : ℕ) → t < s + 1 → t ≢ s → t < s
      lower t low apart = elim (cases_lt t s) [
        | inl less ↦ less
        | inr past ↦ absurd (apart (omega (arith, low, past)))
      ]

  pub put_all : length o.sections ≤ s → now ≡ with_places o places
  unfolding with_places section_at
  put_all all =
      so_far.object
      ∙ ap (λ (l : List Section). record o { sections = l })
      (ext_get_or absent_section now.sections
      (map (λ row. with_name_place places row.0 row.1) (enumerate_from 0 o.sections))
      (so_far.long
      ∙ sym (length-map (enumerate_from 0 o.sections) (λ row. with_name_place places row.0 row.1)
      ∙ length-enumerate_from 0 o.sections))
      (λ t below. let long = so_far.long in
      so_far.before t (omega (arith, below, long, all)) (omega (arith, below, long))
      ∙ sym (at_row t (omega (arith, below, long)))))
    where
      at_row : (t : ℕ) → t < length o.sections
          → get_or (map (λ (row : ℕ × Section). with_name_place places row.0 row.1)
          (enumerate_from 0 o.sections)) t absent_section
          ≡ with_name_place places t (get_or o.sections t absent_section)
      at_row t below =
          let count = length-enumerate_from 0 o.sections in
          let same : 0 + t ≡ t = omega arith in
          get_or-map (λ (row : ℕ × Section). with_name_place places row.0 row.1)
          (enumerate_from 0 o.sections) t (0, absent_section) absent_section
          (omega (arith, below, count))
          ∙ ap (λ (row : ℕ × Section). with_name_place places row.0 row.1)
          (get_or-enumerate_from 0 o.sections t (0, absent_section) below)
          ∙ ap (λ (k : ℕ). with_name_place places k (get_or o.sections t absent_section)) same

-- ---- The table

-- in a section without data nothing is replaced
pub unpieced : (o : Object) (s : ℕ) (own : Items) → length (section_at o s).pieces ≤ 0
    → with_own o s 0 own ≡ o
unfolding with_own with_piece_at with_section section_at
unpieced o s own none =
    let piece = own_piece own (piece_at o s 0).align in
    ap (λ (l : List Piece). record o {
      sections = slice_set o.sections s
          (record (get_or o.sections s absent_section) { pieces = l });
    }) (set_past (get_or o.sections s absent_section).pieces 0 piece none)
    ∙ ap (λ (l : List Section). record o { sections = l }) (set-get_or o.sections s absent_section)

-- ---- All of it

places_keep : (o : Object) (places : List ℕ)
    → length (with_places o places).sections ≡ length o.sections
unfolding with_places
places_keep o places =
    length-map (enumerate_from 0 o.sections) (λ row. with_name_place places row.0 row.1)
    ∙ length-enumerate_from 0 o.sections

index_stays : (o : Object) (places : List ℕ)
    → (with_places o places).header.shstrndx ≡ o.header.shstrndx
unfolding with_places
index_stays o places = refl

pub table_there : (o mid : Object) (places : List ℕ) → mid ≡ with_places o places
    → IsPresentSection o o.header.shstrndx → IsPresentSection mid mid.header.shstrndx
table_there o mid places is there =
    subst (λ (q : Object). IsPresentSection q q.header.shstrndx) (sym is)
    (let index = index_stays o places in
    let count = places_keep o places in
    let from = there.0 in
    let below = there.1 in
    (omega (arith, index, from), omega (arith, index, count, below)))

index_kept : (o : Object) (s : ℕ) (c : Section)
    → (with_section o s c).header.shstrndx ≡ o.header.shstrndx
unfolding with_section
index_kept o s c = refl

places_kept : (o : Object) (places : List ℕ) → KeepsIndex o (with_places o places)
places_kept o places =
    let before = places_keep o places in
    record { index = index_stays o places; count = omega (arith, before) }

section_kept : (o : Object) (s : ℕ) (c : Section) → KeepsIndex o (with_section o s c)
section_kept o s c =
    let count = section_count-with_section o s c in
    record { index = index_kept o s c; count = omega (arith, count) }

own_kept : (o : Object) (s : ℕ) (own : Items) → KeepsIndex o (with_own o s 0 own)
unfolding with_own with_piece_at
own_kept o s own =
    section_kept o s (record (section_at o s) {
      pieces = slice_set (section_at o s).pieces 0 (own_piece own (piece_at o s 0).align);
    })

pub keeps_table : (o : Object) (names : NewNameTable) → KeepsIndex o (with_table o names)
unfolding with_table
keeps_table o names =
    keeps_both o (with_places o names.places) (with_table o names) (places_kept o names.places)
    (own_kept (with_places o names.places) o.header.shstrndx (items.Bytes names.table))
