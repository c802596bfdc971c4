-- Places are stored in the headers: the object is the placed one, and the descriptor stays sound.
use Rattle.std.proofs.Common.{◌≡◌, ◌≢◌, ◌∙◌, ℕ, zero, suc, ◌+◌, ◌-◌, ◌^◌, ◌<◌, ◌≤◌, Bool, true, false, List, [], ◌∷◌, length, get_or, set, map, Option, Some, None, refl, sym, ap, subst, arith}
use Rattle.std.specs.Prelude.{min, ◌&&◌, ◌==◌, slice_get, is_some, if◌then◌else◌}
use Rattle.std.specs.List.{enumerate_from}
use Rattle.std.proofs.lemmas.Bool.{eqb-false}
use Rattle.std.proofs.lemmas.List.{length-map, length-append}
use Rattle.std.proofs.lemmas.List.FromFn.{length-map-range_with_len, length-enumerate_from}
use Rattle.std.proofs.lemmas.Option.{get_or_from_slice_get, slice_get_within}
use Rattle.elf_types.specs.declared.records.Ehdr.{Ehdr}
use Rattle.elf_types.specs.declared.records.Shdr.{Shdr}
use Rattle.section_table.specs.elf_layout.declared.parts.PartAt.{PartAt}
use Rattle.section_table.specs.elf_layout.declared.parts.Places.{Places}
use Rattle.section_table.specs.elf_layout.Layout.{positions, standing, places_of as parts_places}
use Rattle.section_table.specs.elf_outside.declared.sources.Source.{Ghosts}
use Rattle.section_table.specs.elf_object.Object.{Object, Section, section_at, occupies_file, has_file_bytes, is_null, is_dirty}
use Rattle.section_table.specs.elf_object.Joined.{file_bytes}
use Rattle.section_table.specs.elf_object.Derived.{derived_header, numbered_shdr}
use Rattle.section_table.specs.elf_object.Layout.{parts_of, places_of, placed, placed_by, placed_header, placed_shdr, placed_section, section_place, segments_place, table_place, section_part, section_numbers, table_part}
use Rattle.section_table.specs.elf_object.Refusal.{refusal, placing_refusal}
use Rattle.section_table.specs.elf_object.Image.{image_length}
use Rattle.elf_types.specs.declared.errors.ElfError.{ElfError}
use Rattle.elf_types.specs.Answers.{answered}
use Rattle.section_table.specs.elf_object.Calls.{update_null}
use Rattle.section_table.specs.elf_object.Valid.{KeepsObject, KeepsTied}
use Rattle.law_object.specs.Laws.{SizesAreLengths}
use Rattle.law_object.proofs.PlaceLaws.{AreNotTooLarge, IsFitting, not_too_large}
use Rattle.law_object.proofs.PlacedLaws.{size_fits, update_passes}
use Rattle.law_object.proofs.StandLaws.{length-standing}
use Rattle.law_object.specs.Writing.Based.{KeepsBased}
use Rattle.section_table.specs.section_data.Sizes.{data_size}
use Rattle.section_table.specs.Sections.{SectionView as Scn, absent_scn}
use Rattle.elf_descriptor.specs.declared.body.Body.{Body}
use Rattle.elf_descriptor.specs.State.{State}
use Rattle.elf_descriptor.specs.Views.{object_of, section_of, scn_at, loaded_of, held_of, room_of, ready_of, is_of_source, has_lengths, state_of, has_mark}
use Rattle.elf_descriptor.specs.Sound.{IsElf, IsSound}
use Rattle.elf_descriptor.specs.Fronts.{stored_shdrs}
use Rattle.elf_descriptor.specs.Edits.{homes_of, without_pieces}
use Rattle.elf_descriptor.specs.Places.{HasPlaces, StoresHeaders, StoresPlaces, stored_header, stored_scn, stored_shdr, stored_size}
use Rattle.elf_descriptor.proofs.Objects.{section_is, section_count_is, header_is}
use Rattle.elf_descriptor.proofs.Warming.{cell_moved, standing_moved, part_within}
use Rattle.elf_descriptor.proofs.EditLaws.{has_counts, step_sound, cells_kept, loaded_kept, held_kept, room_kept}
use Rattle.elf_descriptor.proofs.Rows.{changed_from, row_same, row_changed, rows_changed, rows_count, rows_map, rows_keep, rows_heads}
use Rattle.elf_descriptor.proofs.Sizes.{size_is}

-- ---- There is a place for each part

pub places_there : (o : Object) → HasPlaces (places_of o) (length o.sections)
unfolding places_of parts_places positions parts_of
places_there o =
    let sections : List PartAt = map (section_part o) (section_numbers o) in
    let count = length-map-range_with_len (section_part o) 1 (length o.sections - 1) in
    let whole = length-append sections (table_part o ∷ []) in
    let all = length-map (standing (parts_of o) o.layout) (λ (p : PartAt). p.at) in
    let stand = length-standing o.layout (parts_of o) in
    all ∙ stand ∙ omega (arith, count, whole)

-- ---- The loop over the sections

module _ (places : Places) (h : Ehdr) where
  abbrev pub stored_rows : ℕ → Scn → Scn
  stored_rows s x = stored_scn places h s x

  pub none_stored : (old new : Body) → new ≡ old
      → new.sections ≡ changed_from stored_rows absent_scn 0 0 old.sections
  unfolding changed_from
  none_stored old new same = ap (λ (b : Body). b.sections) same

  pub one_stored : (old mid new : Body) (s : ℕ) → s < length old.sections
      → mid.sections ≡ changed_from stored_rows absent_scn 0 s old.sections
      → new.sections ≡ set mid.sections s (stored_scn places h s (scn_at mid s))
      → new.sections ≡ changed_from stored_rows absent_scn 0 (s + 1) old.sections
  unfolding scn_at
  one_stored old mid new s there before is =
      is
      ∙ ap (λ (l : List Scn). set l s (stored_scn places h s (get_or l s absent_scn))) before
      ∙ ap (λ (x : Scn).
      set (changed_from stored_rows absent_scn 0 s old.sections) s (stored_scn places h s x))
      (row_same stored_rows absent_scn s old.sections there)
      ∙ row_changed stored_rows absent_scn s old.sections there

  pub all_stored : (old new : Body) (count : ℕ) → length old.sections ≤ count
      → new ≡ record old { sections = new.sections }
      → new.sections ≡ changed_from stored_rows absent_scn 0 count old.sections
      → StoresHeaders places h old new
  all_stored old new count counted rest is = record {
    rest = rest;
    sections = is ∙ rows_changed stored_rows absent_scn count old.sections (omega (arith, counted));
  }

  pub count_stored : (old mid : Body) (s : ℕ)
      → mid.sections ≡ changed_from stored_rows absent_scn 0 s old.sections
      → length mid.sections ≡ length old.sections
  count_stored old mid s is = ap length is ∙ rows_count stored_rows absent_scn s old.sections

-- ---- The object

-- an update that is not refused is not too large
abbrev pub IsNotTooLarge : Object → Type 0
IsNotTooLarge o = AreNotTooLarge (parts_of o) o.layout (length o.base) o.header.class

limited_places : (o : Object) → placing_refusal o ≡ None → IsNotTooLarge o
unfolding placing_refusal
limited_places o passed = not_too_large (parts_of o) o.layout (length o.base) o.header.class passed

pub limited : (o : Object) → is_dirty o ≡ true → refusal o ≡ None → IsNotTooLarge o
limited o dirty passed = limited_places o (update_passes o dirty passed).1

-- the size of each section with file bytes fits the class
abbrev pub HasFittingSizes : Object → Type 0
HasFittingSizes o =
    (s : ℕ) → 0 < s → s < length o.sections → occupies_file (section_at o s).header ≡ true
    → IsFitting o.header.class (length (file_bytes o s))

limited_sizes : (o : Object) → IsNotTooLarge o → HasFittingSizes o
limited_sizes o small = λ s positive inside filled. size_fits o s small positive inside filled

module _ (image : Option (List ℕ)) (size : ℕ) (b : Body) (is : IsElf image size b) (lengths : SizesAreLengths) where
  o : Object
  o = object_of image size b

  -- the header is that of the placed object
  pub header_same : (places : Places)
      → stored_header places b ≡ placed_header places (object_of image size b)
  unfolding placed_header
  header_same places =
      let count = section_count_is image size b in
      let table : ℕ → ℕ = λ n. table_place places n in
      ap (λ (n : ℕ). derived_header (segments_place places) (table n) b.header) (sym count)
      ∙ ap (λ (h : Ehdr).
      derived_header (segments_place places) (table (length (object_of image size b).sections)) h)
      (sym (header_is image size b is.counts))

  above_zero : (n : ℕ) → n ≢ 0 → 0 < n
  above_zero zero other = absurd (other refl)
  above_zero (suc n) other = omega arith

  occupies_same : (i : ℕ) (x : Scn) → scn_at b i ≡ x
      → occupies_file (section_at (object_of image size b) i).header ≡ occupies_file x.header
  unfolding section_of
  occupies_same i x at =
      ap (λ (c : Section). occupies_file c.header)
      (section_is image size b i ∙ ap (section_of image) at)

  module _ (sizes : HasFittingSizes (object_of image size b)) where
    pub size_fitting : (i : ℕ) (x : Scn) → i < length b.sections → scn_at b i ≡ x
        → (i == 0) ≡ false → occupies_file x.header ≡ true
        → IsFitting (object_of image size b).header.class
        (length (file_bytes (object_of image size b) i))
    size_fitting i x there at first filled =
        let inside = subst (λ (n : ℕ). i < n) (sym (section_count_is image size b)) there in
        sizes i (above_zero i (eqb-false i 0 first)) inside (occupies_same i x at ∙ filled)

    -- a section's size in the file
    pub size_same : (i : ℕ) (x : Scn) → i < length b.sections → scn_at b i ≡ x
        → (i == 0) ≡ false → occupies_file x.header ≡ true
        → min (data_size b.header.class x.cell) (2 ^ 64 - 1)
        ≡ length (file_bytes (object_of image size b) i)
    unfolding has_file_bytes
    size_same i x there at first filled =
        let p = object_of image size b in
        let occupies : occupies_file (section_at p i).header ≡ true =
        occupies_same i x at ∙ filled in
        let long = lengths.of_pieces p i (rw (first, occupies) refl) in
        let ends = size_is image size b i is there
        ∙ ap (λ (y : Scn). data_size b.header.class y.cell) at in
        let range = (size_fitting i x there at first filled).range in
        omega (arith, range, long, ends)

    shdr_same : (places : Places) (i : ℕ) (x : Scn) → i < length b.sections → scn_at b i ≡ x
        → stored_shdr (stored_header places b) i (section_place places i) x ≡ placed_shdr places (object_of image size b) i x.header
    unfolding stored_shdr placed_shdr stored_size derived_header
    shdr_same places i x there at = by_first (i == 0) refl
      where
        p : Object
        p = object_of image size b

        by_filled : (f : Bool) → occupies_file x.header ≡ f → (i == 0) ≡ false
            → (record x.header { offset = section_place places i; size = if f then min (data_size b.header.class x.cell) (2 ^ 64 - 1) else x.header.size })
            ≡ (record x.header { offset = section_place places i; size = if f then length (file_bytes p i) else x.header.size })
        by_filled true e first = ap (λ (n : ℕ). record x.header { offset = section_place places i; size = n }) (size_same i x there at first e)
        by_filled false e first = refl

        by_null : (n : Bool) → (i == 0) ≡ false
            → (if n then x.header else (record x.header { offset = section_place places i; size = if occupies_file x.header then min (data_size b.header.class x.cell) (2 ^ 64 - 1) else x.header.size }))
            ≡ (if n then x.header else (record x.header { offset = section_place places i; size = if occupies_file x.header then length (file_bytes p i) else x.header.size }))
        by_null true first = refl
        by_null false first = by_filled (occupies_file x.header) refl first

        by_first : (f : Bool) → (i == 0) ≡ f
            → (if f then numbered_shdr (stored_header places b) x.header
            else (if is_null x.header then x.header
            else (record x.header { offset = section_place places i; size = if occupies_file x.header then min (data_size b.header.class x.cell) (2 ^ 64 - 1) else x.header.size })))
            ≡ (if f then numbered_shdr (placed_header places p) x.header
            else (if is_null x.header then x.header
            else (record x.header { offset = section_place places i; size = if occupies_file x.header then length (file_bytes p i) else x.header.size })))
        by_first true e = ap (λ (h : Ehdr). numbered_shdr h x.header) (header_same places)
        by_first false e = by_null (is_null x.header) e

    section_stored : (places : Places) (i : ℕ) (x : Scn) → slice_get b.sections i ≡ Some x
        → section_of image (stored_scn places (stored_header places b) i x) ≡ placed_section places (object_of image size b) i (section_of image x)
    unfolding section_of placed_section scn_at
    section_stored places i x at =
        ap (λ (h : Shdr). record (section_of image x) { header = h })
        (shdr_same places i x (slice_get_within b.sections i x at)
        (get_or_from_slice_get b.sections i x absent_scn at))

    -- the section headers
    pub headers_same : (places : Places)
        → stored_shdrs places (stored_header places b) b
        ≡ map (λ c. c.header) (placed_by places (object_of image size b)).sections
    unfolding object_of placed_by placed_section section_of scn_at
    headers_same places =
        let p = object_of image size b in
        let h = stored_header places b in
        rows_heads (section_of image) (λ s x. stored_shdr h s (section_place places s) x)
        (λ s c. placed_section places p s c) (λ c. c.header) 0 b.sections
        (λ i x at. let number : 0 + i ≡ i = omega arith in
        let there = slice_get_within b.sections i x at in
        let found = get_or_from_slice_get b.sections i x absent_scn at in
        ap (λ (n : ℕ). stored_shdr h n (section_place places n) x) number
        ∙ shdr_same places i x there found
        ∙ ap (λ (n : ℕ). placed_shdr places p n x.header) (sym number))

    pub placed_object : (new : Body) (places : Places)
        → is_dirty (object_of image size b) ≡ true
        → places ≡ places_of (object_of image size b) → StoresPlaces places b new
        → object_of image size new ≡ placed (object_of image size b)
    unfolding object_of placed placed_by
    placed_object new places dirty same stores =
        let p = object_of image size b in
        let rows : map (section_of image) new.sections
        ≡ map (λ row. placed_section places p row.0 row.1) (enumerate_from 0 p.sections) =
        ap (λ (l : List Scn). map (section_of image) l) stores.sections
        ∙ rows_map (section_of image) (λ s x. stored_scn places (stored_header places b) s x)
        (λ s c. placed_section places p s c) 0 b.sections
        (λ i x at. let number : 0 + i ≡ i = omega arith in
        ap (λ (n : ℕ). section_of image (stored_scn places (stored_header places b) n x)) number ∙ section_stored places i x at ∙ ap (λ (n : ℕ). placed_section places p n (section_of image x)) (sym number)) in
        ap (λ (c : Body). object_of image size c) stores.rest
        ∙ ap (λ (l : List Section). record p { header = stored_header places b; sections = l }) rows
        ∙ ap (λ (h : Ehdr). record p { header = h; sections = map (λ row. placed_section places p row.0 row.1) (enumerate_from 0 p.sections) }) (header_same places)
        ∙ ap (λ (q : Places). placed_by q p) same
        ∙ sym (ap (λ (t : Bool). if t then placed_by (places_of p) p else p) dirty)

-- ---- What is true of each descriptor

homes_stored : (places : Places) (old new : Body) → StoresPlaces places old new → homes_of new ≡ homes_of old
unfolding homes_of
homes_stored places old new stores =
    ap (λ (l : List Scn). map without_pieces l) stores.sections
    ∙ rows_keep without_pieces (λ s x. stored_scn places (stored_header places old) s x) 0
    old.sections (λ i x. refl)

module _ {S : Type 0} (g : Ghosts S) (source : S) (old new : Body) (places : Places) (is : IsElf (g.holds source) (g.size source) old) (lengths : SizesAreLengths)
    (dirty : is_dirty (object_of (g.holds source) (g.size source) old) ≡ true) (passed : refusal (object_of (g.holds source) (g.size source) old) ≡ None)
    (same : places ≡ places_of (object_of (g.holds source) (g.size source) old)) (stores : StoresPlaces places old new) where
  object : object_of (g.holds source) (g.size source) new ≡ placed (object_of (g.holds source) (g.size source) old)
  object =
      let o = object_of (g.holds source) (g.size source) old in
      placed_object (g.holds source) (g.size source) old is lengths
      (limited_sizes o (limited o dirty passed)) new places dirty same stores

  class_same : new.header.class ≡ old.header.class
  unfolding derived_header
  class_same = ap (λ (b : Body). b.header.class) stores.rest

  order_same : new.header.order ≡ old.header.order
  unfolding derived_header
  order_same = ap (λ (b : Body). b.header.order) stores.rest

  pub count_same : length new.sections ≡ length old.sections
  count_same =
      ap length stores.sections
      ∙ length-map (enumerate_from 0 old.sections)
      (λ (row : ℕ × Scn). stored_scn places (stored_header places old) row.0 row.1)
      ∙ length-enumerate_from 0 old.sections

  pub placed_elf : KeepsObject update_null → KeepsTied update_null → KeepsBased update_null → IsElf (g.holds source) (g.size source) new
  placed_elf keeps ties bases =
      let image = g.holds source in
      let size = g.size source in
      let o = object_of image size old in
      let sound : IsSound image (object_of image size new) =
      subst (λ (p : Object). IsSound image p) (sym object) (step_sound update_null image o (image_length o) keeps ties bases (ap (λ (r : Option ElfError). answered r (image_length o)) passed) is.sound) in
      let base = ap (λ (b : Body). b.base) stores.rest in
      record {
        long = is.long;
        within = part_within old new size base is.within;
        whole = λ h. base ∙ is.whole (ap has_mark (sym stores.rest) ∙ h);
        counts = has_counts image size new sound.object;
        cells = λ i s found. cell_moved old new class_same order_same base i s (cells_kept image size old new (homes_stored places old new stores) is i s found);
        written = standing_moved old new class_same order_same (ap (λ (b : Body). b.written) stores.rest) is.written;
        sound = sound;
      }

  pub placed_state : state_of g source new ≡ record (state_of g source old) { o = placed (object_of (g.holds source) (g.size source) old) }
  placed_state =
      let image = g.holds source in
      let o = placed (object_of image (g.size source) old) in
      let homes = homes_stored places old new stores in
      let with_parts : Object → List Bool → List Bool → List Bool → Bool → State S =
      λ p loaded held room ready. record { o = p; told = is_some image; loaded = loaded; held = held; room = room; ready = ready; source = source } in
      ap (λ (p : Object). with_parts p (loaded_of new) (held_of new) (room_of new) (ready_of new)) object
      ∙ ap (λ (l : List Bool). with_parts o l (held_of new) (room_of new) (ready_of new)) (loaded_kept old new homes)
      ∙ ap (λ (l : List Bool). with_parts o (loaded_of old) l (room_of new) (ready_of new)) (held_kept old new homes)
      ∙ ap (λ (l : List Bool). with_parts o (loaded_of old) (held_of old) l (ready_of new)) (room_kept old new homes)
      ∙ ap (λ (r : Bool). with_parts o (loaded_of old) (held_of old) (room_of old) r)
      (ap ready_of stores.rest ∙ ap (λ (n : ℕ). old.ready && (is_of_source old.base && has_lengths old.spare (length old.phdrs) n)) count_same)

-- ---- One section's header

pub place_stored : (places : Places) (h : Ehdr) (old : Body) (items : List Scn) (s at : ℕ) (x : Scn) (header : Shdr) → x ≡ scn_at old s → at ≡ section_place places s → header ≡ stored_shdr h s at x
    → items ≡ set old.sections s (record x { header = header })
    → items ≡ set old.sections s (stored_scn places h s (scn_at old s))
place_stored places h old items s at x header read place is written =
    written
    ∙ ap (λ (k : Shdr). set old.sections s (record x { header = k }))
    (is ∙ ap (λ (n : ℕ). stored_shdr h s n x) place)
    ∙ ap (λ (y : Scn). set old.sections s (stored_scn places h s y)) read

-- sections are written, and then others
pub rest_then : (old mid new : Body) → mid ≡ record old { sections = mid.sections } → new ≡ record mid { sections = new.sections } → new ≡ record old { sections = new.sections }
rest_then old mid new first second = second ∙ ap (λ (b : Body). record b { sections = new.sections }) first

pub places_for : (image : Option (List ℕ)) (size : ℕ) (b : Body) (places : Places)
    → places ≡ places_of (object_of image size b) → HasPlaces places (length b.sections)
places_for image size b places is =
    ap (λ (p : Places). length p.at) is ∙ places_there (object_of image size b) ∙ ap (λ (n : ℕ). n - 1 + 3) (section_count_is image size b)
