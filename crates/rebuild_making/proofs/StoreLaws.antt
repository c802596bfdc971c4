-- Places that are stored in the headers of sections, one after another, and in the ELF header.
use Rattle.std.proofs.Common.{◌≡◌, ◌+◌, ◌<◌, ◌≤◌, ℕ, Bool, true, false, not, ◌==◌, ◌&&◌, List, [], ◌∷◌, ◌++◌, length, map, take, drop, get_or, take_all, append-nil, append_assoc, length-append, length-take, length-drop, Option, Some, None, Result, Ok, Err, refl, sym, ap, ◌∙◌, subst, inl, inr, ◌⊎◌, arith}
use Rattle.std.specs.Prelude.{nat_le, slice_set, if◌then◌else◌}
use Rattle.std.specs.List.{enumerate_from}
use Rattle.std.proofs.lemmas.Bool.{ne_eqb, lt-leb, and_right}
use Rattle.std.proofs.lemmas.List.{length-map, length-take-le, take_more, drop_more, drop_all, get_or_at, set_at, get_or-map}
use Rattle.std.proofs.lemmas.List.FromFn.{length-enumerate_from, get_or-enumerate_from}
use Rattle.elf_types.specs.declared.records.Ehdr.{Ehdr}
use Rattle.elf_types.specs.declared.records.Part.TheVariants as part
use Rattle.elf_types.specs.declared.errors.ElfError.{ElfError}
use Rattle.elf_types.specs.declared.errors.ElfError.TheVariants.{NoSection, Reserved, Unfit}
use Rattle.elf_types.specs.Answers.{refused_if, answered}
use Rattle.rebuild_model.specs.elf_xlate.Headers.{ehdr_fits, shdr_fits}
use Rattle.rebuild_model.specs.elf_layout.declared.parts.PartAt.{PartAt}
use Rattle.rebuild_model.specs.elf_layout.Layout.{place_of, end_after, limit_of, some_above}
use Rattle.rebuild_model.specs.elf_object.Blocks.{stacked, last_end, spread}
use Rattle.rebuild_model.specs.elf_object.Object.{Object, Section, section_at, absent_section, header_of, is_null, occupies_file, has_file_bytes}
use Rattle.rebuild_model.specs.elf_object.Joined.{aligned_pieces, piece_blocks, pieces_end, file_bytes}
use Rattle.rebuild_model.specs.elf_object.Layout.{alignment_of, section_part}
use Rattle.rebuild_model.specs.elf_object.Answers.{no_section, reserved}
use Rattle.rebuild_model.specs.elf_object.Steps.{stored_ehdr, with_ehdr, with_section, with_shdr}
use Rattle.rebuild_model.specs.elf_object.Calls.{update_shdr_refusal, update_ehdr_refusal}
use Rattle.rebuild_model.specs.elf_object.Calls as calls
use Rattle.rebuild_model.specs.elf_object.Valid.{IsObject}
use Rattle.elf_update_plan.proofs.law_object.PlaceLaws.{within_limit}
use Rattle.elf_update_plan.proofs.law_object.PlacedLaws.{ehdr_fits_each, ehdr_fits_all, shdr_fits_each, shdr_fits_all}
use Rattle.elf_update_plan.proofs.law_object.KeepLaws.{section_at_is}
use Rattle.elf_update_plan.specs.elf_descriptor.State.{State}
use Rattle.elf_update_plan.specs.elf_descriptor.Edits.{stepped}
use Rattle.rebuild_model.specs.elf_object.Sections.{is_allocated, header_at}
use Rattle.rebuild_model.specs.Arranged.{parts_from, place_from, section_from, placed_from, table_place_from}
use Rattle.elf_update_plan.proofs.RowLaws.{ok_is}
use Rattle.rebuild_making.specs.Placing.{is_movable, end_below, end_with, FitsBehind, MayStand, with_place, sections_from, placed_state}
use Rattle.rebuild_making.proofs.RefusedLaws.{alone, passes_first}
use Rattle.rebuild_making.proofs.TailLaws.{end_first, end_more, section_stands, section_fits, section_keeps, first_keeps}

-- ---- A section with its place

module _ (o : Object) (tail s : ℕ) (c : Section) where
  from_none : place_from o tail s ≡ None → section_from o tail s c ≡ c
  unfolding section_from
  from_none is =
      ap (λ (p : Option ℕ). elim p as (λ (x : Option ℕ). Section) [
        | None ↦ c
        | Some place ↦ record c { header = record c.header { offset = place }; marked = true }
      ]) is

  from_some : (place : ℕ) → place_from o tail s ≡ Some place
      → section_from o tail s c
      ≡ record c { header = record c.header { offset = place }; marked = true }
  unfolding section_from
  from_some place is =
      ap (λ (p : Option ℕ). elim p as (λ (x : Option ℕ). Section) [
        | None ↦ c
        | Some place ↦ record c { header = record c.header { offset = place }; marked = true }
      ]) is

-- ---- A front of the sections

abbrev row : Section → ℕ × Section
row c = (0, c)

-- the object when the sections below a number have their places
unfoldable pub sections_stored_below : Object → ℕ → ℕ → Object
sections_stored_below o tail s = record o { sections = take s (sections_from o tail) ++ drop s o.sections }

front_same : (f : ℕ × Section → Section) → ((c : Section) → f (0, c) ≡ c) → (l : List Section)
    → 0 < length l → take 1 (map f (enumerate_from 0 l)) ++ drop 1 l ≡ l
front_same f same [] some = absurd (omega arith)
front_same f same (c ∷ l) some = ap (λ (x : Section). x ∷ l) (same c)

module _ (o : Object) (tail : ℕ) where
  long_from : length (sections_from o tail) ≡ length o.sections
  unfolding sections_from
  long_from =
      length-map (enumerate_from 0 o.sections)
      (λ (r : ℕ × Section). section_from o tail r.0 r.1)
      ∙ length-enumerate_from 0 o.sections

  at_from : (s : ℕ) → s < length o.sections
      → get_or (sections_from o tail) s absent_section
      ≡ section_from o tail s (section_at o s)
  unfolding sections_from section_at
  at_from s there =
      let f = λ (r : ℕ × Section). section_from o tail r.0 r.1 in
      get_or-map f (enumerate_from 0 o.sections) s (row absent_section) absent_section
      (omega (arith, there, length-enumerate_from 0 o.sections))
      ∙ ap f (get_or-enumerate_from 0 o.sections s (row absent_section) there)
      ∙ ap (λ (n : ℕ). section_from o tail n (get_or o.sections s absent_section))
      (let at : 0 + s ≡ s = omega arith in at)

  stored_first : 0 < length o.sections → sections_stored_below o tail 1 ≡ o
  unfolding sections_stored_below sections_from
  stored_first some =
      ap (λ (l : List Section). record o { sections = l })
      (front_same (λ (r : ℕ × Section). section_from o tail r.0 r.1)
      (λ c. from_none o tail 0 c (first_keeps o tail)) o.sections some)

  stored_all : (s : ℕ) → length o.sections ≤ s
      → sections_stored_below o tail s ≡ record o { sections = sections_from o tail }
  unfolding sections_stored_below
  stored_all s all =
      ap (λ (l : List Section). record o { sections = l ++ drop s o.sections })
      (take_all s (sections_from o tail) (omega (arith, all, long_from)))
      ∙ ap (λ (l : List Section). record o { sections = sections_from o tail ++ l })
      (drop_all s o.sections all)
      ∙ ap (λ (l : List Section). record o { sections = l }) (append-nil (sections_from o tail))

  stored_long : (s : ℕ) → s ≤ length o.sections
      → length (sections_stored_below o tail s).sections ≡ length o.sections
  unfolding sections_stored_below
  stored_long s within =
      omega (
        arith,
        within,
        long_from,
        length-append (take s (sections_from o tail)) (drop s o.sections),
        length-take s (sections_from o tail),
        length-drop s o.sections,
      )

  -- ---- The section with that number, which has no place yet
  module _ (s : ℕ) (there : s < length o.sections) where
    front_long : length (take s (sections_from o tail)) ≡ s
    front_long =
        length-take-le s (sections_from o tail) (omega (arith, there, long_from))

    stored_at : section_at (sections_stored_below o tail s) s ≡ section_at o s
    unfolding sections_stored_below section_at
    stored_at =
        ap (λ (l : List Section). get_or (take s (sections_from o tail) ++ l) s absent_section)
        (drop_more o.sections s absent_section there)
        ∙ get_or_at (take s (sections_from o tail)) (get_or o.sections s absent_section)
        (drop (s + 1) o.sections) absent_section s front_long

    -- another section there
    stored_set : (c : Section)
        → with_section (sections_stored_below o tail s) s c
        ≡ record o {
          sections = take s (sections_from o tail) ++ c ∷ drop (s + 1) o.sections;
        }
    unfolding sections_stored_below with_section
    stored_set c =
        ap (λ (l : List Section).
        record o { sections = slice_set (take s (sections_from o tail) ++ l) s c })
        (drop_more o.sections s absent_section there)
        ∙ ap (λ (l : List Section). record o { sections = l })
        (set_at (take s (sections_from o tail)) (get_or o.sections s absent_section)
        (drop (s + 1) o.sections) c s front_long)

    stored_next : ◌≡◌ {A = Object} (record o {
      sections = take s (sections_from o tail)
          ++ section_from o tail s (section_at o s) ∷ drop (s + 1) o.sections;
    }) (sections_stored_below o tail (s + 1))
    unfolding sections_stored_below
    stored_next =
        ap (λ (l : List Section). record o { sections = l })
        (ap (λ (c : Section).
        take s (sections_from o tail) ++ c ∷ drop (s + 1) o.sections) (sym (at_from s there))
        ∙ sym (append_assoc (take s (sections_from o tail))
        (get_or (sections_from o tail) s absent_section ∷ []) (drop (s + 1) o.sections))
        ∙ ap (λ (l : List Section). l ++ drop (s + 1) o.sections)
        (sym (take_more (sections_from o tail) s absent_section
        (omega (arith, there, long_from)))))

    stored_same : section_from o tail s (section_at o s) ≡ section_at o s
        → sections_stored_below o tail s ≡ sections_stored_below o tail (s + 1)
    unfolding sections_stored_below section_at
    stored_same same =
        ap (λ (l : List Section). record o { sections = take s (sections_from o tail) ++ l })
        (drop_more o.sections s absent_section there)
        ∙ ap (λ (c : Section). record o {
          sections = take s (sections_from o tail) ++ c ∷ drop (s + 1) o.sections;
        }) (sym same)
        ∙ stored_next

    -- its part is as it was
    abbrev part_by : Section → PartAt
    part_by c = record {
      part = part.Section s;
      at = c.header.offset;
      len = length (if has_file_bytes s c
          then spread (last_end 0 (stacked 0 (aligned_pieces o.header.class o.header.order c)))
          (λ _. o.fill) (stacked 0 (aligned_pieces o.header.class o.header.order c))
          else []);
      align = alignment_of c.header;
      filled = occupies_file c.header;
    }

    part_stays : section_part (sections_stored_below o tail s) s ≡ section_part o s
    unfolding sections_stored_below section_part file_bytes pieces_end piece_blocks
    part_stays = ap (λ (c : Section). part_by c) stored_at

    movable_stays : is_movable (sections_stored_below o tail s) s ≡ is_movable o s
    movable_stays =
        ap (λ (c : Section). not (is_null c.header) && not (is_allocated c.header)) stored_at

    end_stays : (end : ℕ) → end_with (sections_stored_below o tail s) end s ≡ end_with o end s
    unfolding end_with
    end_stays end =
        ap (λ (b : Bool). if b then end_after end (section_part (sections_stored_below o tail s) s) else end)
        movable_stays
        ∙ ap (λ (p : PartAt). if is_movable o s then end_after end p else end) part_stays

    may_stand : (limit end : ℕ) → MayStand o limit end s → MayStand (sections_stored_below o tail s) limit end s
    may_stand limit end may = λ is.
        subst (λ (p : PartAt). FitsBehind limit end p) (sym part_stays)
        (may (sym movable_stays ∙ is))

    -- it gets its place
    place_put : (place : ℕ) → place_from o tail s ≡ Some place
        → with_shdr (sections_stored_below o tail s) s (record (header_at (sections_stored_below o tail s) s) { offset = place })
        ≡ sections_stored_below o tail (s + 1)
    unfolding with_shdr
    place_put place is =
        ap (λ (c : Section). with_section (sections_stored_below o tail s) s
        (record c { header = record c.header { offset = place }; marked = true })) stored_at
        ∙ stored_set (record (section_at o s) {
          header = record (section_at o s).header { offset = place };
          marked = true;
        })
        ∙ ap (λ (c : Section). record o {
          sections = take s (sections_from o tail) ++ c ∷ drop (s + 1) o.sections;
        }) (sym (from_some o tail s (section_at o s) place is))
        ∙ stored_next

    place_stored : 1 ≤ s → with_place (sections_stored_below o tail s) (end_below o tail s) s
        ≡ sections_stored_below o tail (s + 1)
    unfolding with_place
    place_stored first =
        ap (λ (b : Bool). if b then with_shdr (sections_stored_below o tail s) s
        (record (header_at (sections_stored_below o tail s) s) {
          offset = place_of (end_below o tail s) (section_part (sections_stored_below o tail s) s);
        }) else sections_stored_below o tail s) movable_stays
        ∙ ap (λ (p : PartAt). if is_movable o s then with_shdr (sections_stored_below o tail s) s
        (record (header_at (sections_stored_below o tail s) s) { offset = place_of (end_below o tail s) p })
        else sections_stored_below o tail s) part_stays
        ∙ by_test (is_movable o s) refl
      where
        by_test : (b : Bool) → is_movable o s ≡ b
            → (if b then with_shdr (sections_stored_below o tail s) s
            (record (header_at (sections_stored_below o tail s) s) {
              offset = place_of (end_below o tail s) (section_part o s);
            }) else sections_stored_below o tail s)
            ≡ sections_stored_below o tail (s + 1)
        by_test true is =
            place_put (place_of (end_below o tail s) (section_part o s))
            (section_stands o tail (omega (arith, there)) s first there is)
        by_test false is =
            stored_same (from_none o tail s (section_at o s) (section_keeps o tail s is))

-- ---- One after another

-- so many have their places, and the end after them is known
pub record StoresBelow {S : Type 0} (old new : State S) (tail end s : ℕ) : Type 0 where
  pub state : new ≡ record old { o = sections_stored_below old.o tail s; ready = new.ready }
  pub end_is : end ≡ end_below old.o tail s

pub stores_begin : {S : Type 0} (old : State S) (tail : ℕ) → 0 < length old.o.sections
    → StoresBelow old old tail tail 1
stores_begin {S} old tail some = record {
  state = sym (ap (λ (q : Object). record old { o = q }) (stored_first old.o tail some));
  end_is = sym (end_first old.o tail);
}

module _ {S : Type 0} (old mid : State S) (tail end s : ℕ) (first : 1 ≤ s)
    (there : s < length old.o.sections) (so_far : StoresBelow old mid tail end s) where
  object_is : mid.o ≡ sections_stored_below old.o tail s
  object_is = ap (λ (m : State S). m.o) so_far.state

  pub store_there : s < length mid.o.sections
  store_there =
      subst (λ (q : Object). s < length q.sections) (sym object_is)
      (omega (arith, there, stored_long old.o tail s (omega (arith, there))))

  same_class : (sections_stored_below old.o tail s).header.class ≡ old.o.header.class
  unfolding sections_stored_below
  same_class = refl

  pub store_limit : (limit : ℕ) → limit ≡ limit_of old.o.header.class
      → limit ≡ limit_of mid.o.header.class
  store_limit limit is =
      is ∙ ap limit_of (sym (ap (λ (q : Object). q.header.class) object_is ∙ same_class))

  pub store_fits : (limit : ℕ) → some_above limit (parts_from old.o tail) ≡ false
      → MayStand mid.o limit end s
  store_fits limit none =
      subst (λ (q : Object). MayStand q limit end s) (sym object_is)
      (may_stand old.o tail s there limit end
      (subst (λ (n : ℕ). MayStand old.o limit n s) (sym so_far.end_is)
      (λ is. section_fits old.o tail (omega (arith, there)) s first there is limit none)))

  pub stores_more : (new : State S) (next : ℕ) → next ≡ end_with mid.o end s
      → new ≡ record mid { o = with_place mid.o end s; ready = new.ready }
      → StoresBelow old new tail next (s + 1)
  stores_more new next ends is = record {
    state = is
        ∙ ap (λ (m : State S). record m { o = with_place m.o end s; ready = new.ready })
        so_far.state
        ∙ ap (λ (n : ℕ). record old {
          o = with_place (sections_stored_below old.o tail s) n s;
          ready = new.ready;
        }) so_far.end_is
        ∙ ap (λ (q : Object). record old { o = q; ready = new.ready })
        (place_stored old.o tail s there first);
    end_is = ends
        ∙ ap (λ (q : Object). end_with q end s) object_is
        ∙ end_stays old.o tail s there end
        ∙ ap (λ (n : ℕ). end_with old.o n s) so_far.end_is
        ∙ sym (end_more old.o tail s first);
  }

pub stores_all : {S : Type 0} (old new : State S) (tail end s : ℕ)
    → StoresBelow old new tail end s → length old.o.sections ≤ s
    → new ≡ record old {
      o = record old.o { sections = sections_from old.o tail };
      ready = new.ready;
    }
stores_all {S} old new tail end s so_far all =
    so_far.state
    ∙ ap (λ (q : Object). record old { o = q; ready = new.ready }) (stored_all old.o tail s all)

-- ---- No header is refused

pub shdr_passes : (o : Object) (s place : ℕ) → IsObject o → 0 < s → s < length o.sections
    → place ≤ limit_of o.header.class
    → update_shdr_refusal o s (record (header_at o s) { offset = place }) ≡ None
unfolding update_shdr_refusal
shdr_passes o s place is first there fits =
    let h = record (header_at o s) { offset = place } in
    let unfit = refused_if (not (shdr_fits o.header.class h)) (Unfit (part.Section s) 0) in
    let each = shdr_fits_each o.header.class (header_at o s) (section_at_is o s is).fitting in
    let at = within_limit o.header.class place fits in
    let all = shdr_fits_all o.header.class h (record {
      flags = each.flags;
      addr = each.addr;
      offset = at.fits;
      size = each.size;
      addralign = each.addralign;
      entsize = each.entsize;
    }) in
    passes_first (no_section o s) (reserved s ∷ unfit ∷ [])
    (ap (λ (b : Bool). refused_if b (NoSection s (length o.sections)))
    (lt-leb (length o.sections) s there))
    ∙ passes_first (reserved s) (unfit ∷ [])
    (ap (λ (b : Bool). refused_if b Reserved) (ne_eqb s 0 (λ none. omega (arith, none, first))))
    ∙ alone unfit
    ∙ ap (λ (b : Bool). refused_if (not b) (Unfit (part.Section s) 0)) all

pub ehdr_passes : (o : Object) (place : ℕ) (h : Ehdr) → IsObject o
    → o.header.shstrndx < length o.sections → place ≤ limit_of o.header.class
    → ◌≡◌ {A = Result Ehdr ElfError} (Ok h) (Ok (header_of o))
    → update_ehdr_refusal o (record h { shoff = place }) ≡ None
unfolding update_ehdr_refusal stored_ehdr header_of
ehdr_passes o place h is below fits told =
    ap (λ (x : Ehdr). update_ehdr_refusal o (record x { shoff = place }))
    (ok_is h (header_of o) told)
    ∙ passes
  where
    passes : update_ehdr_refusal o (record (header_of o) { shoff = place }) ≡ None
    passes =
        let kept = stored_ehdr o.header (record (header_of o) { shoff = place }) in
        let unfit = refused_if (not (ehdr_fits kept)) (Unfit part.Header 0) in
        let each = ehdr_fits_each o.header is.fitting in
        let at = within_limit o.header.class place fits in
        let all = ehdr_fits_all kept (record {
          entry = each.entry;
          phoff = each.phoff;
          shoff = at.fits;
        }) in
        passes_first
        (refused_if (not (o.header.shstrndx == 0) && nat_le (length o.sections) o.header.shstrndx)
        (NoSection o.header.shstrndx (length o.sections))) (unfit ∷ [])
        (ap (λ (b : Bool). refused_if b (NoSection o.header.shstrndx (length o.sections)))
        (and_right (not (o.header.shstrndx == 0)) (nat_le (length o.sections) o.header.shstrndx)
        (lt-leb (length o.sections) o.header.shstrndx below)))
        ∙ alone unfit
        ∙ ap (λ (b : Bool). refused_if (not b) (Unfit part.Header 0)) all

pub never_refused : {A : Type 0} (r : Option ElfError) (v : A) (e : ElfError) → r ≡ None
    → Err e ≡ answered r v → ⊥
never_refused {A} r v e none came =
    let clash : ◌≡◌ {A = Result A ElfError} (Err e) (Ok v) =
    came ∙ ap (λ (x : Option ElfError). answered x v) none in
    cc

-- the counts of a header are not stored
counts_put : (o : Object) (place : ℕ)
    → with_ehdr o (record (header_of o) { shoff = place })
    ≡ with_ehdr o (record o.header { shoff = place })
unfolding with_ehdr stored_ehdr header_of
counts_put o place = refl

pub table_put : {S : Type 0} (old new : State S) (place : ℕ) (h : Ehdr)
    → ◌≡◌ {A = Result Ehdr ElfError} (Ok h) (Ok (header_of old.o))
    → new ≡ stepped (calls.update_ehdr (record h { shoff = place })) old
    → new ≡ stepped (calls.update_ehdr (record old.o.header { shoff = place })) old
table_put old new place h told is =
    is
    ∙ ap (λ (x : Ehdr). stepped (calls.update_ehdr (record x { shoff = place })) old)
    (ok_is h (header_of old.o) told)
    ∙ ap (λ (q : Object). record old { o = q; ready = false }) (counts_put old.o place)

-- ---- The whole step

index_below : (index count : ℕ) → 0 < count → (index ≡ 0) ⊎ (index < count) → index < count
index_below index count some (inl none) = omega (arith, none, some)
index_below index count some (inr below) = below

module _ {S : Type 0} (old mid : State S) (tail : ℕ)
    (is : mid ≡ record old {
      o = record old.o { sections = sections_from old.o tail };
      ready = mid.ready;
    }) where
  mid_sections : mid.o.sections ≡ sections_from old.o tail
  mid_sections = ap (λ (m : State S). m.o.sections) is

  pub table_index : 0 < length old.o.sections
      → (old.o.header.shstrndx ≡ 0) ⊎ (old.o.header.shstrndx < length old.o.sections)
      → mid.o.header.shstrndx < length mid.o.sections
  table_index some index =
      let below = index_below old.o.header.shstrndx (length old.o.sections) some index in
      let same = ap (λ (m : State S). m.o.header.shstrndx) is in
      let long = ap (λ (l : List Section). length l) mid_sections in
      omega (arith, below, same, long, long_from old.o tail)

  pub table_limit : (place limit : ℕ) → place ≤ limit → limit ≡ limit_of old.o.header.class
      → place ≤ limit_of mid.o.header.class
  table_limit place limit fits same =
      subst (λ (n : ℕ). place ≤ n)
      (same ∙ sym (ap (λ (m : State S). limit_of m.o.header.class) is)) fits

  placed_is : (place : ℕ) → 0 < length old.o.sections → place ≡ table_place_from old.o tail
      → with_ehdr (record old.o { sections = sections_from old.o tail })
      (record old.o.header { shoff = place })
      ≡ placed_from old.o tail
  unfolding placed_from sections_from
  placed_is place some at =
      ap (λ (n : ℕ). with_ehdr (record old.o {
        sections = map (λ row. section_from old.o tail row.0 row.1)
            (enumerate_from 0 old.o.sections);
      }) (record old.o.header { shoff = n })) at
      ∙ sym (ap (λ (b : Bool). if b then old.o else with_ehdr (record old.o {
        sections = map (λ row. section_from old.o tail row.0 row.1)
            (enumerate_from 0 old.o.sections);
      }) (record old.o.header { shoff = table_place_from old.o tail }))
      (ne_eqb (length old.o.sections) 0 (λ none. omega (arith, none, some))))

  pub all_placed : (new : State S) (place : ℕ) → 0 < length old.o.sections
      → place ≡ table_place_from old.o tail
      → new ≡ stepped (calls.update_ehdr (record mid.o.header { shoff = place })) mid
      → new ≡ placed_state old tail
  all_placed new place some at put =
      put
      ∙ ap (λ (m : State S).
      stepped (calls.update_ehdr (record m.o.header { shoff = place })) m) is
      ∙ ap (λ (q : Object). record old { o = q; ready = false }) (placed_is place some at)
      ∙ sym (ap (λ (b : Bool).
      if b then old else record old { o = placed_from old.o tail; ready = false })
      (ne_eqb (length old.o.sections) 0 (λ none. omega (arith, none, some))))
