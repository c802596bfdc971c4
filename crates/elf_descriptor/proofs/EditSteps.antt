-- The step of each edit, over every source.
use Rattle.std.proofs.Common.{◌≡◌, ℕ, ◌<◌, Bool, true, false, List, [], ◌∷◌, length, get_or, set, map, Option, Some, None, Result, Ok, Err, refl, sym, ap, ◌∙◌, subst, arith}
use Rattle.std.specs.Prelude.{not, ◌&&◌, ◌||◌, ◌==◌, nat_le, if◌then◌else◌}
use Rattle.std.proofs.lemmas.List.{length-set, get_or-set_same, set-set}
use Rattle.std.proofs.Math.Seq.{map-set, map-set_same}
use Rattle.elf_types.specs.declared.records.Ehdr.{Ehdr}
use Rattle.elf_types.specs.declared.records.Phdr.{Phdr}
use Rattle.elf_types.specs.declared.records.Shdr.{Shdr}
use Rattle.elf_types.specs.declared.records.Part.{Part}
use Rattle.elf_types.specs.declared.records.Part.TheVariants as part
use Rattle.elf_types.specs.declared.errors.ElfError.{ElfError}
use Rattle.elf_types.specs.declared.errors.ElfError.TheVariants.{NoSection, Unfit}
use Rattle.elf_types.specs.Answers.{answered, refused_if, first_refusal}
use Rattle.section_table.specs.elf_xlate.Headers.{ehdr_fits, phdr_fits, shdr_fits}
use Rattle.section_table.specs.elf_object.Object.{Object, Section, Piece, section_at, piece_at, home_piece}
use Rattle.section_table.specs.elf_object.Answers.{no_entry, reserved, has_dirty, has_layout}
use Rattle.section_table.specs.elf_object.Steps.{stored_ehdr, with_ehdr, with_phdrs, with_phdr, with_shdr, with_section, with_piece_at, with_mark, with_layout, with_flags, is_whole, with_fill}
use Rattle.section_table.specs.elf_object.Calls.{update_ehdr_refusal, update_phdr_refusal, update_shdr_refusal}
use Rattle.section_table.specs.section_data.Views.{CellView}
use Rattle.section_table.specs.section_data.Held.{piece_in}
use Rattle.section_table.specs.section_data.Leaves.{marked_piece}
use Rattle.section_table.specs.Sections.{SectionView as Scn, section_in, absent_scn}
use Rattle.elf_descriptor.specs.declared.body.Body.{Body}
use Rattle.elf_descriptor.specs.Views.{object_of, section_of, raw_of, scn_at, no_scn, HasCounts, ready_of, has_spare, is_of_source, has_lengths, has_mark}
use Rattle.elf_descriptor.specs.Edits.{IsStepped, IsThere, homes_of, without_pieces}
use Rattle.elf_descriptor.proofs.Objects.{section_count_is, section_is, no_section_is}
use Rattle.elf_descriptor.proofs.Warming.{scn_written}

-- ---- Refusals

-- what the first test refuses is refused
pub first_refused : {A B E : Type 0} (r : Option E) (later : List (Option E)) (v : A) (w : B) (e : E) → Err e ≡ answered r v → Err e ≡ answered (first_refusal (r ∷ later)) w
first_refused None later v w e is = cc
first_refused (Some d) later v w e is = let same : e ≡ d = cc in ap Err same

-- what it lets pass the second answers
pub first_passed : {A B E : Type 0} (r last : Option E) (v x : A) (w : B) (z : Result B E) → Ok x ≡ answered r v → z ≡ answered last w → z ≡ answered (first_refusal (r ∷ last ∷ [])) w
first_passed None None v x w z passed is = is
first_passed None (Some e) v x w z passed is = is
first_passed (Some d) last v x w z passed is = cc

-- what passed has its value
pub passed_with : {A B E : Type 0} (r : Option E) (v x : A) (w y : B) → Ok x ≡ answered r v → y ≡ w → Ok y ≡ answered r w
passed_with None v x w y passed is = ap Ok is
passed_with (Some d) v x w y passed is = cc

pub update_ehdr_refused : (image : Option (List ℕ)) (size : ℕ) (b : Body) (h : Ehdr) → update_ehdr_refusal (object_of image size b) h
    ≡ first_refusal
    (refused_if (not (h.shstrndx == 0) && nat_le (length b.sections) h.shstrndx)
    (NoSection h.shstrndx (length b.sections))
    ∷ refused_if (not (ehdr_fits (stored_ehdr b.header h))) (Unfit part.Header 0) ∷ [])
unfolding update_ehdr_refusal object_of
update_ehdr_refused image size b h =
    ap (λ (n : ℕ). first_refusal (refused_if (not (h.shstrndx == 0) && nat_le n h.shstrndx) (NoSection h.shstrndx n) ∷ refused_if (not (ehdr_fits (stored_ehdr b.header h))) (Unfit part.Header 0) ∷ []))
    (section_count_is image size b)

pub update_phdr_refused : (image : Option (List ℕ)) (size : ℕ) (b : Body) (i : ℕ) (p : Phdr) → update_phdr_refusal (object_of image size b) i p
    ≡ first_refusal (no_entry i (length b.phdrs) ∷ refused_if (not (phdr_fits b.header.class p)) (Unfit part.Segments i) ∷ [])
unfolding update_phdr_refusal object_of
update_phdr_refused image size b i p = refl

pub update_shdr_refused : (image : Option (List ℕ)) (size : ℕ) (b : Body) (s : ℕ) (h : Shdr) → update_shdr_refusal (object_of image size b) s h
    ≡ first_refusal (no_scn b s ∷ reserved s ∷ refused_if (not (shdr_fits b.header.class h)) (Unfit (part.Section s) 0) ∷ [])
unfolding update_shdr_refusal object_of
update_shdr_refused image size b s h =
    ap (λ (r : Option ElfError). first_refusal (r ∷ reserved s ∷ refused_if (not (shdr_fits b.header.class h)) (Unfit (part.Section s) 0) ∷ [])) (no_section_is image size b s)

-- ---- Headers

never_marked : (b : Bool) → (b || true) ≡ false → ⊥
never_marked true h = cc
never_marked false h = cc

pub ehdr_stepped : (old : Body) (h header : Ehdr) → header ≡ stored_ehdr old.header h → IsStepped (λ o. with_ehdr o h) false old (record old { header = header; header_marked = true; ready = false })
unfolding object_of with_ehdr stored_ehdr homes_of
ehdr_stepped old h header is = record {
  object = λ image size. ap (λ (x : Ehdr). record (object_of image size old) { header = x; header_marked = true }) is;
  homes = refl;
  class = ap (λ (x : Ehdr). x.class) is;
  order = ap (λ (x : Ehdr). x.order) is;
  base = refl;
  written = refl;
  marks = λ h. absurd (never_marked old.marked h);
  ready = refl;
}

pub object_marked : (b : Body) (p : Part) → p ≡ part.Object → IsStepped (λ o. with_mark o p) (ready_of b) b (record b { marked = true })
unfolding object_of with_mark homes_of
object_marked b p is = subst (λ (q : Part). IsStepped (λ o. with_mark o q) (ready_of b) b (record b { marked = true })) (sym is) (record { object = λ image size. refl; homes = refl; class = refl; order = refl; base = refl; written = refl; marks = λ h. let never : true ≡ false = h in cc; ready = refl })

pub table_marked : (b : Body) (p : Part) → p ≡ part.Table → IsStepped (λ o. with_mark o p) (ready_of b) b (record b { marked = true })
unfolding object_of with_mark homes_of
table_marked b p is = subst (λ (q : Part). IsStepped (λ o. with_mark o q) (ready_of b) b (record b { marked = true })) (sym is) (record { object = λ image size. refl; homes = refl; class = refl; order = refl; base = refl; written = refl; marks = λ h. let never : true ≡ false = h in cc; ready = refl })

pub header_marked : (b : Body) (p : Part) → p ≡ part.Header → IsStepped (λ o. with_mark o p) (ready_of b) b (record b { header_marked = true })
unfolding object_of with_mark homes_of
header_marked b p is = subst (λ (q : Part). IsStepped (λ o. with_mark o q) (ready_of b) b (record b { header_marked = true })) (sym is) (record { object = λ image size. refl; homes = refl; class = refl; order = refl; base = refl; written = refl; marks = λ h. absurd (never_marked b.marked h); ready = refl })

pub segments_marked : (b : Body) (p : Part) → p ≡ part.Segments → IsStepped (λ o. with_mark o p) (ready_of b) b (record b { segments_marked = true })
unfolding object_of with_mark homes_of
segments_marked b p is = subst (λ (q : Part). IsStepped (λ o. with_mark o q) (ready_of b) b (record b { segments_marked = true })) (sym is) (record { object = λ image size. refl; homes = refl; class = refl; order = refl; base = refl; written = refl; marks = λ h. h; ready = refl })

-- ---- Flags

pub mark_then : (dirty : Bool) (p : Part) (ready : Bool) (old new : Body) → dirty ≡ true → IsStepped (λ o. with_mark o p) ready old new → IsStepped (λ o. if dirty then with_mark o p else o) ready old new
mark_then dirty p ready old new is step = subst (λ (d : Bool). IsStepped (λ o. if d then with_mark o p else o) ready old new) (sym is) step

pub mark_else : (dirty : Bool) (p : Part) (b : Body) → dirty ≡ false → IsStepped (λ o. if dirty then with_mark o p else o) (ready_of b) b b
mark_else dirty p b is = subst (λ (d : Bool). IsStepped (λ o. if d then with_mark o p else o) (ready_of b) b b) (sym is) (record { object = λ image size. refl; homes = refl; class = refl; order = refl; base = refl; written = refl; marks = λ h. h; ready = refl })

pub layout_then : (whole layout : Bool) (b : Body) → whole ≡ true → IsStepped (λ o. if whole then with_layout o layout else o) (ready_of b) b (record b { layout = layout })
unfolding object_of homes_of
layout_then whole layout b is = subst (λ (d : Bool). IsStepped (λ o. if d then with_layout o layout else o) (ready_of b) b (record b { layout = layout })) (sym is) (record { object = λ image size. refl; homes = refl; class = refl; order = refl; base = refl; written = refl; marks = λ h. h; ready = refl })

pub layout_else : (whole layout : Bool) (b : Body) → whole ≡ false → IsStepped (λ o. if whole then with_layout o layout else o) (ready_of b) b b
layout_else whole layout b is = subst (λ (d : Bool). IsStepped (λ o. if d then with_layout o layout else o) (ready_of b) b b) (sym is) (record { object = λ image size. refl; homes = refl; class = refl; order = refl; base = refl; written = refl; marks = λ h. h; ready = refl })

pub layout_there : (layout : Bool) (b : Body) (p : Part) → IsThere b p → IsThere (record b { layout = layout }) p
unfolding scn_at
layout_there layout b part.Object there = tt
layout_there layout b part.Table there = tt
layout_there layout b part.Header there = tt
layout_there layout b part.Segments there = tt
layout_there layout b (part.Section s) there = there
layout_there layout b (part.Piece s p) there = there

pub flags_stepped : (old mid new : Body) (p : Part) (set : Bool) (bits : ℕ) (dirty whole : Bool) → dirty ≡ (set && has_dirty bits) → whole ≡ (is_whole p && has_layout bits)
    → IsStepped (λ o. if dirty then with_mark o p else o) (ready_of old) old mid → IsStepped (λ o. if whole then with_layout o set else o) (ready_of mid) mid new
    → IsStepped (λ o. with_flags o p set bits) (ready_of old) old new
unfolding with_flags
flags_stepped old mid new p set bits dirty whole dirty_is whole_is first second = record {
  object = λ image size.
      second.object image size
      ∙ ap (λ (o : Object). if whole then with_layout o set else o) (first.object image size)
      ∙ ap (λ (d : Bool). laid whole set (if d then with_mark (object_of image size old) p else object_of image size old)) dirty_is
      ∙ ap (λ (w : Bool). laid w set (if set && has_dirty bits then with_mark (object_of image size old) p else object_of image size old)) whole_is;
  homes = second.homes ∙ first.homes;
  class = second.class ∙ first.class;
  order = second.order ∙ first.order;
  base = second.base ∙ first.base;
  written = second.written ∙ first.written;
  marks = λ h. first.marks (second.marks h);
  ready = second.ready ∙ first.ready;
}
  where
    laid : Bool → Bool → Object → Object
    laid w layout o = if w then with_layout o layout else o

-- ---- Program headers and the fill byte

pub phdr_stepped : (old new : Body) (i : ℕ) (p : Phdr) → HasCounts old → new ≡ record old { phdrs = set old.phdrs i p; segments_marked = true; ready = false }
    → IsStepped (λ o. with_phdr o i p) false old new
unfolding object_of with_phdr with_phdrs homes_of
phdr_stepped old new i p has is = subst (λ (b : Body). IsStepped (λ o. with_phdr o i p) false old b) (sym is) (record {
  object = λ image size.
      ap (λ (n : ℕ). record (object_of image size old) { header = record old.header { phnum = n }; phdrs = set old.phdrs i p; segments_marked = true }) (has.phnum ∙ sym (length-set old.phdrs i p));
  homes = refl;
  class = refl;
  order = refl;
  base = refl;
  written = refl;
  marks = λ h. h;
  ready = refl;
})

pub fill_stepped : (old new : Body) (byte : ℕ) → new ≡ record old { fill = byte; ready = false } → IsStepped (λ o. with_fill o byte) false old new
unfolding object_of with_fill homes_of
fill_stepped old new byte is = subst (λ (b : Body). IsStepped (λ o. with_fill o byte) false old b) (sym is) (record { object = λ image size. refl; homes = refl; class = refl; order = refl; base = refl; written = refl; marks = λ h. h; ready = refl })

-- ---- One section

-- it is written, with the home that it had
pub section_stepped : (after : Object → Object) (ready : Bool) (old new : Body) (s : ℕ) (y : Scn) → new ≡ record old { sections = new.sections; ready = ready }
    → new.sections ≡ set old.sections s y → without_pieces y ≡ without_pieces (scn_at old s)
    → ((image : Option (List ℕ)) (size : ℕ) → with_section (object_of image size old) s (section_of image y) ≡ after (object_of image size old)) → IsStepped after (ready && has_spare old) old new
unfolding object_of with_section homes_of scn_at
section_stepped after ready old new s y rest is home stepped = record {
  object = λ image size.
      ap (λ (b : Body). object_of image size b) rest
      ∙ ap (λ (l : List Section). record (object_of image size old) { sections = l })
      (ap (λ (l : List Scn). map (section_of image) l) is
      ∙ map-set (section_of image) old.sections s y)
      ∙ stepped image size;
  homes = ap (λ (l : List Scn). map without_pieces l) is
      ∙ map-set_same without_pieces old.sections s y absent_scn home;
  class = ap (λ (b : Body). b.header.class) rest;
  order = ap (λ (b : Body). b.header.order) rest;
  base = ap (λ (b : Body). b.base) rest;
  written = ap (λ (b : Body). b.written) rest;
  marks = λ h. ap has_mark (sym rest) ∙ h;
  ready = ap ready_of rest
      ∙ ap (λ (n : ℕ).
      ready && (is_of_source old.base && has_lengths old.spare (length old.phdrs) n))
      (ap length is ∙ length-set old.sections s y);
}

pub shdr_stepped : (old new : Body) (s : ℕ) (h : Shdr) (x : Scn) → x ≡ scn_at old s → new ≡ record old { sections = new.sections; ready = false }
    → new.sections ≡ set old.sections s (record x { header = h; marked = true })
    → IsStepped (λ o. with_shdr o s h) false old new
unfolding with_shdr section_of
shdr_stepped old new s h x read rest is =
    section_stepped (λ o. with_shdr o s h) false old new s (record x { header = h; marked = true }) rest is (ap without_pieces read)
    (λ image size. ap (λ (c : Section). with_section (object_of image size old) s (record c { header = h; marked = true })) (ap (section_of image) read ∙ sym (section_is image size old s)))

-- a header, and then its mark
pub header_and_mark : (l mid new : List Scn) (s : ℕ) (h : Shdr) → s < length l
    → mid ≡ set l s (record (section_in l s) { header = h })
    → new ≡ set mid s (record (section_in mid s) { marked = true })
    → new ≡ set l s (record (section_in l s) { header = h; marked = true })
header_and_mark l mid new s h there stored marked =
    marked
    ∙ ap (λ (m : List Scn). set m s (record (section_in m s) { marked = true })) stored
    ∙ ap (λ (y : Scn).
    set (set l s (record (section_in l s) { header = h })) s (record y { marked = true }))
    (get_or-set_same l s (record (section_in l s) { header = h }) absent_scn there)
    ∙ set-set l s (record (section_in l s) { header = h })
    (record (section_in l s) { header = h; marked = true })

pub section_marked : (old new : Body) (s : ℕ) (x : Scn) → x ≡ scn_at old s → new ≡ record old { sections = new.sections }
    → new.sections ≡ set old.sections s (record x { marked = true })
    → IsStepped (λ o. with_mark o (part.Section s)) (ready_of old) old new
unfolding with_mark section_of
section_marked old new s x read rest is =
    section_stepped (λ o. with_mark o (part.Section s)) old.ready old new s (record x { marked = true }) rest is (ap without_pieces read)
    (λ image size. ap (λ (c : Section). with_section (object_of image size old) s (record c { marked = true })) (ap (section_of image) read ∙ sym (section_is image size old s)))

-- ---- Pieces

raw_stays : (image : Option (List ℕ)) (c : CellView) (pieces : List Piece) → raw_of image (record c { pieces = pieces }) ≡ raw_of image c
unfolding raw_of
raw_stays None c pieces = refl
raw_stays (Some image) c pieces = refl

-- a section whose pieces alone change
pub pieces_stay : (image : Option (List ℕ)) (x : Scn) (pieces : List Piece) → section_of image (record x { cell = record x.cell { pieces = pieces } }) ≡ record (section_of image x) { pieces = pieces }
unfolding section_of
pieces_stay image x pieces = ap (λ (raw : List ℕ). record (section_of image x) { pieces = pieces; raw = raw }) (raw_stays image x.cell pieces)

-- its pieces become others
pub pieces_stepped : (after : Object → Object) (ready : Bool) (old new : Body) (s : ℕ) (x : Scn) (change : List Piece → List Piece) → x ≡ scn_at old s
    → new ≡ record old { sections = new.sections; ready = ready }
    → new.sections
    ≡ set old.sections s (record x { cell = record x.cell { pieces = change x.cell.pieces } })
    → ((o : Object) → with_section o s (record (section_at o s) { pieces = change (section_at o s).pieces }) ≡ after o) → IsStepped after (ready && has_spare old) old new
unfolding section_of
pieces_stepped after ready old new s x change read rest is stepped =
    section_stepped after ready old new s (record x { cell = record x.cell { pieces = change x.cell.pieces } }) rest is (ap without_pieces read)
    (λ image size.
    ap (λ (c : Section). with_section (object_of image size old) s c) (pieces_stay image x (change x.cell.pieces))
    ∙ ap (λ (c : Section). with_section (object_of image size old) s (record c { pieces = change c.pieces })) (ap (section_of image) read ∙ sym (section_is image size old s))
    ∙ stepped (object_of image size old))

abbrev marked_in : ℕ → List Piece → List Piece
marked_in p pieces = set pieces p (record (get_or pieces p home_piece) { marked = true })

piece_marks : (o : Object) (s p : ℕ) → with_section o s (record (section_at o s) { pieces = marked_in p (section_at o s).pieces }) ≡ with_mark o (part.Piece s p)
unfolding with_mark with_piece_at piece_at
piece_marks o s p = refl

pub piece_marked : (old new : Body) (s p : ℕ) (x : Scn) → x ≡ scn_at old s → new ≡ record old { sections = new.sections }
    → new.sections ≡ set old.sections s (record x { cell = marked_piece x.cell p })
    → IsStepped (λ o. with_mark o (part.Piece s p)) (ready_of old) old new
unfolding piece_in
piece_marked old new s p x read rest is =
    pieces_stepped (λ o. with_mark o (part.Piece s p)) old.ready old new s x (marked_in p) read rest is (λ o. piece_marks o s p)

pub marked_there : (old new : Body) (s p : ℕ) (x : Scn) (cell : CellView) → s < length old.sections
    → p < length (scn_at old s).cell.pieces → x ≡ scn_at old s
    → new.sections ≡ set old.sections s (record x { cell = cell }) → cell ≡ marked_piece x.cell p
    → IsThere new (part.Piece s p)
marked_there old new s p x cell there below read is marked =
    let count = ap length is ∙ length-set old.sections s (record x { cell = cell }) in
    let written = scn_written old new s (record x { cell = cell }) there is in
    let pieces = ap (λ (c : CellView). length c.pieces) marked ∙ length-set x.cell.pieces p (record (piece_in x.cell p) { marked = true }) ∙ ap (λ (y : Scn). length y.cell.pieces) read in
    let same = ap (λ (y : Scn). length y.cell.pieces) written ∙ pieces in
    (omega (arith, there, count), omega (arith, below, same))
