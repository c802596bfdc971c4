-- Sections that get other bytes, and other headers.
use Rattle.std.proofs.Common.{◌≡◌, ◌==◌, ◌||◌, ℕ, Bool, true, false, not, List, [], ◌∷◌, length, Option, Some, None, Ok, Err, if◌then◌else◌, refl, sym, ap, ◌∙◌, subst, arith}
use Rattle.std.specs.Prelude.{nat_le, slice_set, slice_index_or}
use Rattle.std.proofs.lemmas.Bool.{ne_eqb, lt-leb}
use Rattle.std.proofs.lemmas.List.{append-nil}
use Rattle.elf_types.specs.declared.constants.TheConstants.{SHT_NULL, SHT_NOBITS}
use Rattle.elf_types.specs.declared.records.Class.{Class}
use Rattle.elf_types.specs.declared.records.Kind.TheVariants as kinds
use Rattle.elf_types.specs.declared.records.Part.TheVariants as part
use Rattle.elf_types.specs.declared.records.Shdr.{Shdr}
use Rattle.elf_types.specs.declared.errors.ElfError.{ElfError}
use Rattle.elf_types.specs.declared.errors.ElfError.TheVariants.{NoSection, Reserved, NoData, Unfit}
use Rattle.elf_types.specs.Answers.{refused_if, answered, ◌>>=◌}
use Rattle.elf_xlate.specs.declared.content.Items.{Items}
use Rattle.elf_xlate.specs.declared.content.Items.TheVariants as items
use Rattle.elf_xlate.specs.Headers.{shdr_fits, IsShdr}
use Rattle.elf_xlate.specs.Translation.{encoded, first_unfit}
use Rattle.elf_object.specs.Object.{Object, Section, Piece, section_at, piece_at, home_piece, occupies_file}
use Rattle.elf_object.specs.Answers.{no_section, no_data, reserved, piece_count}
use Rattle.elf_object.specs.Calls.{replace_refusal, update_shdr_refusal, unfit_items}
use Rattle.elf_object.specs.Calls as calls
use Rattle.elf_object.specs.Steps.{with_section, with_piece_at, with_own, with_shdr, own_piece}
use Rattle.elf_object.specs.Valid.{IsObject}
use Rattle.law_object.proofs.KeepLaws.{replace_keeps, update_shdr_keeps}
use Rattle.elf_object.specs.Sections.{header_at, edited}
use Rattle.rebuild_model.specs.Rebuilt.{made_section}
use Rattle.rebuild_model.specs.Copied.{or_strip}
use Rattle.law_rebuild.proofs.strip.CopyLaws.{edited_keeps}
use Rattle.law_rebuild.proofs.strip.MadeSections.{bytes_encoded}
use Rattle.rebuild_edits.proofs.rebuild_making.RefusedLaws.{alone, passes_first}
use Rattle.rebuild_plan.specs.declared.arranged.Arranged.{Arranged}
use Rattle.rebuild_plan.proofs.rebuild_image.FrontLaws.{held_bytes_stay}
use Rattle.rebuild_changes.specs.declared.faults.CopyFault.TheVariants as faults
use Rattle.rebuild_edits.specs.Edits.Steps.{IsPresentSection, Alters}
use Rattle.rebuild_edits.proofs.edits.EditLaws.{edit_done, keeps_own, keeps_header}
use Rattle.rebuild_copy.specs.Rows.{empty_held_range, gathered_header, size_in, gathered_range, gathered_kind, IsGatheredSection, RowOf, Origin, IsListedAs, IsContents}
use Rattle.rebuild_copy.specs.Edits.{HasOtherBytes, HasOtherHeader}
use Rattle.rebuild_copy.specs.Steps.{known, Turns}
use Rattle.rebuild_copy.proofs.RowLaws.{row_pieces, set_same, listed_put, table_put, contents_put}
use Rattle.rebuild_copy.proofs.TurnLaws.{turns_not}

-- ---- A section that is there

module _ (p : Object) (s : ℕ) (there : IsPresentSection p s) where
  pub here_none : no_section p s ≡ None
  here_none =
      ap (λ (b : Bool). refused_if b (NoSection s (length p.sections)))
      (lt-leb (length p.sections) s there.1)

  pub free_none : reserved s ≡ None
  free_none =
      let first = there.0 in
      ap (λ (b : Bool). refused_if b Reserved) (ne_eqb s 0 (λ none. omega (arith, none, first)))

-- ---- Other bytes

pub bytes_fit : (p : Object) (s k : ℕ) (bytes : List ℕ)
    → unfit_items p s k (items.Bytes bytes) ≡ None
unfolding first_unfit
bytes_fit p s k bytes = refl

pub fit_bytes : (class : Class) (bytes : List ℕ) → first_unfit class (items.Bytes bytes) ≡ None
unfolding first_unfit
fit_bytes class bytes = refl

module _ (p : Object) (s : ℕ) (there : IsPresentSection p s) (was : Items)
    (pieces : (section_at p s).pieces ≡ own_piece was 1 ∷ []) (bytes : List ℕ) where
  some_data : no_data p s 0 ≡ None
  unfolding piece_count
  some_data =
      ap (λ (l : List Piece). refused_if (nat_le (length l) 0) (NoData 0 (length l))) pieces

  replace_passes : replace_refusal p s 0 (items.Bytes bytes) ≡ None
  unfolding replace_refusal
  replace_passes =
      let unfit = unfit_items p s 0 (items.Bytes bytes) in
      passes_first (no_section p s) (reserved s ∷ no_data p s 0 ∷ unfit ∷ [])
      (here_none p s there)
      ∙ passes_first (reserved s) (no_data p s 0 ∷ unfit ∷ []) (free_none p s there)
      ∙ passes_first (no_data p s 0) (unfit ∷ []) some_data
      ∙ alone unfit
      ∙ bytes_fit p s 0 bytes

  abbrev with_bytes_at : Section
  with_bytes_at = record (section_at p s) { pieces = own_piece (items.Bytes bytes) 1 ∷ [] }

  own_is : with_own p s 0 (items.Bytes bytes) ≡ with_section p s with_bytes_at
  unfolding with_own with_piece_at piece_at
  own_is =
      ap (λ (l : List Piece). with_section p s (record (section_at p s) {
        pieces = slice_set l 0
            (own_piece (items.Bytes bytes) (slice_index_or l 0 home_piece).align);
      })) pieces

  replaced : edited (calls.replace s 0 (items.Bytes bytes)) p
      ≡ Ok (with_own p s 0 (items.Bytes bytes))
  replaced =
      ap (λ (r : Option ElfError).
      answered r (tt {0}) >>= λ u. Ok (with_own p s 0 (items.Bytes bytes))) replace_passes

module _ (o : Origin) (p : Object) (x : Arranged) (is : IsListedAs o p x) (s : ℕ)
    (there : IsPresentSection p s) (filled : occupies_file (header_at p s) ≡ true) where
  abbrev pub old_row : RowOf p (o.bases.each s) x s
  old_row = is.rows s there.1

  pub pieces_one : (section_at p s).pieces ≡ own_piece old_row.own 1 ∷ []
  pieces_one =
      row_pieces old_row ∙ ap (λ (b : Bool). if b then own_piece old_row.own 1 ∷ [] else []) filled

  -- the section with other items is made with these
  made_again : (own : Items) → record (section_at p s) { pieces = own_piece own 1 ∷ [] }
      ≡ made_section (header_at p s) own
  unfolding made_section
  made_again own =
      ap (λ (d : Section). record d { pieces = own_piece own 1 ∷ [] }) old_row.section
      ∙ ap (λ (b : Bool). record (made_section (header_at p s) own) {
        pieces = if b then own_piece own 1 ∷ [] else [];
      }) (sym filled)

  module _ (bytes : List ℕ) (y : Arranged) (has : HasOtherBytes s bytes x y) where
    abbrev own : Items
    own = items.Bytes bytes

    abbrev left : Object
    left = with_own p s 0 own

    left_object : IsObject left
    left_object =
        edited_keeps (calls.replace s 0 own) p left (replace_keeps s 0 own) is.object
        (replaced p s there old_row.own pieces_one bytes)

    encoded_is : encoded p.header.class p.header.order own ≡ bytes
    encoded_is = bytes_encoded p.header.class p.header.order bytes has.are

    new_row : IsGatheredSection p.header.class p.header.order (o.bases.each s) y.held
        (with_bytes_at p s there old_row.own pieces_one bytes) (gathered_header x s) has.range.len
        has.range kinds.Bytes
    new_row = record {
      header = old_row.header;
      own = own;
      section = made_again own;
      kind_is = refl;
      are = has.are;
      fits = fit_bytes p.header.class bytes;
      strings = λ typed. refl;
      size_is = has.holds.len
          ∙ ap (λ (l : List ℕ). length l) (sym encoded_is)
          ∙ sym (ap (λ (b : Bool).
          if b then length (encoded p.header.class p.header.order own) else 0) filled);
      small = let long = has.holds.len in let small = has.small in omega (arith, long, small);
      range_is = λ full later.
          held_bytes_stay bytes x.held y.held later (o.bases.each s) has.range has.holds
          ∙ sym encoded_is;
    }

    abbrev with_section_now : Object
    with_section_now =
        with_section p s (with_bytes_at p s there old_row.own pieces_one bytes)

    section_now : left ≡ with_section_now
    section_now = own_is p s there old_row.own pieces_one bytes

    -- its headers and ranges, whether the table of the names is held or not
    pub bytes_listed : IsListedAs o left y
    bytes_listed =
        subst (λ (q : Object). IsListedAs o q y) (sym section_now)
        (listed_put o p x is s there (with_bytes_at p s there old_row.own pieces_one bytes) y
        (gathered_header x s) has.range.len has.range kinds.Bytes bytes has.header
        (has.headers ∙ sym (set_same x.listed.headers s _)) has.sizes has.ranges has.kinds_are
        (subst IsObject section_now left_object) has.tail has.holds.all new_row)

    bytes_alters : Alters {T = Unit {0}} (or_strip (edited (calls.replace s 0 own) p)) (Ok tt)
        (known p) (known left)
    bytes_alters =
        edit_done (calls.replace s 0 own) (known p) (known left) tt tt
        (ap (λ (r : Option ElfError). answered r (tt {0}))
        (replace_passes p s there old_row.own pieces_one bytes)) refl refl (keeps_own p s 0 own)

module _ (o : Origin) (p : Object) (x : Arranged) (is : IsContents o p x) (s : ℕ)
    (there : IsPresentSection p s) (filled : occupies_file (header_at p s) ≡ true)
    (bytes : List ℕ) (y : Arranged) (has : HasOtherBytes s bytes x y) where
  pub bytes_left : IsContents o (with_own p s 0 (items.Bytes bytes)) y
  bytes_left = record {
    listed = bytes_listed o p x is.listed s there filled bytes y has;
    table = table_put o p x is.listed s there (section_at p s) y (gathered_header x s)
        has.range.len has.range kinds.Bytes bytes has.header
        (has.headers ∙ sym (set_same x.listed.headers s _)) has.sizes has.ranges has.kinds_are
        is.table refl (λ held. has.holds.held);
  }

  pub bytes_turned : Turns {T = Unit {0}} o p
      (or_strip (edited (calls.replace s 0 (items.Bytes bytes)) p)) (Ok tt) y
  bytes_turned = record {
    left = with_own p s 0 (items.Bytes bytes);
    alters = bytes_alters o p x is.listed s there filled bytes y has;
    contents = bytes_left;
  }

-- ---- Another header

module _ (p : Object) (s : ℕ) (there : IsPresentSection p s) (h : Shdr) where
  -- it is refused where it does not fit the class
  pub header_refusal : update_shdr_refusal p s h
      ≡ refused_if (not (shdr_fits p.header.class h)) (Unfit (part.Section s) 0)
  unfolding update_shdr_refusal
  header_refusal =
      let unfit = refused_if (not (shdr_fits p.header.class h)) (Unfit (part.Section s) 0) in
      passes_first (no_section p s) (reserved s ∷ unfit ∷ []) (here_none p s there)
      ∙ passes_first (reserved s) (unfit ∷ []) (free_none p s there)
      ∙ alone unfit

  header_edited : update_shdr_refusal p s h ≡ None
      → edited (calls.update_shdr s h) p ≡ Ok (with_shdr p s h)
  header_edited passed =
      ap (λ (r : Option ElfError). answered r (tt {0}) >>= λ u. Ok (with_shdr p s h)) passed

shdr_is : (p : Object) (s : ℕ) (h : Shdr)
    → with_shdr p s h ≡ with_section p s (record (section_at p s) { header = h; marked = true })
unfolding with_shdr
shdr_is p s h = refl

module _ (o : Origin) (p : Object) (x : Arranged) (is : IsContents o p x) (s : ℕ)
    (there : IsPresentSection p s) (h : Shdr) (stype : h.stype ≡ (header_at p s).stype)
    (passed : update_shdr_refusal p s h ≡ None) (shdr : IsShdr h) (y : Arranged)
    (has : HasOtherHeader s h x y) where
  abbrev headed : Section
  headed = record (section_at p s) { header = h; marked = true }

  old : RowOf p (o.bases.each s) x s
  old = is.listed.rows s there.1

  same_kind_of : occupies_file (header_at p s) ≡ occupies_file h
  same_kind_of = ap (λ (t : ℕ). not (t == SHT_NULL || t == SHT_NOBITS)) (sym stype)

  headed_made : headed ≡ made_section h old.own
  unfolding made_section
  headed_made =
      ap (λ (c : Section). record c { header = h; marked = true }) old.section
      ∙ ap (λ (b : Bool). record (made_section h old.own) {
        pieces = if b then own_piece old.own 1 ∷ [] else [];
      }) same_kind_of

  row : IsGatheredSection p.header.class p.header.order (o.bases.each s) x.held headed h
      (size_in x s) (gathered_range x s) (gathered_kind x s)
  row = record {
    header = refl;
    own = old.own;
    section = headed_made;
    kind_is = old.kind_is;
    are = old.are;
    fits = old.fits;
    strings = λ typed. old.strings (sym stype ∙ typed);
    size_is = old.size_is
        ∙ ap (λ (b : Bool).
        if b then length (encoded p.header.class p.header.order old.own) else 0) same_kind_of;
    small = old.small;
    range_is = λ filled later. old.range_is (same_kind_of ∙ filled) later;
  }

  headed_object : IsObject (with_shdr p s h)
  headed_object =
      edited_keeps (calls.update_shdr s h) p (with_shdr p s h) (update_shdr_keeps s h shdr)
      is.listed.object (header_edited p s there h passed)

  held_same : y.held ≡ x.held
  held_same = ap (λ (z : Arranged). z.held) has

  row_now : IsGatheredSection p.header.class p.header.order (o.bases.each s) y.held headed h
      (size_in x s) (gathered_range x s) (gathered_kind x s)
  row_now =
      subst (λ (l : List ℕ). IsGatheredSection p.header.class p.header.order (o.bases.each s) l
      headed h (size_in x s) (gathered_range x s) (gathered_kind x s)) (sym held_same) row

  pub header_left : IsContents o (with_shdr p s h) y
  header_left =
      subst (λ (q : Object). IsContents o q y) (sym (shdr_is p s h))
      (contents_put o p x is s there headed y h (size_in x s) (gathered_range x s)
      (gathered_kind x s) []
      (ap (λ (z : Arranged). z.listed.header) has) (ap (λ (z : Arranged). z.listed.headers) has)
      (ap (λ (z : Arranged). z.listed.sizes) has ∙ sym (set_same x.listed.sizes s 0))
      (ap (λ (z : Arranged). z.ranges) has ∙ sym (set_same x.ranges s empty_held_range))
      (ap (λ (z : Arranged). z.kinds) has ∙ sym (set_same x.kinds s kinds.Empty))
      (stype ∙ ap (λ (k : Shdr). k.stype) (sym old.header)) (λ held. held)
      (subst IsObject (shdr_is p s h) headed_object) (ap (λ (z : Arranged). z.tail) has)
      (held_same ∙ sym (append-nil x.held)) row_now)

  pub header_turned : Turns {T = Unit {0}} o p (or_strip (edited (calls.update_shdr s h) p))
      (Ok tt) y
  header_turned = record {
    left = with_shdr p s h;
    alters = edit_done (calls.update_shdr s h) (known p) (known (with_shdr p s h)) tt tt
        (ap (λ (r : Option ElfError). answered r (tt {0})) passed) refl refl
        (keeps_header p s h);
    contents = header_left;
  }

-- a header that does not fit
pub header_not : (o : Origin) (p : Object) (s : ℕ) (h : Shdr) (y : Arranged) → IsPresentSection p s
    → shdr_fits p.header.class h ≡ false
    → Turns {T = Unit {0}} o p (or_strip (edited (calls.update_shdr s h) p))
    (Err (faults.Strip (Unfit (part.Section s) 0))) y
header_not o p s h y there unfit =
    let refused : update_shdr_refusal p s h ≡ Some (Unfit (part.Section s) 0) =
    header_refusal p s there h
    ∙ ap (λ (b : Bool). refused_if (not b) (Unfit (part.Section s) 0)) unfit in
    turns_not o p (Unit {0}) (or_strip (edited (calls.update_shdr s h) p))
    (faults.Strip (Unfit (part.Section s) 0)) y tt
    (ap (λ (r : Option ElfError). or_strip (answered r (tt {0}) >>= λ u. Ok (with_shdr p s h)))
    refused)
