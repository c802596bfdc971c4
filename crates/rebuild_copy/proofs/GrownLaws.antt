-- An object with one section more: its header, its bytes, and the calls that add it.
use lib.Count.{ones}
use Rattle.std.proofs.Common.{◌≡◌, ◌==◌, ◌+◌, ◌<◌, ℕ, Bool, true, false, not, List, [], ◌∷◌, ◌++◌, length, length-append, Option, Some, None, Result, Ok, Err, if◌then◌else◌, refl, ap, ◌∙◌, arith, lit<}
use Rattle.std.specs.Prelude.{nat_le}
use Rattle.std.proofs.lemmas.Bool.{ne_eqb}
use Rattle.std.proofs.lemmas.List.{get_or_append_left, get_or_push}
use Rattle.elf_types.specs.declared.constants.TheConstants.{MAX_PIECES}
use Rattle.elf_types.specs.declared.records.Class.{Class}
use Rattle.elf_types.specs.declared.records.Class.TheVariants as classes
use Rattle.elf_types.specs.declared.records.Part.TheVariants as part
use Rattle.elf_types.specs.declared.errors.ElfError.{ElfError}
use Rattle.elf_types.specs.declared.errors.ElfError.TheVariants.{TooMany, BadAlign, Unfit}
use Rattle.elf_types.specs.Answers.{refused_if, answered, ◌>>=◌}
use Rattle.elf_xlate.specs.declared.content.Items.{Items}
use Rattle.elf_xlate.specs.declared.content.Items.TheVariants as items
use Rattle.elf_xlate.specs.Headers.{shdr_fits, IsShdr}
use Rattle.elf_ident.specs.Front.{zero_shdr}
use Rattle.elf_object.specs.Object.{Object, Section, header_of, section_at, absent_section, new_section}
use Rattle.elf_object.specs.Answers.{no_section, reserved, piece_count}
use Rattle.elf_object.specs.Calls.{is_piece_align, newscn_refusal, newdata_refusal, update_shdr_refusal, unfit_items}
use Rattle.elf_object.specs.Calls as calls
use Rattle.elf_object.specs.Steps.{with_section, with_sections, with_shdr, with_new_section, with_new_piece, new_number, own_piece}
use Rattle.elf_object.specs.Valid.{IsObject}
use Rattle.elf_object.proofs.StepLaws.{section_count-with_section, section_at-with_section, section_at-with_section_other, section_at-with_shdr, section_at-with_shdr_other}
use Rattle.law_object.proofs.KeepLaws.{zero_shdr_is, newscn_keeps, update_shdr_keeps, newdata_keeps}
use Rattle.elf_object.specs.Sections.{edited}
use Rattle.rebuild_model.specs.Copied.{CopyFault as StatedFault, or_strip, added_header, with_added}
use Rattle.law_rebuild.proofs.strip.CopyLaws.{edited_keeps}
use Rattle.rebuild_edits.proofs.rebuild_making.RefusedLaws.{alone, passes_first}
use Rattle.rebuild_edits.specs.Edits.Steps.{IsPresentSection}
use Rattle.rebuild_copy.proofs.RowLaws.{HasSameFrame}
use Rattle.rebuild_copy.proofs.EditLaws.{here_none, free_none, bytes_fit}

-- ---- One section more

module _ (p : Object) (bytes : List ℕ) where
  abbrev n : ℕ
  n = length p.sections

  abbrev own : Items
  own = items.Bytes bytes

  -- by elf_newscn, gelf_update_shdr and elf_newdata
  pub grown : Object
  grown = with_sections p (p.sections ++ new_section ∷ [])

  pub headed : Object
  headed = with_shdr grown n added_header

  pub filled : Object
  filled = with_new_piece headed n own 1

  grown_is : (length p.sections == 0) ≡ false → with_new_section p ≡ grown
  unfolding with_new_section grown
  grown_is some =
      ap (λ (b : Bool). with_sections p
      (p.sections ++ (if b then new_section ∷ new_section ∷ [] else new_section ∷ []))) some

  grown_long : length grown.sections ≡ n + 1
  unfolding grown
  grown_long = length-append p.sections (new_section ∷ [])

  headed_long : length headed.sections ≡ n + 1
  unfolding headed with_shdr
  headed_long = section_count-with_section grown n _ ∙ grown_long

  pub filled_long : length filled.sections ≡ n + 1
  unfolding filled with_new_piece
  filled_long = section_count-with_section headed n _ ∙ headed_long

  grown_last : section_at grown n ≡ new_section
  unfolding section_at grown
  grown_last = get_or_push p.sections new_section absent_section n refl

  grown_before : (t : ℕ) → t < n → section_at grown t ≡ section_at p t
  unfolding section_at grown
  grown_before t below = get_or_append_left p.sections (new_section ∷ []) absent_section t below

  headed_last : section_at headed n ≡ record new_section { header = added_header; marked = true }
  unfolding headed
  headed_last =
      let long = grown_long in
      section_at-with_shdr grown n added_header (omega (arith, long))
      ∙ ap (λ (c : Section). record c { header = added_header; marked = true }) grown_last

  headed_before : (t : ℕ) → t < n → section_at headed t ≡ section_at p t
  unfolding headed
  headed_before t below =
      section_at-with_shdr_other grown n t added_header (λ at. omega (arith, at, below))
      ∙ grown_before t below

  abbrev pub last_section : Section
  last_section = record new_section {
    header = added_header;
    marked = true;
    pieces = own_piece own 1 ∷ [];
  }

  pub filled_last : section_at filled n ≡ last_section
  unfolding filled with_new_piece
  filled_last =
      let long = headed_long in
      section_at-with_section headed n
      (record (section_at headed n) {
        pieces = (section_at headed n).pieces ++ own_piece own 1 ∷ [];
      }) (omega (arith, long))
      ∙ ap (λ (c : Section). record c { pieces = c.pieces ++ own_piece own 1 ∷ [] }) headed_last

  pub filled_before : (t : ℕ) → t < n → section_at filled t ≡ section_at p t
  unfolding filled with_new_piece
  filled_before t below =
      section_at-with_section_other headed n t _ (λ at. omega (arith, at, below))
      ∙ headed_before t below

  pub filled_frame : HasSameFrame p filled
  unfolding filled headed grown with_new_piece with_shdr with_section
  filled_frame = record {
    class = refl;
    order = refl;
    layout = refl;
    base = refl;
    pad = refl;
    phdrs = refl;
    fill = refl;
    marked = refl;
    version = refl;
    ehsize = refl;
    phentsize = refl;
    shentsize = refl;
    front = refl;
    unmarked = refl;
    segments_marked = refl;
  }

  filled_counted : header_of filled ≡ record (header_of p) { shnum = length filled.sections }
  unfolding header_of filled headed grown with_new_piece with_shdr with_section
  filled_counted = refl

  pub filled_header : header_of filled ≡ record (header_of p) { shnum = n + 1 }
  filled_header =
      filled_counted ∙ ap (λ (m : ℕ). record (header_of p) { shnum = m }) filled_long

  pub index_same : filled.header.shstrndx ≡ p.header.shstrndx
  unfolding filled headed grown with_new_piece with_shdr with_section
  index_same = refl

  -- ---- Each of the three passes

  module _ (some : 0 < n) where
    there_grown : IsPresentSection grown n
    there_grown = let long = grown_long in (some, omega (arith, long))

    there_headed : IsPresentSection headed n
    there_headed = let long = headed_long in (some, omega (arith, long))

    zero_fits : (class : Class) → shdr_fits class added_header ≡ true
    unfolding shdr_fits zero_shdr
    zero_fits classes.C32 = refl
    zero_fits classes.C64 = refl

    header_passes : update_shdr_refusal grown n added_header ≡ None
    unfolding update_shdr_refusal
    header_passes =
        let unfit =
        refused_if (not (shdr_fits grown.header.class added_header)) (Unfit (part.Section n) 0)
        in
        passes_first (no_section grown n) (reserved n ∷ unfit ∷ [])
        (here_none grown n there_grown)
        ∙ passes_first (reserved n) (unfit ∷ []) (free_none grown n there_grown)
        ∙ alone unfit
        ∙ ap (λ (b : Bool). refused_if (not b) (Unfit (part.Section n) 0))
        (zero_fits grown.header.class)

    one_aligned : is_piece_align 1 ≡ true
    unfolding is_piece_align ones
    one_aligned = refl

    none_yet : piece_count headed n ≡ 0
    unfolding piece_count
    none_yet = ap (λ (c : Section). length c.pieces) headed_last

    data_passes : newdata_refusal headed n own 1 ≡ None
    unfolding newdata_refusal
    data_passes =
        let unfit = unfit_items headed n (piece_count headed n) own in
        let align = refused_if (not (is_piece_align 1)) (BadAlign 1) in
        let many = refused_if (nat_le MAX_PIECES (piece_count headed n)) TooMany in
        passes_first (no_section headed n) (reserved n ∷ many ∷ align ∷ unfit ∷ [])
        (here_none headed n there_headed)
        ∙ passes_first (reserved n) (many ∷ align ∷ unfit ∷ []) (free_none headed n there_headed)
        ∙ passes_first many (align ∷ unfit ∷ [])
        (ap (λ (k : ℕ). refused_if (nat_le MAX_PIECES k) TooMany) none_yet)
        ∙ passes_first align (unfit ∷ [])
        (ap (λ (b : Bool). refused_if (not b) (BadAlign 1)) one_aligned)
        ∙ alone unfit
        ∙ bytes_fit headed n (piece_count headed n) bytes

    header_edit : edited (calls.update_shdr n added_header) grown ≡ Ok headed
    unfolding headed
    header_edit =
        ap (λ (r : Option ElfError). answered r (tt {0}) >>= λ u. Ok headed) header_passes

    data_edit : edited (calls.newdata n own) headed ≡ Ok filled
    unfolding filled
    data_edit =
        let place : ℕ × ℕ = (n, piece_count headed n) in
        ap (λ (r : Option ElfError). answered r place >>= λ d. Ok filled) data_passes

-- ---- By the number of sections

-- the definition, by the refusal and the answer of elf_newscn
abbrev pub added_by : List ℕ → Option ElfError → ℕ → Object → Result Object StatedFault
added_by bytes refusal n grown =
    or_strip
    ((answered refusal n >>= λ s. Ok grown) >>= λ q.
    edited (calls.update_shdr n added_header) q >>= λ r.
    edited (calls.newdata n (items.Bytes bytes)) r)

pub added_as : (p : Object) (change : List ℕ × List ℕ)
    → with_added p change
    ≡ added_by change.1 (newscn_refusal p) (new_number p) (with_new_section p)
unfolding with_added
added_as p change = refl

added_header_is : IsShdr added_header
unfolding zero_shdr
added_header_is =
    let zeros = zero_shdr_is in
    record {
      name = zeros.name;
      stype = lit< tt;
      flags = zeros.flags;
      addr = zeros.addr;
      offset = zeros.offset;
      size = zeros.size;
      link = zeros.link;
      info = zeros.info;
      addralign = lit< tt;
      entsize = zeros.entsize;
    }

module _ (p : Object) (change : List ℕ × List ℕ) (some : 0 < length p.sections) where
  abbrev bytes : List ℕ
  bytes = change.1

  number_is : new_number p ≡ length p.sections
  number_is =
      ap (λ (b : Bool). if b then 1 else length p.sections)
      (ne_eqb (length p.sections) 0 (λ none. omega (arith, none, some)))

  added_parts : (refusal : Option ElfError) → newscn_refusal p ≡ refusal
      → with_added p change ≡ added_by bytes refusal (length p.sections) (grown p bytes)
  added_parts refusal is =
      added_as p change
      ∙ ap (λ (r : Option ElfError). added_by bytes r (new_number p) (with_new_section p)) is
      ∙ ap (λ (k : ℕ). added_by bytes refusal k (with_new_section p)) number_is
      ∙ ap (added_by bytes refusal (length p.sections)) (grown_is p bytes
      (ne_eqb (length p.sections) 0 (λ none. omega (arith, none, some))))

  pub added_ok : newscn_refusal p ≡ None → with_added p change ≡ Ok (filled p bytes)
  added_ok passed =
      added_parts None passed
      ∙ ap (λ (r : Result Object ElfError). or_strip (r >>= λ q.
      edited (calls.newdata (length p.sections) (items.Bytes bytes)) q))
      (header_edit p bytes some)
      ∙ ap or_strip (data_edit p bytes some)

  pub added_many : newscn_refusal p ≡ Some TooMany
      → with_added p change ≡ Err (StatedFault.Strip TooMany)
  added_many refused = added_parts (Some TooMany) refused

  pub filled_object : IsObject p → newscn_refusal p ≡ None → IsObject (filled p bytes)
  filled_object is passed =
      let first : edited calls.newscn p ≡ Ok (grown p bytes) =
      ap (λ (r : Option ElfError). answered r (new_number p) >>= λ s. Ok (with_new_section p))
      passed
      ∙ ap (λ (q : Object). Ok q) (grown_is p bytes
      (ne_eqb (length p.sections) 0 (λ none. omega (arith, none, some)))) in
      edited_keeps (calls.newdata (length p.sections) (items.Bytes bytes)) (headed p bytes)
      (filled p bytes) (newdata_keeps (length p.sections) (items.Bytes bytes) 1)
      (edited_keeps (calls.update_shdr (length p.sections) added_header) (grown p bytes)
      (headed p bytes) (update_shdr_keeps (length p.sections) added_header added_header_is)
      (edited_keeps calls.newscn p (grown p bytes) newscn_keeps is first)
      (header_edit p bytes some)) (data_edit p bytes some)
