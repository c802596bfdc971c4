-- What the getters answer of two images that are the same but for places, section by section.
use Rattle.std.proofs.Common.{◌≡◌, ℕ, ◌-◌, ◌^◌, min, Bool, false, not, ◌&&◌, List, [], ◌∷◌, length, Option, Some, None, Result, Ok, Err, sym, ap, ◌∙◌}
use Rattle.std.specs.Prelude.{filter, nat_le, slice_get, slice_index_or, is_none, if◌then◌else◌}
use Rattle.elf_types.specs.Answers.{refused_if, first_refusal, answered, err_of, ◌>>=◌}
use Rattle.elf_types.specs.declared.records.Class.{Class}
use Rattle.elf_types.specs.declared.records.Order.{Order}
use Rattle.elf_types.specs.declared.records.Kind.{Kind}
use Rattle.elf_types.specs.declared.records.Kind.TheVariants as kinds
use Rattle.elf_types.specs.declared.records.Part.{Part}
use Rattle.elf_types.specs.declared.records.Part.TheVariants as part
use Rattle.elf_types.specs.declared.errors.ElfError.{ElfError}
use Rattle.elf_types.specs.declared.errors.ElfError.TheVariants.{NoSection, NoData, WrongKind, OutOfFile, Ragged, NotStrings, NoString, Unended}
use Rattle.elf_xlate.specs.declared.content.Items.{Items}
use Rattle.elf_xlate.specs.Translation.{decoded, items_kind}
use Rattle.strtab_build.specs.Table.{string_at}
use Rattle.elf_object.specs.Blocks.{Block, block_covers, stacked, last_end}
use Rattle.elf_object.specs.Object.{Object, Section, Piece, home_piece, section_at, piece_at, home_is_clean}
use Rattle.elf_object.specs.Joined.{aligned_pieces, piece_blocks, pieces_end}
use Rattle.elf_object.specs.Answers.{content, or_empty, items_at, kind_at, piece_count, same_kind, no_content, piece_refusal, part_refusal, data_refusal, raw_refusal, lend_refusal, flag_bits, flags_of, bytes_of, halves_of, words_of, addrs_of, syms_of, rels_of, relas_of, dyns_of, entry_answer}
use Rattle.elf_object.specs.Calls.{pieces_answer, piece_kind_answer, piece_align_answer, flags_answer, data_answer, raw_answer, half_answer, word_answer, addr_answer, sym_answer, rel_answer, rela_answer, dyn_answer}
use Rattle.elf_object.specs.Strings.{holds_strings, piece_over, has_nul, bytes_from, string_refusal_unread, string_refusal, string_answer}
use Rattle.symbol_lookup.specs.gelf_view.declared.notes.NoteAt.{NoteAt}
use Rattle.symbol_lookup.specs.gelf_view.Notes.{note_align, note_at}
use Rattle.symbol_lookup.specs.gelf_view.Versions.{verdef_at, verdaux_at, verneed_at, vernaux_at}
use Rattle.symbol_lookup.specs.gelf_view.Calls.{bytes_answer, note_found, note_answer, first_version_place, first_entry_answer, verdef_answer, verdaux_answer, verneed_answer, vernaux_answer}
use Rattle.law_split.proofs.AlikeSections.{bare, IsAlike, IsUntouched}

-- ---- What is looked at in a section

abbrev no_section_in : ℕ → ℕ → Option ElfError
no_section_in s n = refused_if (nat_le n s) (NoSection s n)

abbrev no_data_in : ℕ → Section → Option ElfError
no_data_in p c = refused_if (nat_le (length c.pieces) p) (NoData p (length c.pieces))

abbrev piece_in : ℕ → Section → Piece
piece_in p c = slice_index_or c.pieces p home_piece

abbrev content_in : ℕ → Class → Order → Section → Result Items ElfError
content_in s class order c =
    if c.home.out then Err (OutOfFile s)
    else (elim (decoded c.home.kind class order c.raw) [
      | None ↦ Err (Ragged s)
      | Some items ↦ Ok items
    ])

abbrev items_in : ℕ → ℕ → Class → Order → Section → Items
items_in s p class order c = elim ((piece_in p c).own) [
  | None ↦ or_empty (content_in s class order c)
  | Some items ↦ items
]

abbrev kind_in : ℕ → Section → Kind
kind_in p c = elim ((piece_in p c).own) [ None ↦ c.home.kind | Some items ↦ items_kind items ]

abbrev no_content_in : ℕ → ℕ → Class → Order → Section → Option ElfError
no_content_in s p class order c = elim ((piece_in p c).own) [
  | None ↦ err_of (content_in s class order c)
  | Some items ↦ None
]

abbrev over_in : ℕ → List Block → Option Block
over_in offset blocks = slice_get (filter (λ b. block_covers b offset) blocks) 0

abbrev unended_in : ℕ → Option Block → Option ElfError
unended_in offset over = elim over [
  | None ↦ None
  | Some b ↦ refused_if (not (has_nul (bytes_from b offset))) (Unended offset)
]

abbrev string_in : ℕ → Option Block → List ℕ
string_in offset over =
    elim over [ None ↦ [] | Some b ↦ string_at b.bytes (offset - b.at) ]

abbrev string_by : ℕ → ℕ → ℕ → Bool → Bool → List Block → Result (List ℕ) ElfError
string_by s offset n strings out blocks =
    answered
    (first_refusal
    (first_refusal
    (no_section_in s n
    ∷ refused_if (not strings) (NotStrings s)
    ∷ refused_if out (OutOfFile s)
    ∷ refused_if (is_none (over_in offset blocks))
    (NoString offset (min (last_end 0 blocks) (2 ^ 64 - 1)))
    ∷ [])
    ∷ unended_in offset (over_in offset blocks)
    ∷ []))
    (string_in offset (over_in offset blocks))

-- ---- Answers

module _ (a b : Object) (s : ℕ) (alike : IsAlike a b s) where
  same_by : {R : Type 0} (F : ℕ → Class → Order → Section → R)
      → F (length a.sections) a.header.class a.header.order (bare (section_at a s))
      ≡ F (length b.sections) b.header.class b.header.order (bare (section_at b s))
  same_by F =
      ap (λ (n : ℕ). F n a.header.class a.header.order (bare (section_at a s))) alike.count
      ∙ ap (λ (c : Class). F (length b.sections) c a.header.order (bare (section_at a s)))
      alike.class
      ∙ ap (λ (o : Order). F (length b.sections) b.header.class o (bare (section_at a s)))
      alike.order
      ∙ ap (λ (c : Section). F (length b.sections) b.header.class b.header.order c) alike.section

  pub pieces_same : pieces_answer a s ≡ pieces_answer b s
  unfolding pieces_answer piece_count
  pieces_same = same_by {R = Result ℕ ElfError} (λ n class order c.
      answered (no_section_in s n) (length c.pieces))

  pub kind_same : (p : ℕ) → piece_kind_answer a s p ≡ piece_kind_answer b s p
  unfolding piece_kind_answer piece_refusal piece_count kind_at piece_at
  kind_same p = same_by {R = Result Kind ElfError} (λ n class order c.
      answered (first_refusal (no_section_in s n ∷ no_data_in p c ∷ [])) (kind_in p c))

  pub align_same : (p : ℕ) → piece_align_answer a s p ≡ piece_align_answer b s p
  unfolding piece_align_answer piece_refusal piece_count piece_at
  align_same p = same_by {R = Result ℕ ElfError} (λ n class order c.
      answered (first_refusal (no_section_in s n ∷ no_data_in p c ∷ [])) (piece_in p c).align)

  pub data_same : (p : ℕ) → data_answer a s p ≡ data_answer b s p
  unfolding data_answer data_refusal no_content items_at content piece_at piece_count
  data_same p = same_by {R = Result Items ElfError} (λ n class order c.
      answered
      (first_refusal (no_section_in s n ∷ no_data_in p c ∷ no_content_in s p class order c ∷ []))
      (items_in s p class order c))

  pub raw_same : raw_answer a s ≡ raw_answer b s
  unfolding raw_answer raw_refusal
  raw_same = same_by {R = Result (List ℕ) ElfError} (λ n class order c.
      answered (first_refusal (no_section_in s n ∷ refused_if c.home.out (OutOfFile s) ∷ []))
      c.raw)

  pub items_same : (p : ℕ) → items_at a s p ≡ items_at b s p
  unfolding items_at content piece_at
  items_same p = same_by {R = Items} (λ n class order c. items_in s p class order c)

  pub lend_same : (kind : Kind) (p : ℕ) → lend_refusal a kind s p ≡ lend_refusal b kind s p
  unfolding lend_refusal no_content content kind_at piece_at piece_count
  lend_same kind p = same_by {R = Option ElfError} (λ n class order c.
      first_refusal
      (no_section_in s n
      ∷ no_data_in p c
      ∷ refused_if (not (same_kind (kind_in p c) kind)) (WrongKind (kind_in p c))
      ∷ no_content_in s p class order c
      ∷ []))

  entry_same : {A : Type 0} (kind : Kind) (list : Items → List A) (p i : ℕ)
      → entry_answer (lend_refusal a kind s p) (list (items_at a s p)) i
      ≡ entry_answer (lend_refusal b kind s p) (list (items_at b s p)) i
  entry_same kind list p i =
      ap (λ (r : Option ElfError). entry_answer r (list (items_at a s p)) i) (lend_same kind p)
      ∙ ap (λ (l : Items). entry_answer (lend_refusal b kind s p) (list l) i) (items_same p)

  blocks_same : piece_blocks a s ≡ piece_blocks b s
  unfolding piece_blocks aligned_pieces
  blocks_same = same_by {R = List Block} (λ n class order c.
      stacked 0 (aligned_pieces class order c))

  strings_same : holds_strings (section_at a s) ≡ holds_strings (section_at b s)
  unfolding holds_strings
  strings_same = same_by {R = Bool} (λ n class order c. holds_strings c)

  clean_out_same : (home_is_clean (section_at a s) && (section_at a s).home.out)
      ≡ (home_is_clean (section_at b s) && (section_at b s).home.out)
  unfolding home_is_clean
  clean_out_same = same_by {R = Bool} (λ n class order c. home_is_clean c && c.home.out)

  pub string_same : (offset : ℕ) → string_answer a s offset ≡ string_answer b s offset
  unfolding string_answer string_refusal string_refusal_unread piece_over pieces_end
  string_same offset =
      ap (λ (n : ℕ). string_by s offset n (holds_strings (section_at a s))
      (home_is_clean (section_at a s) && (section_at a s).home.out) (piece_blocks a s)) alike.count
      ∙ ap (λ (x : Bool). string_by s offset (length b.sections) x
      (home_is_clean (section_at a s) && (section_at a s).home.out) (piece_blocks a s)) strings_same
      ∙ ap (λ (x : Bool). string_by s offset (length b.sections) (holds_strings (section_at b s)) x
      (piece_blocks a s)) clean_out_same
      ∙ ap (λ (l : List Block). string_by s offset (length b.sections)
      (holds_strings (section_at b s))
      (home_is_clean (section_at b s) && (section_at b s).home.out) l) blocks_same

  pub half_same : (p i : ℕ) → half_answer a s p i ≡ half_answer b s p i
  unfolding half_answer
  half_same p i = entry_same kinds.Half halves_of p i

  pub word_same : (p i : ℕ) → word_answer a s p i ≡ word_answer b s p i
  unfolding word_answer
  word_same p i = entry_same kinds.Word words_of p i

  pub addr_same : (p i : ℕ) → addr_answer a s p i ≡ addr_answer b s p i
  unfolding addr_answer
  addr_same p i = entry_same kinds.Addr addrs_of p i

  pub sym_same : (p i : ℕ) → sym_answer a s p i ≡ sym_answer b s p i
  unfolding sym_answer
  sym_same p i = entry_same kinds.Sym syms_of p i

  pub rel_same : (p i : ℕ) → rel_answer a s p i ≡ rel_answer b s p i
  unfolding rel_answer
  rel_same p i = entry_same kinds.Rel rels_of p i

  pub rela_same : (p i : ℕ) → rela_answer a s p i ≡ rela_answer b s p i
  unfolding rela_answer
  rela_same p i = entry_same kinds.Rela relas_of p i

  pub dyn_same : (p i : ℕ) → dyn_answer a s p i ≡ dyn_answer b s p i
  unfolding dyn_answer
  dyn_same p i = entry_same kinds.Dyn dyns_of p i

  -- ---- Flags

  section_flags : flags_answer a (part.Section s) ≡ flags_answer b (part.Section s)
  unfolding flags_answer part_refusal flags_of
  section_flags = same_by {R = Result ℕ ElfError} (λ n class order c.
      answered (no_section_in s n) (flag_bits c.marked false))

  piece_flags : (p : ℕ) → flags_answer a (part.Piece s p) ≡ flags_answer b (part.Piece s p)
  unfolding flags_answer part_refusal piece_refusal flags_of piece_count piece_at
  piece_flags p = same_by {R = Result ℕ ElfError} (λ n class order c.
      answered (first_refusal (no_section_in s n ∷ no_data_in p c ∷ []))
      (flag_bits (piece_in p c).marked false))

  -- ---- Notes and version records

  bytes_same : (p : ℕ) → bytes_answer a s p ≡ bytes_answer b s p
  bytes_same p =
      ap (λ (r : Option ElfError). answered r (bytes_of (items_at a s p)))
      (lend_same kinds.Bytes p)
      ∙ ap (λ (l : Items). answered (lend_refusal b kinds.Bytes s p) (bytes_of l)) (items_same p)

  pub note_same : (p at : ℕ) → note_answer a s p at ≡ note_answer b s p at
  unfolding note_answer
  note_same p at =
      ap (λ (r : Result (List ℕ) ElfError). r >>= note_found s at a) (bytes_same p)
      ∙ same_by {R = Result (Option NoteAt) ElfError} (λ n class order c.
      bytes_answer b s p >>= λ bytes. note_at order (note_align c.header.addralign) bytes at)

  pub first_entry_same : (p : ℕ) → first_entry_answer a s p ≡ first_entry_answer b s p
  unfolding first_entry_answer
  first_entry_same p =
      let first : Result (List ℕ) ElfError → Result (Option ℕ) ElfError =
      λ r. r >>= λ bytes. Ok (first_version_place (length bytes)) in
      ap first (bytes_same p)

  -- what is read of the bytes in the byte order
  record_same : {A : Type 0} (of : Order → List ℕ → Result A ElfError) (p : ℕ)
      → (bytes_answer a s p >>= of a.header.order) ≡ (bytes_answer b s p >>= of b.header.order)
  record_same of p =
      ap (λ (r : Result (List ℕ) ElfError). r >>= of a.header.order) (bytes_same p)
      ∙ ap (λ (o : Order). bytes_answer b s p >>= of o) alike.order

  pub verdef_same : (p at : ℕ) → verdef_answer a s p at ≡ verdef_answer b s p at
  unfolding verdef_answer
  verdef_same p at = record_same (λ order bytes. verdef_at order bytes at) p

  pub verdaux_same : (p at : ℕ) → verdaux_answer a s p at ≡ verdaux_answer b s p at
  unfolding verdaux_answer
  verdaux_same p at = record_same (λ order bytes. verdaux_at order bytes at) p

  pub verneed_same : (p at : ℕ) → verneed_answer a s p at ≡ verneed_answer b s p at
  unfolding verneed_answer
  verneed_same p at = record_same (λ order bytes. verneed_at order bytes at) p

  pub vernaux_same : (p at : ℕ) → vernaux_answer a s p at ≡ vernaux_answer b s p at
  unfolding vernaux_answer
  vernaux_same p at = record_same (λ order bytes. vernaux_at order bytes at) p

-- ---- Parts

whole_flags : (a b : Object) → IsUntouched a → IsUntouched b
    → answered {E = ElfError} None (flag_bits a.marked a.layout)
    ≡ answered None (flag_bits b.marked b.layout)
whole_flags a b one other =
    let told : Bool → Bool → Result ℕ ElfError = λ marked layout. Ok (flag_bits marked layout) in
    ap (λ (m : Bool). told m a.layout) (one.marked ∙ sym other.marked)
    ∙ ap (λ (l : Bool). told b.marked l) (one.layout ∙ sym other.layout)

-- of two objects as they are opened
pub flags_same : (a b : Object) → IsUntouched a → IsUntouched b → ((s : ℕ) → IsAlike a b s)
    → (p : Part) → flags_answer a p ≡ flags_answer b p
unfolding flags_answer part_refusal flags_of
flags_same a b one other alikes part.Object = whole_flags a b one other
flags_same a b one other alikes part.Table = whole_flags a b one other
flags_same a b one other alikes part.Header =
    ap (λ (m : Bool). answered {E = ElfError} None (flag_bits m false))
    (one.header_marked ∙ sym other.header_marked)
flags_same a b one other alikes part.Segments =
    ap (λ (m : Bool). answered {E = ElfError} None (flag_bits m false))
    (one.segments_marked ∙ sym other.segments_marked)
flags_same a b one other alikes (part.Section s) = section_flags a b s (alikes s)
flags_same a b one other alikes (part.Piece s p) = piece_flags a b s (alikes s) p
