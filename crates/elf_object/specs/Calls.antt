-- Each call on an object: what it answers, the object that an Ok leaves, and the sections whose
-- homes it may read (elf(3E), gelf(3E)). Refusals stand in their order. Further calls are stated in
-- the same form where they are made.
use Rattle.std.specs.Prelude.{ℕ, Bool, true, false, not, ◌==◌, ◌&&◌, nat_lt, nat_le, List, [], ◌∷◌, length, slice_set, Option, Some, None, Result, Ok, Err}
use Rattle.std.specs.Int.{is_power_of_two}
use Rattle.elf_types.specs.declared.records.Class.{Class}
use Rattle.elf_types.specs.declared.records.Kind.{Kind}
use Rattle.elf_types.specs.declared.records.Kind.TheVariants as kinds
use Rattle.elf_types.specs.declared.records.Ehdr.{Ehdr}
use Rattle.elf_types.specs.declared.records.Phdr.{Phdr}
use Rattle.elf_types.specs.declared.records.Shdr.{Shdr}
use Rattle.elf_types.specs.declared.records.Sym.{Sym}
use Rattle.elf_types.specs.declared.records.Rel.{Rel}
use Rattle.elf_types.specs.declared.records.Rela.{Rela}
use Rattle.elf_types.specs.declared.records.Dyn.{Dyn}
use Rattle.elf_types.specs.declared.records.Part.{Part}
use Rattle.elf_types.specs.declared.records.Part.TheVariants as part
use Rattle.elf_types.specs.declared.errors.ElfError.{ElfError}
use Rattle.elf_types.specs.declared.errors.ElfError.TheVariants.{NoSection, TooMany, Unfit, FlagKept, BadAlign}
use Rattle.elf_types.specs.declared.constants.TheConstants.{PN_XNUM, MAX_SECTIONS, MAX_PIECES, MAX_PIECE_ALIGN}
use Rattle.elf_ident.specs.elf_xlate.declared.content.Items.{Items}
use Rattle.elf_ident.specs.elf_xlate.declared.content.Items.TheVariants as items
use Rattle.elf_ident.specs.elf_xlate.Fields.{fits}
use Rattle.elf_ident.specs.elf_xlate.Headers.{ehdr_fits, phdr_fits, shdr_fits}
use Rattle.elf_ident.specs.elf_xlate.Items.{sym_fits, rel_fits, rela_fits, dyn_fits}
use Rattle.elf_ident.specs.elf_xlate.Translation.{first_unfit, items_kind}
use Rattle.elf_types.specs.Answers.{refused_if, first_refusal, answered, err_of}
use Rattle.elf_object.specs.Words.{Wants}
use Rattle.elf_object.specs.Object.{Object, section_at, piece_at, header_of}
use Rattle.elf_object.specs.Answers.{no_section, no_data, no_entry, reserved, items_at, kind_at, piece_count, flags_of, entry_answer, piece_refusal, part_refusal, data_refusal, raw_refusal, lend_refusal, item_refusal, halves_of, words_of, addrs_of, syms_of, rels_of, relas_of, dyns_of, has_dirty}
use Rattle.elf_object.specs.Steps.{stored_ehdr, with_ehdr, with_phdrs, with_phdr, with_new_phdrs, with_shdr, with_new_section, new_number, with_null_section, with_new_piece, with_own, with_flags, with_fill}
use Rattle.elf_object.specs.Layout.{placed}
use Rattle.elf_object.specs.Image.{image_length}
use Rattle.elf_object.specs.Refusal.{refusal}
use Rattle.elf_object.specs.Due.{is_loaded, holds_items, homes_due, unless_refused, when_piece_clean}

-- a call that answers an A: its answer, the object that an Ok leaves, the sections whose homes it
-- may read, and whether it may want memory, by which sections are loaded and which home pieces hold
-- their items
pub record Call (A : Type 0) : Type 0 where
  pub answer : Object → Result A ElfError
  pub after : Object → Object
  pub reads : Object → List ℕ
  pub memory : Object → List Bool → List Bool → Bool

-- the object after a call: a refused one leaves it
abbrev pub after_answer : {A : Type 0} → Result A ElfError → Object → Object → Object
after_answer (Ok x) old stepped = stepped
after_answer (Err e) old stepped = old

unfoldable pub step : {A : Type 0} → Call A → Object → Object
step c o = after_answer (c.answer o) o (c.after o)

-- how many bytes a call may ask its source for at most
abbrev pub due : {A : Type 0} → Call A → Object → List Bool → ℕ
due c o loaded = homes_due o loaded (c.reads o)

-- whether Memory and Read may come in it
abbrev pub wants : {A : Type 0} → Call A → Object → List Bool → List Bool → Wants
wants c o loaded held = record { memory = c.memory o loaded held; read = nat_lt 0 (due c o loaded) }

-- a call that takes no memory
abbrev pub no_memory : Object → List Bool → List Bool → Bool
no_memory o loaded held = false

-- one that may want some whatever is held
abbrev pub some_memory : Object → List Bool → List Bool → Bool
some_memory o loaded held = true

-- one that takes none on a piece that holds its items
abbrev pub unless_held : ℕ → ℕ → Object → List Bool → List Bool → Bool
unless_held s p o loaded held = not (holds_items o held s p)

-- the home that a call on a piece may read: none where it is refused before it reads, or where the
-- piece is own
abbrev pub piece_reads : {A : Type 0} → ℕ → ℕ → Object → Result A ElfError → List ℕ
piece_reads s p o answer = unless_refused (err_of answer) (when_piece_clean o s p)

-- ---- Calls that change nothing

-- it reads nothing
abbrev pub getter : {A : Type 0} → (Object → Result A ElfError) → Call A
getter answer = record { answer = answer; after = λ o. o; reads = λ o. []; memory = no_memory }

-- it looks at the items of a piece
abbrev pub reader : {A : Type 0} → ℕ → ℕ → (Object → Result A ElfError) → Call A
reader s p answer = record {
  answer = answer;
  after = λ o. o;
  reads = λ o. piece_reads s p o (answer o);
  memory = unless_held s p;
}

-- gelf_getehdr, elf_getphdrnum, elf_getshdrnum, elf_getshdrstrndx
abbrev pub ehdr : Call Ehdr
ehdr = getter (λ o. Ok (header_of o))

abbrev pub phnum : Call ℕ
phnum = getter (λ o. Ok (length o.phdrs))

abbrev pub shnum : Call ℕ
shnum = getter (λ o. Ok (length o.sections))

abbrev pub shstrndx : Call ℕ
shstrndx = getter (λ o. Ok o.header.shstrndx)

-- gelf_getphdr
unfoldable pub phdr_answer : Object → ℕ → Result Phdr ElfError
phdr_answer o i = entry_answer None o.phdrs i

abbrev pub phdr : ℕ → Call Phdr
phdr i = getter (λ o. phdr_answer o i)

-- gelf_getshdr
unfoldable pub shdr_answer : Object → ℕ → Result Shdr ElfError
shdr_answer o s = answered (no_section o s) (section_at o s).header

abbrev pub shdr : ℕ → Call Shdr
shdr s = getter (λ o. shdr_answer o s)

-- how many pieces a section has
unfoldable pub pieces_answer : Object → ℕ → Result ℕ ElfError
pieces_answer o s = answered (no_section o s) (piece_count o s)

abbrev pub pieces : ℕ → Call ℕ
pieces s = getter (λ o. pieces_answer o s)

-- the place and the length of a section's home
unfoldable pub home_answer : Object → ℕ → Result (ℕ × ℕ) ElfError
home_answer o s = answered (no_section o s) ((section_at o s).home.at, (section_at o s).home.len)

abbrev pub home : ℕ → Call (ℕ × ℕ)
home s = getter (λ o. home_answer o s)

unfoldable pub piece_kind_answer : Object → ℕ → ℕ → Result Kind ElfError
piece_kind_answer o s p = answered (piece_refusal o s p) (kind_at o s p)

abbrev pub piece_kind : ℕ → ℕ → Call Kind
piece_kind s p = getter (λ o. piece_kind_answer o s p)

unfoldable pub piece_align_answer : Object → ℕ → ℕ → Result ℕ ElfError
piece_align_answer o s p = answered (piece_refusal o s p) (piece_at o s p).align

abbrev pub piece_align : ℕ → ℕ → Call ℕ
piece_align s p = getter (λ o. piece_align_answer o s p)

unfoldable pub flags_answer : Object → Part → Result ℕ ElfError
flags_answer o part = answered (part_refusal o part) (flags_of o part)

abbrev pub flags : Part → Call ℕ
flags part = getter (λ o. flags_answer o part)

-- the fill byte
abbrev pub fill : Call ℕ
fill = getter (λ o. Ok o.fill)

-- elf_getdata
unfoldable pub data_answer : Object → ℕ → ℕ → Result Items ElfError
data_answer o s p = answered (data_refusal o s p) (items_at o s p)

abbrev pub section_data : ℕ → ℕ → Call Items
section_data s p = reader s p (λ o. data_answer o s p)

-- elf_rawdata: the home's bytes, whatever was edited
unfoldable pub raw_answer : Object → ℕ → Result (List ℕ) ElfError
raw_answer o s = answered (raw_refusal o s) (section_at o s).raw

abbrev pub raw : ℕ → Call (List ℕ)
raw s = record {
  answer = λ o. raw_answer o s;
  after = λ o. o;
  reads = λ o. unless_refused (err_of (raw_answer o s)) (s ∷ []);
  memory = λ o loaded held. not (is_loaded loaded s);
}

-- ---- Items (gelf_getsym and its like)

unfoldable pub half_answer : Object → ℕ → ℕ → ℕ → Result ℕ ElfError
half_answer o s p i = entry_answer (lend_refusal o kinds.Half s p) (halves_of (items_at o s p)) i

unfoldable pub word_answer : Object → ℕ → ℕ → ℕ → Result ℕ ElfError
word_answer o s p i = entry_answer (lend_refusal o kinds.Word s p) (words_of (items_at o s p)) i

unfoldable pub addr_answer : Object → ℕ → ℕ → ℕ → Result ℕ ElfError
addr_answer o s p i = entry_answer (lend_refusal o kinds.Addr s p) (addrs_of (items_at o s p)) i

unfoldable pub sym_answer : Object → ℕ → ℕ → ℕ → Result Sym ElfError
sym_answer o s p i = entry_answer (lend_refusal o kinds.Sym s p) (syms_of (items_at o s p)) i

unfoldable pub rel_answer : Object → ℕ → ℕ → ℕ → Result Rel ElfError
rel_answer o s p i = entry_answer (lend_refusal o kinds.Rel s p) (rels_of (items_at o s p)) i

unfoldable pub rela_answer : Object → ℕ → ℕ → ℕ → Result Rela ElfError
rela_answer o s p i = entry_answer (lend_refusal o kinds.Rela s p) (relas_of (items_at o s p)) i

unfoldable pub dyn_answer : Object → ℕ → ℕ → ℕ → Result Dyn ElfError
dyn_answer o s p i = entry_answer (lend_refusal o kinds.Dyn s p) (dyns_of (items_at o s p)) i

abbrev pub half : ℕ → ℕ → ℕ → Call ℕ
half s p i = reader s p (λ o. half_answer o s p i)

abbrev pub word : ℕ → ℕ → ℕ → Call ℕ
word s p i = reader s p (λ o. word_answer o s p i)

abbrev pub addr : ℕ → ℕ → ℕ → Call ℕ
addr s p i = reader s p (λ o. addr_answer o s p i)

abbrev pub sym : ℕ → ℕ → ℕ → Call Sym
sym s p i = reader s p (λ o. sym_answer o s p i)

abbrev pub rel : ℕ → ℕ → ℕ → Call Rel
rel s p i = reader s p (λ o. rel_answer o s p i)

abbrev pub rela : ℕ → ℕ → ℕ → Call Rela
rela s p i = reader s p (λ o. rela_answer o s p i)

abbrev pub dynent : ℕ → ℕ → ℕ → Call Dyn
dynent s p i = reader s p (λ o. dyn_answer o s p i)

-- ---- Edits that read nothing

abbrev pub edit_with : {A : Type 0} → (Object → List Bool → List Bool → Bool)
    → (Object → Option ElfError) → (Object → A) → (Object → Object) → Call A
edit_with memory refusal value after = record {
  answer = λ o. answered (refusal o) (value o);
  after = after;
  reads = λ o. [];
  memory = memory;
}

-- one that takes no memory
abbrev pub edit : {A : Type 0} → (Object → Option ElfError) → (Object → A) → (Object → Object)
    → Call A
edit refusal value after = edit_with no_memory refusal value after

-- one that makes a list longer
abbrev pub growth : {A : Type 0} → (Object → Option ElfError) → (Object → A) → (Object → Object)
    → Call A
growth refusal value after = edit_with some_memory refusal value after

abbrev pub done : Object → Unit {0}
done o = tt

-- gelf_update_ehdr: the string index is 0 or below the section count
unfoldable pub update_ehdr_refusal : Object → Ehdr → Option ElfError
update_ehdr_refusal o h = first_refusal
    (refused_if
    (not (h.shstrndx == 0) && nat_le (length o.sections) h.shstrndx)
    (NoSection h.shstrndx (length o.sections))
    ∷ refused_if (not (ehdr_fits (stored_ehdr o.header h))) (Unfit part.Header 0)
    ∷ [])

abbrev pub update_ehdr : Ehdr → Call (Unit {0})
update_ehdr h = edit (λ o. update_ehdr_refusal o h) done (λ o. with_ehdr o h)

-- gelf_update_phdr
unfoldable pub update_phdr_refusal : Object → ℕ → Phdr → Option ElfError
update_phdr_refusal o i p = first_refusal
    (no_entry i (length o.phdrs)
    ∷ refused_if (not (phdr_fits o.header.class p)) (Unfit part.Segments i)
    ∷ [])

abbrev pub update_phdr : ℕ → Phdr → Call (Unit {0})
update_phdr i p = edit (λ o. update_phdr_refusal o i p) done (λ o. with_phdr o i p)

-- gelf_newphdr: a count that e_phnum holds (PN_XNUM)
abbrev pub newphdr_refusal : ℕ → Option ElfError
newphdr_refusal n = refused_if (nat_le PN_XNUM n) TooMany

abbrev pub newphdr : ℕ → Call (Unit {0})
newphdr n = growth (λ o. newphdr_refusal n) done (λ o. with_new_phdrs o n)

-- the program headers lent for writing, and what the borrower left
abbrev pub phdrs_mut : List Phdr → Call (Unit {0})
phdrs_mut left = edit (λ o. None) done (λ o. with_phdrs o left)

-- gelf_update_shdr
unfoldable pub update_shdr_refusal : Object → ℕ → Shdr → Option ElfError
update_shdr_refusal o s h = first_refusal
    (no_section o s
    ∷ reserved s
    ∷ refused_if (not (shdr_fits o.header.class h)) (Unfit (part.Section s) 0)
    ∷ [])

abbrev pub update_shdr : ℕ → Shdr → Call (Unit {0})
update_shdr s h = edit (λ o. update_shdr_refusal o s h) done (λ o. with_shdr o s h)

-- elf_newscn: at most 2^20 sections
abbrev pub newscn_refusal : Object → Option ElfError
newscn_refusal o = refused_if (nat_le MAX_SECTIONS (length o.sections)) TooMany

abbrev pub newscn : Call ℕ
newscn = growth newscn_refusal new_number with_new_section

abbrev pub newnull : Call (Unit {0})
newnull = edit_with (λ o loaded held. length o.sections == 0) (λ o. None) done with_null_section

-- an alignment of a piece is a power of two and at most 2^20
unfoldable pub is_piece_align : ℕ → Bool
is_piece_align align = is_power_of_two align && nat_le align MAX_PIECE_ALIGN

-- items that do not fit, as the piece with that number
abbrev pub unfit_items : Object → ℕ → ℕ → Items → Option ElfError
unfit_items o s p items =
    elim (first_unfit o.header.class items) [
      | None ↦ None
      | Some i ↦ Some (Unfit (part.Piece s p) i)
    ]

-- elf_newdata: at most 2^20 pieces
unfoldable pub newdata_refusal : Object → ℕ → Items → ℕ → Option ElfError
newdata_refusal o s items align = first_refusal
    (no_section o s
    ∷ reserved s
    ∷ refused_if (nat_le MAX_PIECES (piece_count o s)) TooMany
    ∷ refused_if (not (is_piece_align align)) (BadAlign align)
    ∷ unfit_items o s (piece_count o s) items
    ∷ [])

-- the section and the number of the new piece
abbrev pub newdata_aligned : ℕ → Items → ℕ → Call (ℕ × ℕ)
newdata_aligned s items align =
    growth
    (λ o. newdata_refusal o s items align)
    (λ o. (s, piece_count o s))
    (λ o. with_new_piece o s items align)

abbrev pub newdata : ℕ → Items → Call (ℕ × ℕ)
newdata s items = newdata_aligned s items 1

abbrev pub set_fill : ℕ → Call (Unit {0})
set_fill byte = edit (λ o. None) done (λ o. with_fill o byte)

unfoldable pub replace_refusal : Object → ℕ → ℕ → Items → Option ElfError
replace_refusal o s p items =
    first_refusal (no_section o s ∷ reserved s ∷ no_data o s p ∷ unfit_items o s p items ∷ [])

abbrev pub replace : ℕ → ℕ → Items → Call (Unit {0})
replace s p items = edit (λ o. replace_refusal o s p items) done (λ o. with_own o s p items)

-- elf_flagelf and its like: a dirty mark is not cleared
unfoldable pub flag_refusal : Object → Part → Bool → ℕ → Option ElfError
flag_refusal o part set bits =
    first_refusal (part_refusal o part ∷ refused_if (not set && has_dirty bits) FlagKept ∷ [])

-- it answers the flags that the part has then
abbrev pub flag : Part → Bool → ℕ → Call ℕ
flag part set bits =
    edit
    (λ o. flag_refusal o part set bits)
    (λ o. flags_of (with_flags o part set bits) part)
    (λ o. with_flags o part set bits)

-- elf_update with ELF_C_NULL: the length of the image
abbrev pub update_null : Call ℕ
update_null = growth refusal image_length placed

-- ---- Edits of items

-- items lent for writing, and what the borrower left: those of the kind of what is left are lent
abbrev pub lend : ℕ → ℕ → Items → Call Items
lend s p left = record {
  answer = λ o. answered (lend_refusal o (items_kind left) s p) (items_at o s p);
  after = λ o. with_own o s p left;
  reads = λ o. unless_refused (lend_refusal o (items_kind left) s p) (when_piece_clean o s p);
  memory = unless_held s p;
}

-- gelf_update_sym and its like: the item's kind, whether the value fits the class, and the items
-- with the value stored
unfoldable pub update_item_refusal : Object → Kind → ℕ → ℕ → ℕ → Bool → Option ElfError
update_item_refusal o kind s p i fitting =
    first_refusal
    (item_refusal o kind s p i ∷ refused_if (not fitting) (Unfit (part.Piece s p) i) ∷ [])

abbrev pub update_item : Kind → ℕ → ℕ → ℕ → (Class → Bool) → (Items → Items) → Call (Unit {0})
update_item kind s p i fitting stored = record {
  answer = λ o. answered (update_item_refusal o kind s p i (fitting o.header.class)) tt;
  after = λ o. with_own o s p (stored (items_at o s p));
  reads = λ o. unless_refused (lend_refusal o kind s p) (when_piece_clean o s p);
  memory = unless_held s p;
}

abbrev pub update_half : ℕ → ℕ → ℕ → ℕ → Call (Unit {0})
update_half s p i v =
    update_item kinds.Half s p i (λ c. true) (λ l. items.Half (slice_set (halves_of l) i v))

abbrev pub update_word : ℕ → ℕ → ℕ → ℕ → Call (Unit {0})
update_word s p i v =
    update_item kinds.Word s p i (λ c. true) (λ l. items.Word (slice_set (words_of l) i v))

abbrev pub update_addr : ℕ → ℕ → ℕ → ℕ → Call (Unit {0})
update_addr s p i v =
    update_item kinds.Addr s p i (λ c. fits c v) (λ l. items.Addr (slice_set (addrs_of l) i v))

abbrev pub update_sym : ℕ → ℕ → ℕ → Sym → Call (Unit {0})
update_sym s p i v =
    update_item kinds.Sym s p i (λ c. sym_fits c v) (λ l. items.Sym (slice_set (syms_of l) i v))

abbrev pub update_rel : ℕ → ℕ → ℕ → Rel → Call (Unit {0})
update_rel s p i v =
    update_item kinds.Rel s p i (λ c. rel_fits c v) (λ l. items.Rel (slice_set (rels_of l) i v))

abbrev pub update_rela : ℕ → ℕ → ℕ → Rela → Call (Unit {0})
update_rela s p i v =
    update_item kinds.Rela s p i (λ c. rela_fits c v) (λ l. items.Rela (slice_set (relas_of l) i v))

abbrev pub update_dynent : ℕ → ℕ → ℕ → Dyn → Call (Unit {0})
update_dynent s p i v =
    update_item kinds.Dyn s p i (λ c. dyn_fits c v) (λ l. items.Dyn (slice_set (dyns_of l) i v))
