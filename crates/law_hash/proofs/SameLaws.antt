-- Objects in which a section is the same: its items, its strings, and the names of its symbols.
use Rattle.std.proofs.Common.{◌≡◌, ◌≢◌, ◌-◌, ◌^◌, ◌==◌, ◌&&◌, ◌⊎◌, inl, inr, ℕ, Bool, true, false, not, List, [], ◌∷◌, length, map, Option, Some, None, is_none, Result, Ok, Err, refl, sym, ap, ◌∙◌}
use Rattle.std.specs.Prelude.{filter, min, nat_le, slice_get, if◌then◌else◌}
use Rattle.std.specs.List.{enumerate_from}
use Rattle.std.proofs.lemmas.Bool.{and_left, cases_eq, ne_eqb}
use Rattle.elf_types.specs.Answers.{refused_if, first_refusal, answered}
use Rattle.elf_types.specs.declared.constants.TheConstants.{SHT_STRTAB}
use Rattle.elf_types.specs.declared.records.Class.{Class}
use Rattle.elf_types.specs.declared.records.Ehdr.{Ehdr}
use Rattle.elf_types.specs.declared.records.Kind.{Kind}
use Rattle.elf_types.specs.declared.records.Order.{Order}
use Rattle.elf_types.specs.declared.records.Sym.{Sym}
use Rattle.elf_types.specs.declared.errors.ElfError.{ElfError}
use Rattle.elf_types.specs.declared.errors.ElfError.TheVariants.{NoSection, OutOfFile, Ragged, NotStrings, NoString, Unended}
use Rattle.elf_xlate.specs.declared.content.Items.{Items}
use Rattle.elf_xlate.specs.Translation.{decoded}
use Rattle.strtab_build.specs.Table.{string_at}
use Rattle.rebuild_model.specs.elf_object.Blocks.{Block, block_covers, stacked, last_end}
use Rattle.rebuild_model.specs.elf_object.Joined.{aligned_pieces, piece_blocks, pieces_end}
use Rattle.rebuild_model.specs.elf_object.Object.{Object, Section, section_at, home_is_clean}
use Rattle.rebuild_model.specs.elf_object.Answers.{content, items_at, syms_of}
use Rattle.rebuild_model.specs.elf_object.Strings.{holds_strings, has_nul, bytes_from, piece_over, string_refusal_unread, string_refusal, string_answer, readable, symbol_name}
use Rattle.rebuild_model.specs.elf_object.Sections.{header_at}
use Rattle.rebuild_model.specs.hash_model.Listed.{not_empty, is_defined_global, listed_name, listed_names}

-- ---- Content

-- the content of a section by what it is made of
abbrev pub content_by : ℕ → Bool → Kind → Class → Order → List ℕ → Result Items ElfError
content_by t out kind class order raw =
    if out then Err (OutOfFile t)
    else (elim (decoded kind class order raw) [
      | None ↦ Err (Ragged t)
      | Some items ↦ Ok items
    ])

pub content_as : (o : Object) (t : ℕ)
    → content o t
    ≡ content_by t (section_at o t).home.out (section_at o t).home.kind o.header.class
    o.header.order (section_at o t).raw
unfolding content
content_as o t = refl

-- ---- Strings

abbrev pub blocks_of : Class → Order → Section → List Block
blocks_of class order c = stacked 0 (aligned_pieces class order c)

abbrev over_of : List Block → ℕ → Option Block
over_of blocks offset = slice_get (filter (λ b. block_covers b offset) blocks) 0

abbrev strings_refused : ℕ → ℕ → Bool → Bool → List Block → ℕ → Option ElfError
strings_refused count t holds missing blocks offset =
    first_refusal
    (first_refusal
    (refused_if (nat_le count t) (NoSection t count)
    ∷ refused_if (not holds) (NotStrings t)
    ∷ refused_if missing (OutOfFile t)
    ∷ refused_if (is_none (over_of blocks offset))
    (NoString offset (min (last_end 0 blocks) (2 ^ 64 - 1)))
    ∷ [])
    ∷ elim (over_of blocks offset) [
      | None ↦ None
      | Some b ↦ refused_if (not (has_nul (bytes_from b offset))) (Unended offset)
    ]
    ∷ [])

-- by the number of sections, whether section t holds strings, and whether it is out of the file
abbrev pub string_of : ℕ → ℕ → Bool → Bool → List Block → ℕ → Result (List ℕ) ElfError
string_of count t holds missing blocks offset =
    answered (strings_refused count t holds missing blocks offset)
    (elim (over_of blocks offset) [
      | None ↦ []
      | Some b ↦ string_at b.bytes (offset - b.at)
    ])

abbrev pub is_missing : Section → Bool
is_missing c = home_is_clean c && c.home.out

pub string_by : (o : Object) (t offset : ℕ)
    → string_answer o t offset
    ≡ string_of (length o.sections) t (holds_strings (section_at o t))
    (is_missing (section_at o t)) (blocks_of o.header.class o.header.order (section_at o t)) offset
unfolding string_answer string_refusal string_refusal_unread piece_over pieces_end piece_blocks
string_by o t offset = refl

-- a section that holds no strings names nothing
unnamed : (count t : ℕ) (missing : Bool) (blocks : List Block) (offset : ℕ)
    → readable (string_of count t false missing blocks offset) ≡ None
unnamed count t missing blocks offset = by (nat_le count t)
  where
    rest : List (Option ElfError)
    rest =
        refused_if missing (OutOfFile t)
        ∷ refused_if (is_none (over_of blocks offset))
        (NoString offset (min (last_end 0 blocks) (2 ^ 64 - 1)))
        ∷ []

    last : Option ElfError
    last = elim (over_of blocks offset) [
      | None ↦ None
      | Some b ↦ refused_if (not (has_nul (bytes_from b offset))) (Unended offset)
    ]

    value : List ℕ
    value = elim (over_of blocks offset) [
      | None ↦ []
      | Some b ↦ string_at b.bytes (offset - b.at)
    ]

    by : (b : Bool) → readable (answered (first_refusal
        (first_refusal (refused_if b (NoSection t count) ∷ refused_if (not false) (NotStrings t)
        ∷ rest) ∷ last ∷ [])) value) ≡ None
    by true = refl
    by false = refl

pub no_strings : (c : Section) → c.header.stype ≢ SHT_STRTAB → holds_strings c ≡ false
unfolding holds_strings
no_strings c other =
    and_left (c.header.stype == SHT_STRTAB) _ (ne_eqb c.header.stype SHT_STRTAB other)

pub no_string_at : (o : Object) (t offset : ℕ) → (header_at o t).stype ≢ SHT_STRTAB
    → readable (string_answer o t offset) ≡ None
no_string_at o t offset other =
    let blocks = blocks_of o.header.class o.header.order (section_at o t) in
    ap readable (string_by o t offset)
    ∙ ap (λ (b : Bool). readable (string_of (length o.sections) t b (is_missing (section_at o t))
    (blocks_of o.header.class o.header.order (section_at o t)) offset))
    (no_strings (section_at o t) other)
    ∙ unnamed (length o.sections) t (is_missing (section_at o t))
    (blocks_of o.header.class o.header.order (section_at o t)) offset

-- ---- Names

-- a table's strings are named alike
pub record StringsAlike (o p : Object) (s : ℕ) : Type 0 where
  pub link : (header_at p s).link ≡ (header_at o s).link
  pub strings : (offset : ℕ) → readable (string_answer p (header_at o s).link offset)
      ≡ readable (string_answer o (header_at o s).link offset)

map_same : {X Y : Type 0} (f g : X → Y) → ((x : X) → f x ≡ g x) → (l : List X) → map f l ≡ map g l
map_same f g each [] = refl
map_same f g each (x ∷ l) =
    ap (λ y. y ∷ map f l) (each x) ∙ ap (λ m. g x ∷ m) (map_same f g each l)

module _ (o p : Object) (s : ℕ) (alike : StringsAlike o p s) where
  name_alike : (x : Sym) → symbol_name p s x ≡ symbol_name o s x
  unfolding symbol_name
  name_alike x =
      ap (λ (t : ℕ). readable (string_answer p t x.name)) alike.link ∙ alike.strings x.name

  pub listed_alike : (i : ℕ) (x : Sym) → listed_name p s i x ≡ listed_name o s i x
  unfolding listed_name
  listed_alike i x =
      ap (λ (name : Option (List ℕ)).
      if not (i == 0) && is_defined_global x then not_empty name else None) (name_alike x)

  pub names_alike : items_at p s 0 ≡ items_at o s 0 → listed_names p s ≡ listed_names o s
  unfolding listed_names
  names_alike items =
      ap (λ (l : Items). map (λ row. listed_name p s row.0 row.1) (enumerate_from 0 (syms_of l)))
      items
      ∙ map_same (λ row. listed_name p s row.0 row.1) (λ row. listed_name o s row.0 row.1)
      (λ row. listed_alike row.0 row.1) (enumerate_from 0 (syms_of (items_at o s 0)))

-- ---- Objects with the same strings

-- two objects of one header and the same program headers, with as many sections of the same types
-- and links, and the same string tables
pub record SameStrings (o p : Object) : Type 0 where
  pub header : p.header ≡ o.header
  pub phdrs : p.phdrs ≡ o.phdrs
  pub count : length p.sections ≡ length o.sections
  pub stype : (t : ℕ) → (header_at p t).stype ≡ (header_at o t).stype
  pub link : (t : ℕ) → (header_at p t).link ≡ (header_at o t).link
  pub strings : (t : ℕ) → (header_at o t).stype ≡ SHT_STRTAB → section_at p t ≡ section_at o t

pub strings_stay : (o : Object) → SameStrings o o
strings_stay o = record {
  header = refl;
  phdrs = refl;
  count = refl;
  stype = λ t. refl;
  link = λ t. refl;
  strings = λ t is. refl;
}

pub strings_both : (o p q : Object) → SameStrings o p → SameStrings p q → SameStrings o q
strings_both o p q first second = record {
  header = second.header ∙ first.header;
  phdrs = second.phdrs ∙ first.phdrs;
  count = second.count ∙ first.count;
  stype = λ t. second.stype t ∙ first.stype t;
  link = λ t. second.link t ∙ first.link t;
  strings = λ t is. second.strings t (first.stype t ∙ is) ∙ first.strings t is;
}

module _ (o p : Object) (same : SameStrings o p) where
  string_same : (t offset : ℕ)
      → readable (string_answer p t offset) ≡ readable (string_answer o t offset)
  string_same t offset = by (cases_eq (header_at o t).stype SHT_STRTAB)
    where
      by : ((header_at o t).stype ≡ SHT_STRTAB) ⊎ ((header_at o t).stype ≡ SHT_STRTAB → ⊥)
          → readable (string_answer p t offset) ≡ readable (string_answer o t offset)
      by (inl is) =
          ap readable
          (string_by p t offset
          ∙ ap (λ (h : Ehdr). string_of (length p.sections) t (holds_strings (section_at p t))
          (is_missing (section_at p t)) (blocks_of h.class h.order (section_at p t)) offset)
          same.header
          ∙ ap (λ (n : ℕ). string_of n t (holds_strings (section_at p t))
          (is_missing (section_at p t))
          (blocks_of o.header.class o.header.order (section_at p t)) offset) same.count
          ∙ ap (λ (c : Section). string_of (length o.sections) t (holds_strings c) (is_missing c)
          (blocks_of o.header.class o.header.order c) offset) (same.strings t is)
          ∙ sym (string_by o t offset))
      by (inr other) =
          no_string_at p t offset (λ is. other (sym (same.stype t) ∙ is))
          ∙ sym (no_string_at o t offset other)

  strings_named : (s : ℕ) → StringsAlike o p s
  strings_named s = record { link = same.link s; strings = string_same (header_at o s).link }

  pub listed_same : (s i : ℕ) (x : Sym) → listed_name p s i x ≡ listed_name o s i x
  listed_same s i x = listed_alike o p s (strings_named s) i x

  -- the same symbols have the same names
  pub names_same : (s : ℕ) → items_at p s 0 ≡ items_at o s 0
      → listed_names p s ≡ listed_names o s
  names_same s items = names_alike o p s (strings_named s) items
