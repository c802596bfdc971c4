-- The self test's image opened again: its symbols, and their names.
use Rattle.std.proofs.Common.{◌≡◌, ℕ, zero, suc, ◌+◌, ◌%◌, ◌^◌, ◌<◌, ◌≤◌, false, List, [], ◌∷◌, length, get_or, All, Option, Some, None, Ok, refl, sym, ap, ◌∙◌, subst, arith, lit<}
use Rattle.std.specs.Prelude.{map, nat_le, ◌==◌}
use Rattle.std.specs.List.{range_with_len, enumerate_from}
use Rattle.std.proofs.lemmas.Bool.{ne_eqb, lt-leb, true≢false}
use Rattle.std.proofs.lemmas.List.{length-map}
use Rattle.std.proofs.lemmas.List.Elements.{All-nil, All-cons, All-head, All-tail}
use Rattle.std.proofs.lemmas.List.FromFn.{length-enumerate_from}
use Rattle.elf_types.specs.Answers.{err_of}
use Rattle.elf_types.specs.Kinds.{section_kind, is_compressed, kind_of_type}
use Rattle.elf_types.specs.declared.errors.ElfError.{ElfError}
use Rattle.elf_types.specs.declared.records.Kind.{Kind}
use Rattle.elf_types.specs.declared.records.Kind.TheVariants as kinds
use Rattle.elf_types.specs.declared.records.Shdr.{Shdr}
use Rattle.elf_xlate.specs.declared.content.Items.{Items}
use Rattle.elf_xlate.specs.declared.content.Items.TheVariants as items
use Rattle.elf_xlate.specs.Headers.{IsPhdr}
use Rattle.elf_xlate.specs.Items.{IsSym}
use Rattle.elf_xlate.specs.Translation.{encoded, items_kind}
use Rattle.elfkit_outcomes.specs.elf_ident.Front.{zero_shdr}
use Rattle.strtab_build.specs.Table.{table, place_of}
use Rattle.elfkit_outcomes.specs.elf_object.Object.{Object, Section, Piece, section_at, piece_at, home_piece, is_null}
use Rattle.elfkit_outcomes.specs.elf_object.Open.{opened, created_over, home_of}
use Rattle.elfkit_outcomes.specs.elf_object.Answers.{content, or_empty, items_at, kind_at, piece_count, lend_refusal, no_content}
use Rattle.elfkit_outcomes.specs.elf_object.Joined.{file_bytes}
use Rattle.elfkit_outcomes.specs.elf_object.Layout.{placed_by, places_of, placed_section, placed_shdr, section_place, size_in_file}
use Rattle.elfkit_outcomes.specs.elf_object.Image.{image}
use Rattle.elfkit_outcomes.specs.elf_object.Settled.{settle, settled_section, settled_over}
use Rattle.elfkit_outcomes.specs.elf_object.Steps.{with_ehdr, stored_ehdr, own_piece}
use Rattle.elfkit_outcomes.specs.elf_object.Strings.{string_answer}
use Rattle.elfkit_outcomes.specs.elf_object.Runs.{more_sym}
use Rattle.elf_types.specs.Lists.{AreBytes}
use Rattle.elfkit_outcomes.specs.elf_object.Valid.{IsObject, IsTied, as_opened}
use Rattle.elfkit_outcomes.specs.law_object.Laws.{ReopenLaw, SettlingKeepsItems}
use Rattle.elfkit_outcomes.proofs.law_object.KeepItemLaws.{addall_keeps}
use Rattle.elfkit_outcomes.proofs.law_object.ImageLaws.{placed-dirty, section_at-placed}
use Rattle.elfkit_outcomes.proofs.law_object.StandLaws.{section_count-placed, joined-placed}
use Rattle.elfkit_outcomes.proofs.law_object.SettledLaws.{settle-dirty}
use Rattle.elfkit_outcomes.specs.rebuild_model.Rebuilt.{made_section}
use Rattle.elfkit_outcomes.specs.rebuild_model.Generated.{zero_sym, generated_sym, generated_symtab, generated_strtab, generated_symbol_names, generated, generated_and_shifted}
use Rattle.law_files.proofs.commands.NameLemmas.{numbered_symbol_name}
use Rattle.law_files.proofs.commands.TableLemmas.{symbol_placed, length-symbol_table, symbol_table_bytes}
use Rattle.elfkit_outcomes.proofs.elf_object.SettledSections.{section_at-settled}
use Rattle.law_files.proofs.commands.StringLemmas.{at_home, settled_is, content_inside, string_alone}
use Rattle.law_files.proofs.commands.GeneratedObject.{strtab, symtab_with, shifted_symbols, shifted_object, shifted_is}
use Rattle.law_files.proofs.commands.GeneratedIs.{generated_object}
use Rattle.law_files.proofs.commands.GeneratedParts.{count_is, symtab_at, strtab_at, strtab_bytes_are}
use Rattle.law_files.proofs.commands.GeneratedImage.{digits_small, refusal_passes, dirty}

-- what it is when it is opened again
pub record IsReopened (n : ℕ) (o : Object) : Type 0 where
  pub opens : opened (image (shifted_object n)) ≡ Ok o
  pub base : o.base ≡ image (shifted_object n)
  pub count : length o.sections ≡ n + 4
  pub lends : lend_refusal o kinds.Sym (n + 1) 0 ≡ None
  pub items : items_at o (n + 1) 0 ≡ items.Sym (shifted_symbols n)
  pub names : (i : ℕ) → 1 ≤ i → i ≤ n
      → string_answer o (section_at o (n + 1)).header.link (place_of (numbered_symbol_name i) (generated_symbol_names n)) ≡ Ok (numbered_symbol_name i)

-- ---- The headers that an update stores

placed_keeps : (o : Object) (s : ℕ) (h : Shdr) → (s == 0) ≡ false → is_null h ≡ false
    → placed_shdr (places_of o) o s h ≡ record h { offset = section_place (places_of o) s; size = size_in_file o s h }
unfolding placed_shdr
placed_keeps o s h some there = rw (some, there) refl

placed_header_at : (o : Object) (s : ℕ) (c : Section) → s < length o.sections → section_at o s ≡ c → (s == 0) ≡ false → is_null c.header ≡ false
    → (section_at (placed_by (places_of o) o) s).header ≡ record c.header { offset = section_place (places_of o) s; size = size_in_file o s c.header }
unfolding placed_section
placed_header_at o s c below at some there =
    ap (λ (x : Section). x.header) (section_at-placed (places_of o) o s below)
    ∙ ap (λ (x : Section). placed_shdr (places_of o) o s x.header) at
    ∙ placed_keeps o s c.header some there

-- bytes are their own lowest ones
bytes_stay : (l : List ℕ) → AreBytes l → map (λ k. k % 256) l ≡ l
bytes_stay [] each = refl
bytes_stay (b ∷ l) each =
    let small : b < 2 ^ 8 = All-head (λ k. k < 2 ^ 8) b l each in
    let here : b % 256 ≡ b = omega arith in
    let rest = bytes_stay l (All-tail (λ k. k < 2 ^ 8) b l each) in
    λ j. here j ∷ rest j

module _ (n : ℕ) (from : 1 ≤ n) (small : n ≤ 60000) (reopens : (o : Object) → ReopenLaw o) (keeps : (o : Object) → SettlingKeepsItems o) where
  is_object : IsObject (shifted_object n)
  unfolding generated_and_shifted
  is_object = subst IsObject (shifted_is n) (addall_keeps (n + 1) 0 n (generated n) (generated_object n small))

  -- the object that is opened
  abbrev pub again : Object
  again = as_opened (settled_over (image (shifted_object n)) (placed_by (places_of (shifted_object n)) (shifted_object n)))

  settled_same : settle (shifted_object n) ≡ settled_over (image (shifted_object n)) (placed_by (places_of (shifted_object n)) (shifted_object n))
  settled_same = settle-dirty (shifted_object n) (dirty n small) ∙ ap (settled_over (image (shifted_object n))) (placed-dirty (shifted_object n) (dirty n small))

  tied : IsTied (shifted_object n)
  tied clean = absurd (true≢false (sym (dirty n small) ∙ clean))

  opens_again : opened (image (shifted_object n)) ≡ Ok again
  unfolding generated with_ehdr stored_ehdr created_over
  opens_again = reopens (shifted_object n) is_object (All-nil IsPhdr) tied (refusal_passes n small) ∙ ap (λ (x : Object). Ok (as_opened x)) settled_same

  content_again : (s : ℕ) (items : Items) → content (settle (shifted_object n)) s ≡ Ok items → content again s ≡ Ok items
  unfolding content section_at
  content_again s items is = sym (ap (λ (x : Object). content x s) settled_same) ∙ is

  count_again : length again.sections ≡ n + 4
  unfolding settled_over
  count_again =
      length-map (enumerate_from 0 (placed_by (places_of (shifted_object n)) (shifted_object n)).sections) _
      ∙ length-enumerate_from 0 (placed_by (places_of (shifted_object n)) (shifted_object n)).sections
      ∙ section_count-placed (places_of (shifted_object n)) (shifted_object n) ∙ count_is n

  -- ---- The section of symbols

  symbol_range : (i : ℕ) → 1 ≤ i → i ≤ n → IsSym (more_sym n (generated_sym n i))
  unfolding generated_sym
  symbol_range i a b =
      let placed = symbol_placed n i (omega arith) a b in
      let place = placed.within in
      let size = length-symbol_table n (omega arith) in
      let digits = digits_small n in
      record {
        name = omega arith;
        info = lit< tt;
        other = lit< tt;
        shndx = omega arith;
        value = omega arith;
        size = omega arith;
      }

  symbols_range : All IsSym (shifted_symbols n)
  symbols_range =
      All-cons IsSym (more_sym n zero_sym) (map (more_sym n) (map (generated_sym n) (range_with_len 1 n)))
      (record { name = lit< tt; info = lit< tt; other = lit< tt; shndx = lit< tt; value = omega arith; size = lit< tt })
      (each 1 n (omega arith) (omega arith))
    where
      each : (a m : ℕ) → 1 ≤ a → a + m ≤ n + 1 → All IsSym (map (more_sym n) (map (generated_sym n) (range_with_len a m)))
      each a zero h k = All-nil IsSym
      each a (suc m) h k =
          All-cons IsSym (more_sym n (generated_sym n a)) (map (more_sym n) (map (generated_sym n) (range_with_len (a + 1) m))) (symbol_range a h (omega arith)) (each (a + 1) m (omega arith) (omega arith))

  symtab_content : content again (n + 1) ≡ Ok (items.Sym (shifted_symbols n))
  unfolding generated_symtab made_section zero_shdr section_kind is_compressed kind_of_type
  symtab_content =
      let count = count_is n in
      content_again (n + 1) (items.Sym (shifted_symbols n))
      (keeps (shifted_object n) (n + 1) (own_piece (items.Sym (shifted_symbols n)) 1) (items.Sym (shifted_symbols n)) is_object (refusal_passes n small) (omega arith) (omega arith)
      (ap (λ (c : Section). c.pieces) (symtab_at n)) refl symbols_range (sym (ap (λ (c : Section). section_kind c.header) (symtab_at n))) (λ e. cc))

  -- ---- Their names

  abbrev names_table : List ℕ
  names_table = table (generated_symbol_names n)

  strtab_content : content again (n + 2) ≡ Ok (items.Bytes names_table)
  unfolding generated_strtab made_section zero_shdr section_kind is_compressed kind_of_type
  strtab_content =
      let count = count_is n in
      content_again (n + 2) (items.Bytes names_table)
      (keeps (shifted_object n) (n + 2) (own_piece (items.Bytes names_table) 1) (items.Bytes names_table) is_object (refusal_passes n small) (omega arith) (omega arith)
      (ap (λ (c : Section). c.pieces) (strtab_at n)) refl (symbol_table_bytes n (omega arith)) (sym (ap (λ (c : Section). section_kind c.header) (strtab_at n))) (λ e. cc))

  -- a section as it stands in the object that is opened
  section_again : (s : ℕ) (c : Section) (kind : Kind) (items : Items) → s < n + 4 → section_at (shifted_object n) s ≡ c → (s == 0) ≡ false → is_null c.header ≡ false
      → ((offset size : ℕ) → section_kind (record c.header { offset = offset; size = size }) ≡ kind) → content again s ≡ Ok items
      → section_at again s ≡ at_home (record c.header { offset = section_place (places_of (shifted_object n)) s; size = size_in_file (shifted_object n) s c.header }) kind (file_bytes (shifted_object n) s)
  unfolding section_at settled_section
  section_again s c kind items below at some there of_kind is =
      let q = placed_by (places_of (shifted_object n)) (shifted_object n) in
      let count = count_is n in
      let many = section_count-placed (places_of (shifted_object n)) (shifted_object n) in
      let h = placed_header_at (shifted_object n) s c (omega arith) at some there in
      let settled = section_at-settled (image (shifted_object n)) q s (omega arith) in
      let inside : (home_of (length (image (shifted_object n))) (section_at q s).header).out ≡ false = ap (λ (x : Section). x.home.out) (sym settled) ∙ content_inside again s items is in
      settled
      ∙ settled_is (length (image (shifted_object n))) (file_bytes q s) (section_at q s).header kind (ap section_kind h ∙ of_kind (section_place (places_of (shifted_object n)) s) (size_in_file (shifted_object n) s c.header)) inside
      ∙ ap (λ (x : Shdr). at_home x kind (file_bytes q s)) h
      ∙ ap (at_home (record c.header { offset = section_place (places_of (shifted_object n)) s; size = size_in_file (shifted_object n) s c.header }) kind) (joined-placed (places_of (shifted_object n)) (shifted_object n) s)

  symtab_again : section_at again (n + 1) ≡ at_home (record (generated_symtab n).header { offset = section_place (places_of (shifted_object n)) (n + 1); size = size_in_file (shifted_object n) (n + 1) (generated_symtab n).header }) kinds.Sym (file_bytes (shifted_object n) (n + 1))
  unfolding generated_symtab made_section zero_shdr section_kind is_compressed kind_of_type
  symtab_again =
      section_again (n + 1) (symtab_with n (shifted_symbols n)) kinds.Sym (items.Sym (shifted_symbols n)) (omega arith) (symtab_at n) (ne_eqb (n + 1) 0 (λ e. omega arith)) refl (λ offset size. refl) symtab_content

  strtab_again : section_at again (n + 2) ≡ at_home (record (strtab n).header { offset = section_place (places_of (shifted_object n)) (n + 2); size = size_in_file (shifted_object n) (n + 2) (strtab n).header }) kinds.Bytes (file_bytes (shifted_object n) (n + 2))
  unfolding generated_strtab made_section zero_shdr section_kind is_compressed kind_of_type
  strtab_again =
      section_again (n + 2) (strtab n) kinds.Bytes (items.Bytes names_table) (omega arith) (strtab_at n) (ne_eqb (n + 2) 0 (λ e. omega arith)) refl (λ offset size. refl) strtab_content

  -- ---- What the calls on it answer

  piece_again : piece_at again (n + 1) 0 ≡ home_piece
  unfolding piece_at
  piece_again = ap (λ (c : Section). get_or c.pieces 0 home_piece) symtab_again

  items_again : items_at again (n + 1) 0 ≡ items.Sym (shifted_symbols n)
  unfolding items_at
  items_again =
      ap (λ (p : Piece). elim (p.own) [ None ↦ or_empty (content again (n + 1)) | Some l ↦ l ]) piece_again ∙ ap or_empty symtab_content

  kind_again : kind_at again (n + 1) 0 ≡ kinds.Sym
  unfolding kind_at
  kind_again =
      ap (λ (p : Piece). elim (p.own) [ None ↦ (section_at again (n + 1)).home.kind | Some l ↦ items_kind l ]) piece_again ∙ ap (λ (c : Section). c.home.kind) symtab_again

  held_again : no_content again (n + 1) 0 ≡ None
  unfolding no_content
  held_again =
      ap {B = Option ElfError} (λ (p : Piece). elim (p.own) [ None ↦ err_of (content again (n + 1)) | Some l ↦ None ]) piece_again ∙ ap err_of symtab_content

  lends_again : lend_refusal again kinds.Sym (n + 1) 0 ≡ None
  unfolding lend_refusal piece_count
  lends_again =
      let count = count_again in
      let inside : nat_le (length again.sections) (n + 1) ≡ false = lt-leb (length again.sections) (n + 1) (omega arith) in
      let one : length (section_at again (n + 1)).pieces ≡ 1 = ap (λ (c : Section). length c.pieces) symtab_again in
      rw (inside, one, kind_again, held_again) refl

  link_again : (section_at again (n + 1)).header.link ≡ n + 2
  unfolding generated_symtab made_section
  link_again = ap (λ (c : Section). c.header.link) symtab_again

  strings_again : section_at again (n + 2) ≡ at_home (record (strtab n).header { offset = section_place (places_of (shifted_object n)) (n + 2); size = size_in_file (shifted_object n) (n + 2) (strtab n).header }) kinds.Bytes names_table
  unfolding encoded
  strings_again =
      strtab_again
      ∙ ap (at_home (record (strtab n).header { offset = section_place (places_of (shifted_object n)) (n + 2); size = size_in_file (shifted_object n) (n + 2) (strtab n).header }) kinds.Bytes)
      (strtab_bytes_are n ∙ bytes_stay names_table (symbol_table_bytes n (omega arith)))

  names_again : (i : ℕ) → 1 ≤ i → i ≤ n → string_answer again (section_at again (n + 1)).header.link (place_of (numbered_symbol_name i) (generated_symbol_names n)) ≡ Ok (numbered_symbol_name i)
  unfolding generated_strtab made_section
  names_again i a b =
      let placed = symbol_placed n i (omega arith) a b in
      let count = count_again in
      ap (λ (s : ℕ). string_answer again s (place_of (numbered_symbol_name i) (generated_symbol_names n))) link_again
      ∙ string_alone again (n + 2) (record (strtab n).header { offset = section_place (places_of (shifted_object n)) (n + 2); size = size_in_file (shifted_object n) (n + 2) (strtab n).header }) names_table strings_again (omega arith) refl
      (place_of (numbered_symbol_name i) (generated_symbol_names n)) placed.within placed.ends
      ∙ ap Ok placed.reads

  pub reopened : IsReopened n again
  unfolding settled_over
  reopened = record {
    opens = opens_again;
    base = refl;
    count = count_again;
    lends = lends_again;
    items = items_again;
    names = names_again;
  }
