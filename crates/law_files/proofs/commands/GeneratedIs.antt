-- The self test's object is an object (`IsObject`).
use Rattle.std.proofs.Common.{◌≡◌, ℕ, ◌+◌, ◌%◌, ◌^◌, ◌<◌, ◌≤◌, Bool, true, false, [], ◌∷◌, length, replicate, All, refl, sym, ap, ◌∙◌, subst, arith, lit<, lit≤}
use Rattle.std.specs.Prelude.{IsSome, if◌then◌else◌}
use Rattle.std.proofs.lemmas.List.Elements.{All-nil, All-cons, All-replicate}
use Rattle.elf_types.specs.declared.records.Class.TheVariants.{C64}
use Rattle.elf_types.specs.declared.records.Shdr.{Shdr}
use Rattle.elf_xlate.specs.declared.content.Items.{Items}
use Rattle.elf_xlate.specs.declared.content.Items.TheVariants as items
use Rattle.elf_xlate.specs.Headers.{IsShdr, shdr_fits, ehdr_fits}
use Rattle.elfkit_outcomes.specs.elf_ident.Front.{zero_shdr}
use Rattle.elfkit_outcomes.specs.elf_object.Object.{Object, new_section, occupies_file}
use Rattle.elfkit_outcomes.specs.elf_object.Open.{created_over}
use Rattle.elfkit_outcomes.specs.elf_object.Steps.{with_ehdr, stored_ehdr, own_piece}
use Rattle.elfkit_outcomes.specs.elf_object.Valid.{IsPiece, OthersOwn, IsSection, IsObject}
use Rattle.elfkit_outcomes.proofs.elf_object.PieceLaws.{own_piece_is, home_piece_is}
use Rattle.elfkit_outcomes.proofs.law_object.KeepLaws.{new_section_is}
use Rattle.strtab_build.specs.Table.{table}
use Rattle.elfkit_outcomes.specs.rebuild_model.Rebuilt.{made_section}
use Rattle.elfkit_outcomes.specs.rebuild_model.Generated.{generated_data, generated_symtab, generated_strtab, generated_symbol_names, generated_section_names, generated}
use Rattle.law_files.proofs.commands.TableLemmas.{section_name_places}
use Rattle.law_files.proofs.commands.RowLemmas.{length-rows, rows_all}
use Rattle.law_files.proofs.commands.GeneratedObject.{strtab, shstrtab, generated_symbols, generated_is}

-- ---- Sections that are made

made_is : (h : Shdr) (items : Items) → IsShdr h → occupies_file h ≡ true → IsSection C64 (made_section h items)
unfolding made_section shdr_fits
made_is h items is filled = record {
  header = is;
  fitting = refl;
  home = (new_section_is C64).home;
  pieces = by (occupies_file h);
  others = owned (occupies_file h);
  piece_count = few (occupies_file h);
}
  where
    by : (b : Bool) → All IsPiece (if b then own_piece items 1 ∷ [] else [])
    by true = All-cons IsPiece (own_piece items 1) [] (own_piece_is items 1 home_piece_is.align) (All-nil IsPiece)
    by false = All-nil IsPiece

    owned : (b : Bool) → OthersOwn (if b then own_piece items 1 ∷ [] else [])
    owned true = All-nil (λ p. IsSome p.own)
    owned false = tt

    few : (b : Bool) → length (if b then own_piece items 1 ∷ [] else []) ≤ 2 ^ 20
    few true = lit≤ tt
    few false = lit≤ tt

-- a header with a name, a type, flags, links, an alignment and a size of its items
header_is : (name stype flags link info align entsize : ℕ) → name < 2 ^ 32 → stype < 2 ^ 32 → flags < 2 ^ 32 → link < 2 ^ 32 → info < 2 ^ 32 → align < 2 ^ 32 → entsize < 2 ^ 32
    → IsShdr (record zero_shdr { name = name; stype = stype; flags = flags; link = link; info = info; addralign = align; entsize = entsize })
unfolding zero_shdr
header_is name stype flags link info align entsize a b c d e f g = record {
  name = a;
  stype = b;
  flags = omega arith;
  addr = omega arith;
  offset = omega arith;
  size = omega arith;
  link = d;
  info = e;
  addralign = omega arith;
  entsize = omega arith;
}

-- ---- The sections

module _ (n : ℕ) (small : n ≤ 60000) where
  data_is : (i : ℕ) → 1 ≤ i → i ≤ n → IsSection C64 (generated_data n i)
  unfolding generated_data zero_shdr
  data_is i from upto =
      let places = section_name_places n (omega arith) in
      made_is _ (items.Bytes (replicate (i % 7 + 1) (i % 256))) (header_is _ 1 2 0 0 1 0 (places.numbered i from upto) (lit< tt) (lit< tt) (lit< tt) (lit< tt) (lit< tt) (lit< tt)) refl

  symtab_is : IsSection C64 (generated_symtab n)
  unfolding generated_symtab zero_shdr
  symtab_is =
      let places = section_name_places n (omega arith) in
      made_is _ (items.Sym (generated_symbols n)) (header_is _ 2 0 (n + 2) 1 8 24 places.symtab (lit< tt) (lit< tt) (omega arith) (lit< tt) (lit< tt) (lit< tt)) refl

  strtab_is : IsSection C64 (strtab n)
  unfolding generated_strtab zero_shdr
  strtab_is =
      let places = section_name_places n (omega arith) in
      made_is _ (items.Bytes (table (generated_symbol_names n))) (header_is _ 3 0 0 0 1 0 places.strtab (lit< tt) (lit< tt) (lit< tt) (lit< tt) (lit< tt) (lit< tt)) refl

  shstrtab_is : IsSection C64 (shstrtab n)
  unfolding generated_strtab zero_shdr
  shstrtab_is =
      let places = section_name_places n (omega arith) in
      made_is _ (items.Bytes (table (generated_section_names n))) (header_is _ 3 0 0 0 1 0 places.shstrtab (lit< tt) (lit< tt) (lit< tt) (lit< tt) (lit< tt) (lit< tt)) refl

  sections_are : All (IsSection C64) (generated n).sections
  sections_are =
      subst (λ (o : Object). All (IsSection C64) o.sections) (sym (generated_is n))
      (rows_all new_section (generated_data n) (IsSection C64) n (generated_symtab n) (strtab n) (shstrtab n) (new_section_is C64) data_is symtab_is strtab_is shstrtab_is)

  count : length (generated n).sections ≡ n + 4
  count = ap (λ (o : Object). length o.sections) (generated_is n) ∙ length-rows new_section (generated_data n) n (generated_symtab n) (strtab n) (shstrtab n)

  -- ---- The object

  pub generated_object : IsObject (generated n)
  unfolding generated with_ehdr stored_ehdr created_over ehdr_fits
  generated_object = record {
    header = record {
      osabi = lit< tt;
      abiversion = lit< tt;
      etype = lit< tt;
      machine = lit< tt;
      version = lit< tt;
      entry = lit< tt;
      phoff = lit< tt;
      shoff = lit< tt;
      flags = lit< tt;
      ehsize = lit< tt;
      phentsize = lit< tt;
      phnum = lit< tt;
      shentsize = lit< tt;
      shnum = omega (arith, count);
      shstrndx = omega arith;
    };
    fitting = refl;
    phnum = refl;
    shnum = refl;
    pad = refl;
    pad_bytes = All-replicate (λ k. k < 2 ^ 8) 7 0 (lit< tt);
    phdr_count = lit≤ tt;
    sections = sections_are;
    section_count = omega (arith, count);
    string_index = λ none. absurd (omega (arith, count, ap length none));
    base = All-nil (λ k. k < 2 ^ 8);
    base_length = lit< tt;
    fill = lit< tt;
  }
