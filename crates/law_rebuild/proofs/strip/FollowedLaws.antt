-- Items that follow fit the class where those that they are made of do.
use Rattle.std.proofs.Common.{◌≡◌, ℕ, ◌+◌, ◌<◌, Bool, true, false, not, ◌&&◌, ◌||◌, List, [], ◌∷◌, length, get_or, Option, Some, None, Ok, Err, refl, sym, ap, ◌∙◌, subst, arith}
use Rattle.std.specs.Prelude.{nat_lt, slice_get, if◌then◌else◌, ◌==◌, map}
use Rattle.std.specs.List.{enumerate_from}
use Rattle.std.specs.Option.{option_map}
use Rattle.std.proofs.lemmas.Bool.{and_parts, and_from, eqb-true}
use Rattle.std.proofs.lemmas.List.{get_or_default}
use Rattle.std.proofs.lemmas.List.FromFn.{length-enumerate_from, get_or-enumerate_from}
use Rattle.std.proofs.lemmas.List.Elements.{All-map}
use Rattle.elf_types.specs.Answers.{first_refusal}
use Rattle.elf_types.specs.Kinds.{section_kind}
use Rattle.elf_types.specs.declared.records.Class.{Class}
use Rattle.elf_types.specs.declared.records.Kind.TheVariants as kinds
use Rattle.elf_types.specs.declared.records.Part.TheVariants as part
use Rattle.elf_types.specs.declared.records.Sym.{Sym}
use Rattle.elf_types.specs.declared.errors.ElfError.{ElfError}
use Rattle.elf_types.specs.declared.errors.ElfError.TheVariants.{OutOfFile, Ragged, Unfit}
use Rattle.elf_types.specs.declared.constants.TheConstants.{SHT_SYMTAB, SHN_LORESERVE}
use Rattle.hash_model.specs.elf_xlate.declared.content.Items.{Items}
use Rattle.hash_model.specs.elf_xlate.declared.content.Items.TheVariants as items
use Rattle.hash_model.specs.elf_xlate.Fields.{fits}
use Rattle.hash_model.specs.elf_xlate.Items.{sym_fits}
use Rattle.hash_model.specs.elf_xlate.Translation.{decoded, first_unfit}
use Rattle.hash_model.proofs.elf_xlate.Narrow.{decoded_fits}
use Rattle.hash_model.proofs.elf_xlate.Pieces.{all_pass, each_passes}
use Rattle.hash_model.specs.strtab_build.Table.{table}
use Rattle.hash_model.specs.elf_object.Object.{Object, Piece, absent_section, home_piece, section_at, piece_at, occupies_file, has_file_bytes}
use Rattle.hash_model.specs.elf_object.Answers.{content, or_empty, items_at, words_of, syms_of, same_kind}
use Rattle.hash_model.specs.elf_object.Refusal.{unfit_in_piece, unfit_in_section, unfit_item}
use Rattle.hash_model.specs.elf_object.Valid.{IsObject}
use Rattle.hash_model.proofs.elf_object.PassedLaws.{none_first}
use Rattle.law_object.proofs.ItemLaws.{row_none}
use Rattle.law_object.proofs.KeepLaws.{section_at_is}
use Rattle.law_object.proofs.PlaceLaws.{zero_fits}
use Rattle.law_object.proofs.StandLaws.{file_bytes_when}
use Rattle.hash_model.specs.elf_object.Sections.{is_allocated, is_of, is_loose, header_at}
use Rattle.rebuild_model.specs.Followed.{Renumbering, renumbering, renumbered, is_section_number, without_section, followed_sym, followed_extended, followed_by_word, word_counts, followed_syms, followed_words, followed_group, symbols_follow, members_follow, indexes_follow, words_for, syms_in}
use Rattle.rebuild_model.specs.Rebuilt.{renews_names, kept_names, kept_items, rebuilt_items}
use Rattle.law_rebuild.specs.Strip.Made.{FitsClass}

-- ---- Symbols

without_fits : (class : Class) (x : Sym) → sym_fits class x ≡ true
    → sym_fits class (without_section x) ≡ true
unfolding sym_fits
without_fits class x h =
    and_from (fits class 0) (fits class x.size) (zero_fits class).fits
    (and_parts (fits class x.value) (fits class x.size) h).1

followed_sym_fits : (class : Class) (m : Renumbering) (x : Sym) → sym_fits class x ≡ true
    → sym_fits class (followed_sym m x) ≡ true
unfolding followed_sym sym_fits
followed_sym_fits class m x h =
    by_test (nat_lt x.shndx SHN_LORESERVE && is_section_number m x.shndx) (renumbered m x.shndx)
  where
    by_test : (b : Bool) (place : Option ℕ) → sym_fits class (if b
        then (elim place [ None ↦ without_section x | Some new ↦ record x { shndx = new } ])
        else x) ≡ true
    by_test true None = without_fits class x h
    by_test true (Some new) = h
    by_test false place = h

followed_extended_fits : (class : Class) (m : Renumbering) (word : ℕ) (x : Sym)
    → sym_fits class x ≡ true → sym_fits class (followed_extended m word x) ≡ true
unfolding followed_extended sym_fits
followed_extended_fits class m word x h = by_place (renumbered m word)
  where
    by_test : (b : Bool) (new : ℕ)
        → sym_fits class (if b then record x { shndx = new } else x) ≡ true
    by_test true new = h
    by_test false new = h

    by_place : (place : Option ℕ) → sym_fits class (elim place [
      | None ↦ without_section x
      | Some new ↦
          if not (new == word) && nat_lt new SHN_LORESERVE then record x { shndx = new } else x
    ]) ≡ true
    by_place None = without_fits class x h
    by_place (Some new) = by_test (not (new == word) && nat_lt new SHN_LORESERVE) new

followed_by_word_fits : (class : Class) (m : Renumbering) (word : Option ℕ) (x : Sym)
    → sym_fits class x ≡ true → sym_fits class (followed_by_word m word x) ≡ true
followed_by_word_fits class m None x h = followed_sym_fits class m x h
followed_by_word_fits class m (Some word) x h = by_test (word_counts m x word)
  where
    by_test : (b : Bool)
        → sym_fits class (if b then followed_extended m word x else followed_sym m x) ≡ true
    by_test true = followed_extended_fits class m word x h
    by_test false = followed_sym_fits class m x h

-- symbols that follow fit where the symbols do
pub followed_syms_fit : (class : Class) (m : Renumbering) (words : List ℕ) (l : List Sym)
    → first_unfit class (items.Sym l) ≡ None
    → first_unfit class (items.Sym (followed_syms m words l)) ≡ None
unfolding first_unfit followed_syms
followed_syms_fit class m words l fit =
    all_pass (sym_fits class)
    (map (λ row. followed_by_word m (slice_get words row.0) row.1) (enumerate_from 0 l))
    (All-map (λ x. sym_fits class x ≡ true)
    (λ row. followed_by_word m (slice_get words row.0) row.1) (enumerate_from 0 l) (λ k d h.
    let inside : k < length l = omega (arith, h, length-enumerate_from 0 l) in
    let row : get_or (enumerate_from 0 l) k d ≡ (0 + k, get_or l k d.1) =
    get_or-enumerate_from 0 l k d inside in
    subst (λ (r : ℕ × Sym).
    sym_fits class (followed_by_word m (slice_get words r.0) r.1) ≡ true) (sym row)
    (followed_by_word_fits class m (slice_get words (0 + k)) (get_or l k d.1)
    (each_passes (sym_fits class) l k (get_or l k d.1) fit inside
    (get_or_default l k d.1 (get_or l k d.1) inside)))))

-- ---- Items of a section

syms_of_fit : (class : Class) (l : Items) → first_unfit class l ≡ None
    → first_unfit class (items.Sym (syms_of l)) ≡ None
unfolding first_unfit
syms_of_fit class items.Empty h = refl
syms_of_fit class (items.Bytes l) h = refl
syms_of_fit class (items.Half l) h = refl
syms_of_fit class (items.Word l) h = refl
syms_of_fit class (items.Addr l) h = refl
syms_of_fit class (items.Sym l) h = h
syms_of_fit class (items.Rel l) h = refl
syms_of_fit class (items.Rela l) h = refl
syms_of_fit class (items.Dyn l) h = refl

-- what a home holds fits
content_fits : (o : Object) (s : ℕ) → IsObject o
    → first_unfit o.header.class (or_empty (content o s)) ≡ None
unfolding content first_unfit
content_fits o s ok =
    by_out (section_at o s).home.out
    (decoded (section_at o s).home.kind o.header.class o.header.order (section_at o s).raw) refl
  where
    by_out : (out : Bool) (read : Option Items)
        → decoded (section_at o s).home.kind o.header.class o.header.order (section_at o s).raw
        ≡ read
        → first_unfit o.header.class (or_empty (if out then Err (OutOfFile s)
        else (elim read [ None ↦ Err (Ragged s) | Some l ↦ Ok l ]))) ≡ None
    by_out true read e = refl
    by_out false None e = refl
    by_out false (Some l) e =
        decoded_fits (section_at o s).home.kind o.header.class o.header.order
        (section_at o s).raw l (section_at_is o s ok).home.bytes e

none_mapped : (f : ℕ → ElfError) (x : Option ℕ) → option_map f x ≡ None → x ≡ None
none_mapped f None e = refl
none_mapped f (Some n) e = cc

-- what the first piece owns fits, where no piece of the section is refused
first_piece_fits : (class : Class) (s : ℕ) (l : List Piece) (owned : Items)
    → first_refusal (map (λ row. unfit_in_piece class s row.0 row.1) (enumerate_from 0 l)) ≡ None
    → (get_or l 0 home_piece).own ≡ Some owned → first_unfit class owned ≡ None
unfolding unfit_in_piece
first_piece_fits class s [] owned passed own = cc
first_piece_fits class s (p ∷ l) owned passed own =
    let first = none_first (unfit_in_piece class s 0 p)
    (map (λ row. unfit_in_piece class s row.0 row.1) (enumerate_from 1 l)) passed in
    none_mapped (Unfit (part.Piece s 0)) (first_unfit class owned)
    (sym (ap (λ (x : Option Items). elim x [
      | None ↦ None
      | Some held ↦ option_map (Unfit (part.Piece s 0)) (first_unfit class held)
    ]) own) ∙ first)

section_passes : (o : Object) (s : ℕ) → unfit_item o ≡ None → s < length o.sections
    → unfit_in_section o.header.class s (section_at o s) ≡ None
unfolding unfit_item section_at
section_passes o s passed inside =
    let at : 0 + s ≡ s = omega arith in
    sym (ap (λ (k : ℕ). unfit_in_section o.header.class k (get_or o.sections s absent_section)) at)
    ∙ row_none (unfit_in_section o.header.class) 0 o.sections s absent_section passed inside

items_fit : (o : Object) (s : ℕ) → IsObject o → FitsClass o
    → has_file_bytes s (section_at o s) ≡ true → s < length o.sections
    → first_unfit o.header.class (items_at o s 0) ≡ None
unfolding items_at piece_at unfit_in_section
items_fit o s ok fit filled inside =
    by_own (get_or (section_at o s).pieces 0 home_piece).own refl
  where
    passed : first_refusal (map (λ row. unfit_in_piece o.header.class s row.0 row.1)
        (enumerate_from 0 (section_at o s).pieces)) ≡ None
    passed =
        sym (ap (λ (b : Bool). if b then first_refusal
        (map (λ row. unfit_in_piece o.header.class s row.0 row.1)
        (enumerate_from 0 (section_at o s).pieces)) else None) filled)
        ∙ section_passes o s fit.items inside

    by_own : (own : Option Items) → (get_or (section_at o s).pieces 0 home_piece).own ≡ own
        → first_unfit o.header.class
        (elim own [ None ↦ or_empty (content o s) | Some held ↦ held ]) ≡ None
    by_own None e = content_fits o s ok
    by_own (Some held) e =
        first_piece_fits o.header.class s (section_at o s).pieces held passed e

-- ---- Items of what is made

-- a symbol table occupies the file
symbols_occupy : (o : Object) (s : ℕ) → symbols_follow o s ≡ true
    → occupies_file (header_at o s) ≡ true
unfolding symbols_follow is_loose is_of
symbols_occupy o s follows =
    let kind = same_kind (section_kind (header_at o s)) kinds.Sym in
    let loose = and_parts ((header_at o s).stype == SHT_SYMTAB && kind)
    (not (is_allocated (header_at o s))) follows in
    let of = and_parts ((header_at o s).stype == SHT_SYMTAB) kind loose.0 in
    ap (λ (t : ℕ). not (t == 0 || t == 8)) (eqb-true (header_at o s).stype SHT_SYMTAB of.0)

kept_items_fit : (o : Object) (removed : List ℕ) (s : ℕ) → IsObject o → FitsClass o → 0 < s
    → s < length o.sections → first_unfit o.header.class (kept_items o removed s) ≡ None
unfolding kept_items first_unfit
kept_items_fit o removed s ok fit from inside =
    by_tests (symbols_follow o s) (members_follow o s) (indexes_follow o removed s) refl
  where
    by_tests : (syms members indexes : Bool) → symbols_follow o s ≡ syms
        → first_unfit o.header.class (if syms
        then items.Sym
        (followed_syms (renumbering o removed) (words_for o removed s) (syms_in o s))
        else (if members
        then items.Word (followed_group (renumbering o removed) (words_of (items_at o s 0)))
        else (if indexes
        then items.Word (followed_words (renumbering o removed)
        (syms_in o (header_at o s).link) (words_of (items_at o s 0)))
        else items.Bytes (section_at o s).raw))) ≡ None
    by_tests true members indexes follows =
        let filled = file_bytes_when s (section_at o s) from ∙ symbols_occupy o s follows in
        followed_syms_fit o.header.class (renumbering o removed) (words_for o removed s)
        (syms_in o s)
        (syms_of_fit o.header.class (items_at o s 0) (items_fit o s ok fit filled inside))
    by_tests false true indexes follows = refl
    by_tests false false true follows = refl
    by_tests false false false follows = refl

pub rebuilt_items_fit : (o : Object) (removed : List ℕ) (s : ℕ) → IsObject o → FitsClass o
    → 0 < s → s < length o.sections
    → first_unfit o.header.class (rebuilt_items o removed s) ≡ None
unfolding rebuilt_items first_unfit
rebuilt_items_fit o removed s ok fit from inside =
    by_test (renews_names o removed && s == o.header.shstrndx)
  where
    by_test : (b : Bool) → first_unfit o.header.class
        (if b then items.Bytes (table (kept_names o removed)) else kept_items o removed s) ≡ None
    by_test true = refl
    by_test false = kept_items_fit o removed s ok fit from inside
