-- Symbols that follow fit their class: the value of one stays or becomes 0, and its size stays.
use Rattle.std.proofs.Common.{◌≡◌, ◌+◌, ◌<◌, ℕ, Bool, true, false, List, length, map, get_or, Option, Some, None, refl, sym, subst, arith}
use Rattle.std.specs.Prelude.{slice_get, if◌then◌else◌}
use Rattle.std.specs.List.{enumerate_from}
use Rattle.std.proofs.lemmas.Bool.{and_parts, and_from}
use Rattle.std.proofs.lemmas.List.{get_or_default}
use Rattle.std.proofs.lemmas.List.Elements.{All-map}
use Rattle.std.proofs.lemmas.List.FromFn.{get_or-enumerate_from, length-enumerate_from}
use Rattle.elf_types.specs.declared.records.Class.{Class}
use Rattle.elf_types.specs.declared.records.Class.TheVariants.{C32, C64}
use Rattle.elf_types.specs.declared.records.Sym.{Sym}
use Rattle.rebuild_names.specs.elf_xlate.declared.content.Items.{Items}
use Rattle.rebuild_names.specs.elf_xlate.declared.content.Items.TheVariants as items
use Rattle.rebuild_names.specs.elf_xlate.Fields.{fits}
use Rattle.rebuild_names.specs.elf_xlate.Items.{sym_fits}
use Rattle.rebuild_names.specs.elf_xlate.Translation.{first_unfit}
use Rattle.rebuild_names.proofs.elf_xlate.Pieces.{all_pass, each_passes}
use Rattle.rebuild_making.specs.elf_object.Answers.{syms_of}
use Rattle.rebuild_making.specs.rebuild_model.Followed.{Renumbering, renumbered, followed_sym, followed_extended, followed_by_word, followed_syms, word_counts, without_section}
use Rattle.rebuild_numbers.specs.Rows.{has_number, sym_in_section, moves_in, moved_sym}

-- ---- One symbol

zero_fits : (class : Class) → fits class 0 ≡ true
zero_fits C32 = refl
zero_fits C64 = refl

abbrev Fits : Class → Sym → Type 0
Fits class x = sym_fits class x ≡ true

module _ (class : Class) (x : Sym) (passes : Fits class x) where
  without_fits : Fits class (without_section x)
  unfolding sym_fits
  without_fits =
      and_from (fits class 0) (fits class x.size) (zero_fits class)
      (and_parts (fits class x.value) (fits class x.size) passes).1

  in_fits : (n : ℕ) → Fits class (record x { shndx = n })
  unfolding sym_fits
  in_fits n = passes

  number_fits : (number : Option ℕ) → Fits class (sym_in_section number x)
  number_fits None = without_fits
  number_fits (Some new) = in_fits new

  if_fits : (b : Bool) (y : Sym) → Fits class y → Fits class (if b then y else x)
  if_fits true y is = is
  if_fits false y is = passes

  follows_fits : (m : Renumbering) → Fits class (followed_sym m x)
  unfolding followed_sym
  follows_fits m =
      if_fits (has_number m x) (sym_in_section (renumbered m x.shndx) x)
      (number_fits (renumbered m x.shndx))

  moved_fits : (word : ℕ) (number : Option ℕ)
      → Fits class (elim number [ None ↦ without_section x | Some new ↦ moved_sym word new x ])
  moved_fits word None = without_fits
  moved_fits word (Some new) =
      if_fits (moves_in word new) (record x { shndx = new }) (in_fits new)

  extended_fits : (m : Renumbering) (word : ℕ) → Fits class (followed_extended m word x)
  unfolding followed_extended
  extended_fits m word = moved_fits word (renumbered m word)

  by_word_fits : (m : Renumbering) (word : Option ℕ) → Fits class (followed_by_word m word x)
  by_word_fits m None = follows_fits m
  by_word_fits m (Some word) = by_test (word_counts m x word)
    where
      by_test : (b : Bool)
          → Fits class (if b then followed_extended m word x else followed_sym m x)
      by_test true = extended_fits m word
      by_test false = follows_fits m

-- ---- All of them

pub followed_fit : (class : Class) (m : Renumbering) (words : List ℕ) (syms : List Sym)
    → first_unfit class (items.Sym syms) ≡ None
    → first_unfit class (items.Sym (followed_syms m words syms)) ≡ None
unfolding first_unfit followed_syms
followed_fit class m words syms passes =
    let rows = enumerate_from 0 syms in
    let one = λ (row : ℕ × Sym). followed_by_word m (slice_get words row.0) row.1 in
    all_pass (sym_fits class) (map one rows)
    (All-map (λ (x : Sym). sym_fits class x ≡ true) one rows
    (λ i d below.
    let there : i < length syms = omega (arith, below, length-enumerate_from 0 syms) in
    let x = get_or syms i d.1 in
    let here : sym_fits class x ≡ true =
    each_passes (sym_fits class) syms i x passes there (get_or_default syms i d.1 x there) in
    subst (λ (row : ℕ × Sym). sym_fits class (one row) ≡ true)
    (sym (get_or-enumerate_from 0 syms i d there))
    (by_word_fits class x here m (slice_get words (0 + i)))))

-- the symbols among items
pub among_fit : (class : Class) (l : Items) → first_unfit class l ≡ None
    → first_unfit class (items.Sym (syms_of l)) ≡ None
unfolding first_unfit
among_fit class items.Empty passes = refl
among_fit class (items.Bytes l) passes = refl
among_fit class (items.Half l) passes = refl
among_fit class (items.Word l) passes = refl
among_fit class (items.Addr l) passes = refl
among_fit class (items.Sym l) passes = passes
among_fit class (items.Rel l) passes = refl
among_fit class (items.Rela l) passes = refl
among_fit class (items.Dyn l) passes = refl
