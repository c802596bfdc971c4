-- What the letters that are asked for show, and which of them go over the sections.
use Rattle.std.proofs.Common.{◌≡◌, ◌<◌, ◌≤◌, ◌+◌, ◌&&◌, ℕ, Bool, true, false, cond, length, take, get_or, refl, sym, ap, ◌∙◌, arith}
use Rattle.std.specs.Prelude.{if◌then◌else◌}
use Rattle.std.specs.List.{count_by}
use Rattle.std.proofs.lemmas.List.Folds.{list_any_at}
use Rattle.std.proofs.lemmas.List.Sums.{count_by_more_yes, count_by_more_no, sum_by-take-le}
use Rattle.readelf_tool.specs.declared.options.ReadelfParts.{ReadelfParts}
use Rattle.elf_object.specs.Object.{Object}
use Rattle.tool_output.specs.Names.{Name}
use Rattle.tool_output.specs.Reports.{no_report}
use Rattle.readelf_tool.specs.declared.parts.Letter.{Letter}
use Rattle.readelf_tool.specs.Parts.{letters, is_asked, reads_sections, letter_report, letter_part, shows_sections, goes_over, passes_of}

-- the part of a letter that reads sections goes over them once
pub once_at : (letter l : Letter) → letter ≡ l → reads_sections l ≡ true
    → 1 ≤ (if reads_sections letter then 1 else 0)
once_at letter l is reads =
    let once : ◌≡◌ {A = ℕ} (if reads_sections letter then 1 else 0) 1 =
    ap (λ (t : Bool). if t then 1 else 0) (ap reads_sections is ∙ reads) in
    omega (arith, once)

-- of the first letters no more go over them than of all
pub passes_within : (parts : ReadelfParts) (i : ℕ)
    → count_by (goes_over parts) (take i letters) ≤ passes_of parts
unfolding passes_of
passes_within parts i = sum_by-take-le (λ l. cond (goes_over parts l) 1 0) letters i

module _ (parts : ReadelfParts) (letter : Letter) where
  -- that of a letter that is asked for does where it reads them
  pub asked_once : is_asked parts letter ≡ true
      → (if reads_sections letter then 1 else 0) ≤ (if goes_over parts letter then 1 else 0)
  asked_once is =
      let same : ◌≡◌ {A = ℕ} (if goes_over parts letter then 1 else 0)
      (if reads_sections letter then 1 else 0) =
      ap (λ (t : Bool). if t && reads_sections letter then 1 else 0) is in
      omega (arith, same)

  -- and where it does not, it reads none
  pub unread_asked : is_asked parts letter ≡ true → goes_over parts letter ≡ false
      → reads_sections letter ≡ false
  unread_asked is off = sym (ap (λ (t : Bool). t && reads_sections letter) is) ∙ off

  -- one letter more
  pub passes_next : (i : ℕ) → i < length letters → letter ≡ get_or letters i letter
      → count_by (goes_over parts) (take i letters) + (if goes_over parts letter then 1 else 0)
      ≤ count_by (goes_over parts) (take (i + 1) letters)
  passes_next i lt is = by_test (goes_over parts letter) refl
    where
      by_test : (t : Bool) → goes_over parts letter ≡ t
          → count_by (goes_over parts) (take i letters) + (if t then 1 else 0)
          ≤ count_by (goes_over parts) (take (i + 1) letters)
      by_test true was =
          let more = count_by_more_yes (goes_over parts) letters i letter lt
          (sym (ap (goes_over parts) is) ∙ was) in
          omega (arith, more)
      by_test false was =
          let more = count_by_more_no (goes_over parts) letters i letter lt
          (sym (ap (goes_over parts) is) ∙ was) in
          omega (arith, more)

  module _ (name : Name) (o : Object) where
    pub part_asked : is_asked parts letter ≡ true → letter_part parts name letter o ≡ letter_report letter name o
    unfolding letter_part
    part_asked is = ap (λ (t : Bool). if t then letter_report letter name o else no_report) is

    pub part_not_asked : is_asked parts letter ≡ false → letter_part parts name letter o ≡ no_report
    unfolding letter_part
    part_not_asked is = ap (λ (t : Bool). if t then letter_report letter name o else no_report) is

  -- where no part reads sections, that of no letter does
  pub part_unread : (i : ℕ) → i < length letters → letter ≡ get_or letters i letter → shows_sections parts ≡ false → (is_asked parts letter && reads_sections letter) ≡ false
  unfolding shows_sections
  part_unread i lt is off = by_test (is_asked parts letter && reads_sections letter) refl
    where
      by_test : (t : Bool) → (is_asked parts letter && reads_sections letter) ≡ t → (is_asked parts letter && reads_sections letter) ≡ false
      by_test false was = was
      by_test true was =
          let read = list_any_at (λ l. is_asked parts l && reads_sections l) letters i letter lt (sym (ap (λ (l : Letter). is_asked parts l && reads_sections l) is) ∙ was) in
          let no : false ≡ true = sym off ∙ read in
          cc
