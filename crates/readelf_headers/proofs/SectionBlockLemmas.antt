-- The lines of sections from one on and below another, and the report on all sections by them.
use Rattle.std.proofs.Common.{◌≡◌, ◌++◌, ◌+◌, ◌-◌, ◌<◌, ◌≤◌, ℕ, zero, suc, Bool, true, false, List, [], ◌∷◌, length, drop, Option, None, IsTrue, refl, sym, ap, ◌∙◌, arith, append_assoc}
use Rattle.std.specs.Prelude.{flat_map, ◌==◌, if◌then◌else◌}
use Rattle.std.specs.List.{range_with_len}
use Rattle.std.proofs.lemmas.List.Concat.{flat_map-cons}
use Rattle.elf_types.specs.declared.records.Shdr.{Shdr}
use Rattle.elf_object.specs.Object.{Object, section_at}
use Rattle.elf_object.specs.Due.{all_sections}
use Rattle.elf_object.specs.Strings.{section_name, readable, string_answer}
use Rattle.tool_output.specs.Reports.{Report, shown_report, joined_reports, no_report, reports_of, all_reports_joined}
use Rattle.tool_output.proofs.UnderWayLemmas.{shown_append, shown_none}
use Rattle.tool_objects.specs.elf_descriptor.State.{State}
use Rattle.tool_objects.specs.gelf_view.Records.{string_front}
use Rattle.tool_objects.specs.AtHand.Strings.{HoldsStrings}
use Rattle.readelf_headers.specs.Sections.{section_line, shown_section_line}
use Rattle.readelf_headers.specs.SectionBlocks.{line_by, lines_by, AreNames}

-- ---- The lines of a range

module _ (line : ℕ → List ℕ) where
  abbrev lines : ℕ → ℕ → List ℕ
  lines from to = flat_map line (range_with_len from (to - from))

  -- the first, and then the others
  pub lines_more : (i to : ℕ) → i < to → lines i to ≡ line i ++ lines (i + 1) to
  lines_more i to lt =
      let more : to - i ≡ suc (to - (i + 1)) = omega (arith, lt) in
      ap (λ (n : ℕ). flat_map line (range_with_len i n)) more
      ∙ flat_map-cons line i (range_with_len (i + 1) (to - (i + 1)))

  -- there is none
  pub lines_end : (i to : ℕ) → to ≤ i → lines i to ≡ []
  lines_end i to le =
      let none : to - i ≡ 0 = omega (arith, le) in
      ap (λ (n : ℕ). flat_map line (range_with_len i n)) none

  -- those of a range, and those behind them
  split : (k i to : ℕ) → i + k ≤ to → lines i to ≡ flat_map line (range_with_len i k) ++ lines (i + k) to
  split zero i to le = let here : i + 0 ≡ i = omega arith in rw here refl
  split (suc k) i to le =
      let place : i + 1 + k ≡ i + suc k = omega arith in
      lines_more i to (omega (arith, le))
      ∙ ap (λ (l : List ℕ). line i ++ l) (split k (i + 1) to (omega (arith, le)))
      ∙ sym (append_assoc (line i) (flat_map line (range_with_len (i + 1) k)) (lines (i + 1 + k) to))
      ∙ ap (λ (l : List ℕ). l ++ lines (i + 1 + k) to) (sym (flat_map-cons line i (range_with_len (i + 1) k)))
      ∙ ap (λ (n : ℕ). flat_map line (range_with_len i (suc k)) ++ lines n to) place

  -- what is left of a report, after one line and after some
  pub line_left : (i to : ℕ) → i < to
      → shown_report (lines i to) ≡ joined_reports (shown_report (line i)) (shown_report (lines (i + 1) to))
  line_left i to lt = ap shown_report (lines_more i to lt) ∙ shown_append (line i) (lines (i + 1) to)

  pub lines_left : (i mid to : ℕ) → i ≤ mid → mid ≤ to
      → shown_report (lines i to) ≡ joined_reports (shown_report (lines i mid)) (shown_report (lines mid to))
  lines_left i mid to low high =
      let there : i + (mid - i) ≡ mid = omega (arith, low) in
      ap shown_report (split (mid - i) i to (omega (arith, low, high))
      ∙ ap (λ (n : ℕ). lines i mid ++ lines n to) there)
      ∙ shown_append (lines i mid) (lines mid to)

  pub none_left : (i to : ℕ) → to ≤ i → shown_report (lines i to) ≡ no_report
  none_left i to le = ap shown_report (lines_end i to le) ∙ shown_none

  -- the report on numbers of which each has a line
  reports_are : (report : ℕ → Report) → ((i : ℕ) → report i ≡ shown_report (line i)) → (xs : List ℕ)
      → reports_of report xs ≡ shown_report (flat_map line xs)
  unfolding reports_of all_reports_joined
  reports_are report same [] = sym shown_none
  reports_are report same (x ∷ xs) =
      ap (λ (r : Report). joined_reports r (reports_of report xs)) (same x)
      ∙ ap (joined_reports (shown_report (line x))) (reports_are report same xs)
      ∙ sym (shown_append (line x) (flat_map line xs))
      ∙ ap shown_report (sym (flat_map-cons line x xs))

-- ---- One line

module _ (o : Object) (strings : List ℕ) (i : ℕ) (h : Shdr) (name : Option (List ℕ))
    (is : h ≡ (section_at o i).header) (named : name ≡ string_front (drop h.name strings)) where
  pub line_is : section_line i name h ≡ line_by o strings i
  line_is =
      ap (λ (n : Option (List ℕ)). section_line i n h) named
      ∙ ap (λ (k : Shdr). section_line i (string_front (drop k.name strings)) k) is

  -- what is left of a report after it
  pub line_is_left : (to : ℕ) → i < to
      → shown_report (lines (line_by o strings) i to)
      ≡ joined_reports (shown_report (section_line i name h)) (shown_report (lines (line_by o strings) (i + 1) to))
  line_is_left to lt =
      line_left (line_by o strings) i to lt
      ∙ ap (λ (t : List ℕ). joined_reports (shown_report t) (shown_report (lines (line_by o strings) (i + 1) to))) (sym line_is)

-- ---- The names

pub names_are : {S : Type 0} (state : State S) (names : ℕ) (strings : List ℕ)
    → names ≡ state.o.header.shstrndx → (names == 0) ≡ false
    → HoldsStrings state names strings → AreNames state strings
unfolding section_name
names_are state names strings is there holds told s =
    by_test (state.o.header.shstrndx == 0)
    (ap (λ (n : ℕ). n == 0) (sym is) ∙ there)
  where
    at : ℕ
    at = (section_at state.o s).header.name

    by_test : (t : Bool) → t ≡ false
        → (if t then None else readable (string_answer state.o state.o.header.shstrndx at)) ≡ string_front (drop at strings)
    by_test true e = cc
    by_test false e =
        ap (λ (n : ℕ). readable (string_answer state.o n at)) (sym is) ∙ holds told at

-- ---- All sections

pub all_lines : {S : Type 0} (state : State S) (strings : List ℕ) → AreNames state strings → IsTrue state.told
    → reports_of (shown_section_line state.o) (all_sections state.o)
    ≡ shown_report (lines_by state.o strings 0 (length state.o.sections))
unfolding shown_section_line
all_lines state strings are told =
    let n = length state.o.sections in
    let whole : n - 0 ≡ n = omega arith in
    reports_are (line_by state.o strings) (shown_section_line state.o)
    (λ i. ap (λ (name : Option (List ℕ)). shown_report (section_line i name (section_at state.o i).header)) (are told i))
    (all_sections state.o)
    ∙ ap (λ (k : ℕ). shown_report (flat_map (line_by state.o strings) (range_with_len 0 k))) (sym whole)
