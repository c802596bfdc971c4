-- An object that was created for two halves gets its program headers, its sections and its header.
use Rattle.std.proofs.Common.{◌≡◌, ℕ, zero, suc, ◌-◌, ◌<◌, ◌&&◌, Bool, true, false, not, List, [], ◌∷◌, length, map, Option, Some, None, Result, Ok, Err, refl, sym, ap, ◌∙◌, subst, arith}
use Rattle.std.specs.List.{range_with_len}
use Rattle.std.specs.Option.{option_map}
use Rattle.elf_types.specs.declared.records.Ehdr.{Ehdr}
use Rattle.elf_types.specs.declared.errors.ElfError.{ElfError}
use Rattle.elf_types.specs.declared.errors.ElfError.TheVariants.{Memory}
use Rattle.elf_types.specs.Answers.{refused_if, first_refusal, answered}
use Rattle.elf_outside.specs.Asks.{ReadRose}
use Rattle.elf_outside.specs.declared.sources.Source.{Ghosts}
use Rattle.rebuild_keep.specs.elf_object.Object.{Object, Section, new_section}
use Rattle.rebuild_keep.specs.elf_object.Calls.{newphdr_refusal, update_ehdr_refusal}
use Rattle.rebuild_keep.specs.elf_object.Calls as calls
use Rattle.rebuild_keep.specs.elf_object.Layout.{section_numbers}
use Rattle.rebuild_keep.specs.elf_object.Steps.{with_sections}
use Rattle.rebuild_keep.proofs.elf_object.AnswerLaws.{answered_value, answered_refusal}
use Rattle.rebuild_keep.specs.elf_descriptor.State.{State}
use Rattle.rebuild_keep.specs.elf_descriptor.Edits.{stepped}
use Rattle.rebuild_keep.specs.rebuild_model.Rebuilt.{index_refusal}
use Rattle.rebuild_keep.specs.rebuild_model.Split.{UnstripFault, combined_section, combined_sections, combined_raw_refusal, combine_fault, matches}
use Rattle.rebuild_keep.specs.rebuild_model.Split.{UnstripFault as stated}
use Rattle.rebuild_keep.specs.rebuild_making.Made.{with_more}
use Rattle.rebuild_keep.specs.rebuild_making.Refused.{RefusedBy}
use Rattle.rebuild_keep.specs.Answers.{IsFilled}
use Rattle.rebuild_keep.proofs.AskLaws.{asks_as, asks_nothing, asks_memory}
use Rattle.rebuild_keep.proofs.FillLaws.{has_none, header_states, last_refused, filled_on, rose_on, stated_answer}
use Rattle.rebuild_keep.proofs.MakeLaws.{refused_unread, refused_quiet, quiet_rose, unread_stated}
use Rattle.rebuild_join.specs.declared.joined.faults.UnstripFault.{UnstripFault as Fault}
use Rattle.rebuild_join.specs.declared.joined.faults.UnstripFault.TheVariants as faults
use Rattle.rebuild_join.specs.Joined.Answers.{FaultBy, homes_of_stripped, debug_due}
use Rattle.rebuild_join.specs.Joined.Joined.{AddsAll}
use Rattle.rebuild_join.specs.Joined.Filled.{FillsSections, FillsJoined}
use Rattle.rebuild_join.proofs.joined.FaultLaws.{elf_fault, debug_fault, fault_on, fault_memory}

-- ---- The sections with section 0

module _ (a b : Object) where
  pub combined_none : length b.sections ≡ 0 → combined_sections a b ≡ []
  combined_none none = ap (λ (n : ℕ). map (combined_section a b) (range_with_len 0 n)) none

  combined_first : combined_section a b 0 ≡ new_section
  unfolding combined_section
  combined_first = refl

  pub combined_some : 0 < length b.sections
      → new_section ∷ map (combined_section a b) (section_numbers b) ≡ combined_sections a b
  combined_some some = by_count (length b.sections) some
    where
      by_count : (n : ℕ) → 0 < n
          → new_section ∷ map (combined_section a b) (range_with_len 1 (n - 1))
          ≡ map (combined_section a b) (range_with_len 0 n)
      by_count zero some = absurd (omega (arith, some))
      by_count (suc n) some =
          ap (λ (k : ℕ). new_section ∷ map (combined_section a b) (range_with_len 1 k))
          (let same : suc n - 1 ≡ n = omega arith in same)
          ∙ ap (λ (c : Section). c ∷ map (combined_section a b) (range_with_len 1 n))
          (sym combined_first)

more_made : (m : Object) (l : List Section)
    → with_more (with_sections m (new_section ∷ [])) l ≡ with_sections m (new_section ∷ l)
more_made m l = refl

module _ {S T M : Type 0} (g : Ghosts S) (h : Ghosts T) (old : State S) (debug : State T) where
  -- without sections there are none
  pub fills_none : (made : State M) → length debug.o.sections ≡ 0 → made.o.sections ≡ []
      → made.o.header.shnum ≡ 0
      → FillsSections g h (Ok (tt {0})) old old debug debug made made
  fills_none made none empty count = record {
    sections = has_none (old.told && debug.told) (combined_sections old.o debug.o) made
        (combined_none old.o debug.o none) empty count;
    passed = ap (λ (n : ℕ). first_refusal
        (map (combined_raw_refusal old.o debug.o) (range_with_len 1 (n - 1)))) none;
    fault = tt;
    asks_stripped = asks_nothing g {T = Unit {0}} (Ok tt) old (homes_of_stripped old.o) tt;
    asks_debug = asks_nothing h {T = Unit {0}} (Ok tt) debug (debug_due debug.o) tt;
  }

  -- memory is wanted for section 0
  pub fills_memory : (made grown : State M) (e : ElfError) → e ≡ Memory
      → FillsSections g h (Err (faults.Elf e)) old old debug debug made grown
  fills_memory made grown e is = record {
    sections = tt;
    passed = tt;
    fault = fault_memory (first_refusal
        (map (combined_raw_refusal old.o debug.o) (section_numbers debug.o))) e is;
    asks_stripped = asks_memory g {U = Unit {0}} old (homes_of_stripped old.o) e is;
    asks_debug = asks_nothing h {T = Unit {0}} (Ok tt) debug (debug_due debug.o) tt;
  }

  pub fills_all : (r : Result (Unit {0}) Fault) (new : State S) (after : State T)
      (made mid grown : State M) → 0 < length debug.o.sections
      → mid.o ≡ with_sections made.o (new_section ∷ []) → mid.told ≡ made.told
      → AddsAll g h r old new debug after mid grown
      → FillsSections g h r old new debug after made grown
  fills_all (Ok u) new after made mid grown some mid_is mid_told is =
      let more = is.adds in
      let whole = combined_some old.o debug.o some in
      record {
        sections = record {
          sections = new_section ∷ more.sections;
          object = more.object
              ∙ ap (λ (m : Object). with_more m more.sections) mid_is
              ∙ more_made made.o more.sections;
          long = ap suc more.long ∙ ap (λ (l : List Section). length l) whole;
          exact = λ t. ap (λ (l : List Section). new_section ∷ l) (more.exact t) ∙ whole;
          told_is = more.told_is ∙ mid_told;
        };
        passed = is.passed;
        fault = tt;
        asks_stripped = is.asks_stripped;
        asks_debug = is.asks_debug;
      }
  fills_all (Err f) new after made mid grown some mid_is mid_told is = record {
    sections = tt;
    passed = tt;
    fault = is.fault;
    asks_stripped = is.asks_stripped;
    asks_debug = is.asks_debug;
  }

pub one_made : (m mid : Object) → mid ≡ with_sections m (new_section ∷ [])
    → length mid.sections ≡ 1
one_made m mid is = ap (λ (o : Object). length o.sections) is

-- ---- Refusals, one after another

alone_fault : (r : Option UnstripFault) → first_refusal (r ∷ []) ≡ r
alone_fault None = refl
alone_fault (Some f) = refl

module _ (a b : Object) where
  abbrev pub segments_fault : Option ElfError
  segments_fault = newphdr_refusal (length a.phdrs)

  abbrev pub sections_fault : Option UnstripFault
  sections_fault = first_refusal (map (combined_raw_refusal a b) (section_numbers b))

  abbrev pub header_fault : Option ElfError
  header_fault = index_refusal a (combined_sections a b) b.header.shstrndx

  pub combine_mismatch : matches a b ≡ false → combine_fault a b ≡ Some stated.Mismatch
  unfolding combine_fault
  combine_mismatch other =
      ap (λ (t : Bool). first_refusal (refused_if (not t) stated.Mismatch
      ∷ option_map stated.Elf segments_fault ∷ sections_fault
      ∷ option_map stated.Debug header_fault ∷ [])) other

  module _ (same : matches a b ≡ true) where
    combine_first : combine_fault a b
        ≡ first_refusal (option_map stated.Elf segments_fault ∷ sections_fault
        ∷ option_map stated.Debug header_fault ∷ [])
    unfolding combine_fault
    combine_first =
        ap (λ (t : Bool). first_refusal (refused_if (not t) stated.Mismatch
        ∷ option_map stated.Elf segments_fault ∷ sections_fault
        ∷ option_map stated.Debug header_fault ∷ [])) same

    pub segments_refused : (e : ElfError) → RefusedBy segments_fault e
        → FaultBy (combine_fault a b) (stated.Elf e)
    segments_refused e by =
        fault_on (option_map stated.Elf segments_fault) (combine_fault a b) (stated.Elf e)
        (λ is. combine_first
        ∙ ap (λ (r : Option UnstripFault). first_refusal (r ∷ sections_fault
        ∷ option_map stated.Debug header_fault ∷ [])) is)
        (elf_fault segments_fault e (refused_unread segments_fault e by))

    module _ (passed : segments_fault ≡ None) where
      combine_second : combine_fault a b
          ≡ first_refusal (sections_fault ∷ option_map stated.Debug header_fault ∷ [])
      combine_second =
          combine_first
          ∙ ap (λ (r : Option ElfError). first_refusal (option_map stated.Elf r ∷ sections_fault
          ∷ option_map stated.Debug header_fault ∷ [])) passed

      pub sections_refused : (f : UnstripFault) → FaultBy sections_fault f
          → FaultBy (combine_fault a b) f
      sections_refused f by =
          fault_on sections_fault (combine_fault a b) f
          (λ is. combine_second
          ∙ ap (λ (r : Option UnstripFault).
          first_refusal (r ∷ option_map stated.Debug header_fault ∷ [])) is) by

      pub combine_third : sections_fault ≡ None
          → combine_fault a b ≡ option_map stated.Debug header_fault
      combine_third none =
          combine_second
          ∙ ap (λ (r : Option UnstripFault).
          first_refusal (r ∷ option_map stated.Debug header_fault ∷ [])) none
          ∙ alone_fault (option_map stated.Debug header_fault)

-- ---- All of it

module _ {S T M : Type 0} (g : Ghosts S) (h : Ghosts T) (old : State S) (debug : State T)
    (same : matches old.o debug.o ≡ true) (made : State M) where
  -- the program headers are refused
  pub joined_segments : (segments : State M) (e : ElfError)
      → RefusedBy (newphdr_refusal (length old.o.phdrs)) e
      → FillsJoined g h (Err (faults.Elf e)) old old debug debug made segments
  joined_segments segments e by = record {
    filled_is = tt;
    passed = tt;
    fault = segments_refused old.o debug.o same e by;
    asks_stripped = asks_nothing g {T = Unit {0}} (Err e) old (homes_of_stripped old.o)
        (quiet e by);
    asks_debug = asks_nothing h {T = Unit {0}} (Ok tt) debug (debug_due debug.o) tt;
  }
    where
      quiet : (e : ElfError) → RefusedBy (newphdr_refusal (length old.o.phdrs)) e
          → ReadRose {T = Unit {0}} (Err e) (g.faults old.source) (g.faults old.source)
      quiet e by =
          quiet_rose (Unit {0}) e (g.faults old.source) (g.faults old.source)
          (refused_quiet (newphdr_refusal (length old.o.phdrs)) e by)

  module _ (passed : newphdr_refusal (length old.o.phdrs) ≡ None) (segments : State M) where
    -- a section is refused
    pub joined_sections : (new : State S) (after : State T) (filled : State M) (f : Fault)
        → FillsSections g h (Err f) old new debug after segments filled
        → FillsJoined g h (Err f) old new debug after made filled
    joined_sections new after filled f fills = record {
      filled_is = tt;
      passed = tt;
      fault = sections_refused old.o debug.o same passed _ fills.fault;
      asks_stripped = fills.asks_stripped;
      asks_debug = fills.asks_debug;
    }

    module _ (new : State S) (after : State T) (filled final : State M)
        (segments_are : segments ≡ stepped (calls.phdrs_mut old.o.phdrs) made)
        (class : made.o.header.class ≡ old.o.header.class)
        (fills : FillsSections g h (Ok (tt {0})) old new debug after segments filled)
        (index : ℕ) (index_is : index ≡ debug.o.header.shstrndx) where
      abbrev head : Ehdr
      head = record old.o.header { shstrndx = index }

      last : update_ehdr_refusal filled.o head
          ≡ index_refusal old.o (combined_sections old.o debug.o) debug.o.header.shstrndx
      last =
          last_refused (old.told && debug.told) old.o index (combined_sections old.o debug.o) made
          segments filled final segments_are class fills.sections
          ∙ ap (index_refusal old.o (combined_sections old.o debug.o)) index_is

      third : combine_fault old.o debug.o
          ≡ option_map stated.Debug
          (index_refusal old.o (combined_sections old.o debug.o) debug.o.header.shstrndx)
      third = combine_third old.o debug.o same passed fills.passed

      pub joined_ok : ◌≡◌ {A = Result (Unit {0}) ElfError} (Ok tt)
          (answered (update_ehdr_refusal filled.o head) tt)
          → final ≡ stepped (calls.update_ehdr head) filled
          → FillsJoined g h (Ok (tt {0})) old new debug after made final
      joined_ok answer steps =
          let r : Result (Unit {0}) ElfError = Ok tt in
          let none = (answered_value (update_ehdr_refusal filled.o head) tt tt (sym answer)).0 in
          record {
            filled_is = subst (λ (i : ℕ). IsFilled (old.told && debug.told) old.o i
                (combined_sections old.o debug.o) made final) index_is
                (filled_on (old.told && debug.told) old.o index (combined_sections old.o debug.o)
                made segments filled final segments_are class fills.sections r answer steps);
            passed = third ∙ ap (option_map stated.Debug) (sym last ∙ none);
            fault = tt;
            asks_stripped = fills.asks_stripped;
            asks_debug = fills.asks_debug;
          }

      -- the header is refused
      pub joined_header : (e : ElfError)
          → ◌≡◌ {A = Result (Unit {0}) ElfError} (Err e)
          (answered (update_ehdr_refusal filled.o head) tt)
          → FillsJoined g h (Err (faults.Debug e)) old new debug after made final
      joined_header e answer =
          let r : Result (Unit {0}) ElfError = Err e in
          let ok : Result (Unit {0}) ElfError = Ok tt in
          let q = update_ehdr_refusal filled.o head in
          let states = header_states filled.o head in
          let index_fault =
          index_refusal old.o (combined_sections old.o debug.o) debug.o.header.shstrndx in
          record {
            filled_is = tt;
            passed = tt;
            fault = fault_on (option_map stated.Debug index_fault) (combine_fault old.o debug.o)
                (stated.Debug e) (λ is. third ∙ is)
                (debug_fault index_fault e
                (unread_stated index_fault e (stated_answer q states e answer)
                (sym last ∙ answered_refusal q tt e (sym answer))));
            asks_stripped = fills.asks_stripped;
            asks_debug = asks_as h ok r debug after (debug_due debug.o)
                (rose_on q states r (h.faults debug.source) (h.faults after.source) answer)
                fills.asks_debug;
          }
