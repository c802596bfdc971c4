-- What is told of an image, by the answers of the calls that look at it.
use Rattle.std.proofs.Common.{◌≡◌, ◌+◌, ℕ, List, length, Option, Some, None, Result, Ok, Err, refl, sym, ap, ◌∙◌, subst}
use Rattle.std.specs.Prelude.{IsSome, codes}
use Rattle.elf_types.specs.Answers.{answered}
use Rattle.elf_types.specs.declared.errors.ElfError.{ElfError}
use Rattle.elf_types.specs.declared.records.Kind.TheVariants as kinds
use Rattle.elf_types.specs.Text.{error_text}
use Rattle.elf_outside.specs.declared.sources.Source.{Ghosts as SourceGhosts}
use Rattle.elf_object.specs.Object.{Object}
use Rattle.elf_object.specs.Calls.{Call}
use Rattle.elf_object.specs.Words.{Answers}
use Rattle.elf_object.specs.Answers.{items_at, count_at, lend_refusal}
use Rattle.elf_object.specs.Due.{unless_refused, when_clean, when_piece_clean}
use Rattle.elf_object.proofs.AnswerLaws.{answered_value, answered_refusal, lend_kind}
use Rattle.elf_calls_generate.specs.elf_descriptor.State.{State}
use Rattle.elf_calls_generate.specs.elf_descriptor.Reads.{Looks, wanted}
use Rattle.symbol_lookup.specs.Lookups as calls
use Rattle.symbol_lookup.specs.Lookups.{linear_needs, linear_refusal, link_of, table_homes}
use Rattle.hash_model.specs.Listed.{find_linear_answer}
use Rattle.rebuild_model.specs.Generated.{numbered_name, symbols_in, five_lines, told_lines}
use Rattle.tool_output.specs.declared.stops.Stop.{Stop}
use Rattle.tool_output.specs.Names.{Name}
use Rattle.tool_output.specs.Reports.{shown_report, refusal_report}
use Rattle.tool_output.specs.Stops.{stop_of}
use Rattle.elfkit_outcomes.specs.tool_objects.Steps.{Learns}
use Rattle.elfkit_outcomes.proofs.tool_objects.OnceSums.{Once, once_others}
use Rattle.elfkit_outcomes.proofs.tool_objects.OnceReads.{once_unless, once_piece, once_clean}
use Rattle.elfkit_outcomes.proofs.tool_objects.QueryLemmas.{settled_by, reads_stop, plain_is, plain_stops}
use Rattle.elfkit_outcomes.proofs.tool_objects.LearnLemmas.{learns_by}
use Rattle.elfkit_outcomes.proofs.tool_objects.ListCounts.{syms_of_length}
use Rattle.selftest_tool.specs.Told.{number_line, found_line, lines_text, value_sum, symbols_told, first_named, told_report}

-- ---- The lookup

-- each home is read once
once_lookup : (o : Object) (s : ℕ)
    → Once (unless_refused (linear_refusal o s) (linear_needs o s).homes)
unfolding linear_needs table_homes
once_lookup o s =
    once_unless (linear_refusal o s) (table_homes o s)
    (once_others (when_piece_clean o s 0) (when_clean o (link_of o s))
    (once_piece o s 0) (once_clean o (link_of o s)))

module _ (o : Object) (n : ℕ) (name : List ℕ) (passed : lend_refusal o kinds.Sym (n + 1) 0 ≡ None)
  where
    pub answer_is : find_linear_answer o (n + 1) name ≡ Ok (first_named n name o)
    unfolding find_linear_answer
    answer_is = ap (λ (r : Option ElfError). answered r (first_named n name o)) passed

module _ {S : Type 0} (s : SourceGhosts S) (n : ℕ) (name : List ℕ) (a b : State S)
    (passed : lend_refusal a.o kinds.Sym (n + 1) 0 ≡ None) where
  abbrev lookup : Call (Option ℕ)
  lookup = calls.find_linear (n + 1) name

  came_is : (r : Result (Option ℕ) ElfError)
      → Answers a.told (wanted lookup a) r (lookup.answer a.o)
      → Answers a.told (wanted lookup a) r (Ok (first_named n name a.o))
  came_is r came =
      subst (λ (stated : Result (Option ℕ) ElfError). Answers a.told (wanted lookup a) r stated)
      (answer_is a.o n name passed) came

  pub first_found : (x : Option ℕ) → Answers a.told (wanted lookup a) (Ok x) (lookup.answer a.o)
      → Looks s lookup (Ok x) a b → Learns s (first_named n name) (Ok x) a b
  first_found x came looks =
      learns_by s (first_named n name) x a b
      (settled_by s lookup (lookup.reads a.o) (Ok x) a b looks (once_lookup a.o (n + 1)) tt)
      (λ told. plain_is a.told (wanted lookup a) (first_named n name a.o) x
      (came_is (Ok x) came) told)

  pub first_stops : (e : ElfError) → Answers a.told (wanted lookup a) (Err e) (lookup.answer a.o)
      → IsSome (stop_of e)
  first_stops e came =
      plain_stops a.told (wanted lookup a) (first_named n name a.o) e (came_is (Err e) came)

  pub first_stopped : (e : ElfError) (stop : Stop) → stop_of e ≡ Some stop
      → Looks {T = Option ℕ} s lookup (Err e) a b → Learns s (first_named n name) (Err stop) a b
  first_stopped e stop is looks = record {
    value = λ told. tt;
    reads = reads_stop s lookup (lookup.reads a.o) a b e stop is looks;
  }

-- ---- The report

module _ (n : ℕ) (name : Name) (o : Object) where
  abbrev symbols_refusal : Option ElfError
  symbols_refusal = lend_refusal o kinds.Sym (n + 1) 0

  -- how many symbols there are
  pub symbols_counted : (count : ℕ) → Ok count ≡ answered symbols_refusal (count_at o (n + 1) 0)
      → (symbols_refusal ≡ None) × (count ≡ length (symbols_told n o))
  unfolding count_at
  symbols_counted count is =
      let value = answered_value symbols_refusal (count_at o (n + 1) 0) count (sym is) in (
        value.0,
        value.1
            ∙ sym (syms_of_length (items_at o (n + 1) 0) (lend_kind o kinds.Sym (n + 1) 0 value.0)),
      )

  -- they are refused
  pub told_refused : (e : ElfError) → Err e ≡ answered symbols_refusal (count_at o (n + 1) 0)
      → told_report n name o ≡ refusal_report (codes "selftest") name (error_text e)
  unfolding told_report told_lines find_linear_answer
  told_refused e is =
      let refused = answered_refusal symbols_refusal (count_at o (n + 1) 0) e (sym is) in
      rw refused refl

  -- they are told of
  pub told_shown : (count : ℕ) → symbols_refusal ≡ None → count ≡ length (symbols_told n o)
      → told_report n name o
      ≡ shown_report (lines_text (length o.sections) count (length o.base)
      (value_sum (symbols_told n o)) (first_named n (numbered_name (codes "y") n) o))
  unfolding told_report told_lines find_linear_answer five_lines symbols_in lines_text number_line found_line value_sum
  told_shown count passed is = rw (passed, is) refl
