-- The table of extended indexes, found section by section.
use Rattle.std.proofs.Common.{◌≡◌, ℕ, ◌<◌, Bool, true, false, cond, length, get_or, Option, Some, None, Result, Err, subst, sym, ap, ◌∙◌, arith}
use Rattle.std.specs.Prelude.{nat_lt}
use Rattle.std.proofs.lemmas.Bool.{cond-true, cond-false, lt-ltb, lt-leb, le-ltb}
use Rattle.std.proofs.lemmas.List.Sums.{position_or_len_is}
use Rattle.elf_types.specs.declared.errors.ElfError.{ElfError}
use Rattle.elf_types.specs.declared.errors.ElfError.TheVariants.{NoSection, NoEntry}
use Rattle.elf_types.specs.Answers.{refused_if}
use Rattle.elf_descriptor.specs.elf_object.Object.{Object, section_at, absent_section}
use Rattle.elf_descriptor.specs.elf_object.Answers.{no_section}
use Rattle.elf_descriptor.specs.elf_object.SymbolSections.{shndx_table, extended_index, word_reads, word_memory}
use Rattle.elf_descriptor.specs.elf_object.Words.{Wants, Answers}
use Rattle.elf_descriptor.specs.elf_object.Due.{homes_due}
use Rattle.elf_descriptor.specs.elf_object.Calls.{word, word_answer}
use Rattle.elf_descriptor.specs.elf_outside.declared.sources.Source.{Ghosts}
use Rattle.elf_descriptor.specs.State.{State}
use Rattle.elf_descriptor.specs.Reads.{Reads, Looks, wanted}
use Rattle.gelf_view.specs.Calls.{is_index_table, extended_index_word}

-- no section below a number is the table
abbrev pub IsNotBelow : Object → ℕ → ℕ → Type 0
IsNotBelow o s n = (k : ℕ) → k < n → is_index_table s (get_or o.sections k absent_section) ≡ false

pub section_below : (o : Object) (k n : ℕ) → k < n → length o.sections ≡ n → no_section o k ≡ None
section_below o k n below count = ap (λ (t : Bool). refused_if t (NoSection k (length o.sections))) (lt-leb (length o.sections) k (omega arith))

pub table_found : (o : Object) (s table n : ℕ) → length o.sections ≡ n → table < n → IsNotBelow o s table → is_index_table s (section_at o table) ≡ true → Some table ≡ shndx_table o s
unfolding shndx_table section_at
table_found o s table n count below none here =
    let first = position_or_len_is (is_index_table s) o.sections table absent_section (omega arith) none (λ inside. here) in
    let inside : table < length o.sections = omega arith in
    sym (ap (λ (i : ℕ). cond (nat_lt i (length o.sections)) (Some i) None) first ∙ cond-true (nat_lt table (length o.sections)) (Some table) None (lt-ltb table (length o.sections) inside))

pub table_absent : (o : Object) (s n : ℕ) → length o.sections ≡ n → IsNotBelow o s n → None ≡ shndx_table o s
unfolding shndx_table
table_absent o s n count none =
    let last = position_or_len_is (is_index_table s) o.sections n absent_section (omega arith) none (λ inside. absurd (omega arith)) in
    sym (ap (λ (i : ℕ). cond (nat_lt i (length o.sections)) (Some i) None) last ∙ cond-false (nat_lt n (length o.sections)) (Some n) None (le-ltb n (length o.sections) (omega arith)))

-- ---- The word of the table

-- the call on a table that is known, or on none
abbrev index_by : Object → ℕ → Option ℕ → Result ℕ ElfError
index_by o i table = elim table [ None ↦ Err (NoEntry i 0) | Some x ↦ word_answer o x 0 i ]

abbrev wants_by : {S : Type 0} → State S → ℕ → Option ℕ → Wants
wants_by old i table = record { memory = word_memory old.o old.loaded old.held table; read = nat_lt 0 (homes_due old.o old.loaded (word_reads old.o i table)) }

pub extended_answers : {S : Type 0} (old : State S) (s table i : ℕ) (r : Result ℕ ElfError) → Some table ≡ shndx_table old.o s
    → Answers old.told (wanted (word table 0 i) old) r ((word table 0 i).answer old.o) → Answers old.told (wanted (extended_index_word s i) old) r ((extended_index_word s i).answer old.o)
unfolding extended_index
extended_answers old s table i r is came = subst (λ (t : Option ℕ). Answers old.told (wants_by old i t) r (index_by old.o i t)) is came

pub extended_looks : {S : Type 0} (g : Ghosts S) (old new : State S) (s table i : ℕ) (r : Result ℕ ElfError) → Some table ≡ shndx_table old.o s
    → Looks g (word table 0 i) r old new → Looks g (extended_index_word s i) r old new
extended_looks g old new s table i r is looks = record {
  object = looks.object;
  reads = subst (λ (t : Option ℕ). Reads g r old new (word_reads old.o i t) (word_reads old.o i t) (homes_due old.o old.loaded (word_reads old.o i t))) is looks.reads;
}

pub extended_none : (o : Object) (s i : ℕ) → None ≡ shndx_table o s → (extended_index_word s i).answer o ≡ Err (NoEntry i 0)
unfolding extended_index
extended_none o s i none = ap (index_by o i) (sym none)
