-- The call that gives the section of a symbol, as its two calls leave it.
use Rattle.std.proofs.Common.{◌≡◌, ◌≢◌, ℕ, ◌+◌, ◌<◌, ◌≤◌, Bool, true, false, not, List, [], ◌++◌, Option, Some, None, Result, Ok, Err, refl, sym, ap, ◌∙◌, subst, inl, inr, arith}
use Rattle.std.specs.Prelude.{IsTrue, IfErr, IsOk, ◌==◌, nat_lt, filter}
use Rattle.std.specs.List.{list_any}
use Rattle.std.proofs.lemmas.Bool.{or_left, or_right, lt-ltb}
use borrow.Author.Tests.{ltb-true}
use Rattle.std.proofs.lemmas.List.Sums.{sum_by-append}
use Rattle.elf_types.specs.declared.records.Kind.TheVariants as kinds
use Rattle.elf_types.specs.declared.records.Sym.{Sym}
use Rattle.elf_types.specs.declared.errors.ElfError.{ElfError}
use Rattle.elf_types.specs.declared.errors.ElfError.TheVariants.{Memory, Read}
use Rattle.elf_types.specs.Answers.{◌>>=◌, err_of, IsRefusal}
use Rattle.elf_types.specs.declared.constants.TheConstants.{SHN_LORESERVE, SHN_XINDEX}
use Rattle.elf_descriptor.specs.elf_outside.Asks.{ReadRose}
use Rattle.elf_descriptor.specs.elf_outside.declared.sources.Source.{Ghosts}
use Rattle.elf_descriptor.specs.elf_object.Object.{Object}
use Rattle.elf_descriptor.specs.elf_object.Words.{Wants, Answers, AnswersRead, MayWant, result_map}
use Rattle.elf_descriptor.specs.elf_object.Answers.{lend_refusal, syms_of, items_at, entry_answer}
use Rattle.elf_descriptor.specs.elf_object.Due.{homes_due, home_due, holds_items, with_others, when_piece_clean, unless_refused}
use Rattle.elf_descriptor.specs.elf_object.Calls as calls
use Rattle.elf_descriptor.specs.elf_object.Calls.{Call, due, sym_answer}
use Rattle.elf_descriptor.specs.elf_object.Runs.{after_look}
use Rattle.elf_descriptor.specs.elf_object.SymbolSections.{symshndx_refusals, extended_index, table_read, word_reads, word_memory}
use Rattle.elf_descriptor.specs.State.{State}
use Rattle.elf_descriptor.specs.Reads.{Reads, Queries, Looks, wanted}
use Rattle.elf_descriptor.proofs.ReadsLaws.{looks_both, reads_then, reads_nothing, reads_wider, dues_stay}
use Rattle.elf_descriptor.proofs.Refusals.{IsUnread, answers_wants}
use Rattle.elf_descriptor.proofs.Handing.{queries_err}
use Rattle.gelf_view.specs.declared.symbols.SymPlace.{SymPlace}
use Rattle.gelf_view.specs.declared.symbols.SymPlace.TheVariants as special
use Rattle.gelf_view.specs.Calls.{extended_index_word, symbol_place, symbol_shndx_place}
use Rattle.gelf_view.proofs.LendLemmas.{lend_unread, unread_late}
use Rattle.gelf_view.proofs.SymbolLemmas.{sym_passed, sym_refused, same_table, place_low, place_special, place_extended, table_extended, place_refused, both_read}

mapped_may : {A B : Type 0} (f : A → B) (stated : Result A ElfError) → MayWant stated → MayWant (result_map f stated)
mapped_may f (Ok x) may = tt
mapped_may f (Err e) may = may

-- a call that may want in place of a symbol is not refused before it reads
passed_unread : {A : Type 0} (refusal : Option ElfError) (l : List A) (i : ℕ) → IsUnread refusal → MayWant (entry_answer refusal l i) → refusal ≡ None
passed_unread None l i unread may = refl
passed_unread (Some d) l i (inl none) may = none
passed_unread (Some d) l i (inr unread) may = absurd (unread_late d unread may)

sym_may_want : (o : Object) (s p i : ℕ) → MayWant (sym_answer o s p i) → lend_refusal o kinds.Sym s p ≡ None
unfolding sym_answer
sym_may_want o s p i may = passed_unread (lend_refusal o kinds.Sym s p) (syms_of (items_at o s p)) i (lend_unread o kinds.Sym s p) may

sum_pos : (a b : ℕ) → IsTrue (nat_lt 0 a) → IsTrue (nat_lt 0 (a + b))
sum_pos a b pos = lt-ltb 0 (a + b) (let more = ltb-true 0 a pos in omega arith)

more_pos : (a b : ℕ) → a ≤ b → IsTrue (nat_lt 0 a) → IsTrue (nat_lt 0 b)
more_pos a b le pos = lt-ltb 0 b (let more = ltb-true 0 a pos in omega arith)

-- ---- The place of a symbol that came

-- a value in another form
mapped_answers : {A B : Type 0} (told : Bool) (wants : Wants) (f : A → B) (r stated : Result A ElfError) → Answers told wants r stated → Answers told wants (result_map f r) (result_map f stated)
mapped_answers {A} told wants f (Ok x) stated came = (by_stated stated came.0, λ is. ap (result_map f) (came.1 is))
  where
    by_stated : (stated : Result A ElfError) → IsOk stated → IsOk (result_map f stated)
    by_stated (Ok y) is = refl
    by_stated (Err e) is = cc
mapped_answers {A} told wants f (Err Memory) stated came = (came.0, mapped_may f stated came.1)
mapped_answers {A} told wants f (Err Read) stated came = (came.0, mapped_may f stated came.1)
mapped_answers {A} told wants f (Err e) stated came = ap (result_map f) came

known : {A : Type 0} (told : Bool) (wants : Wants) (x : A) (stated : Result A ElfError) → stated ≡ Ok x → Answers told wants (Ok x) stated
known told wants x stated is = (subst IsOk (sym is) refl, λ t. is)

module _ {S : Type 0} (old : State S) (s i : ℕ) (x : Sym) where
  abbrev place : Call SymPlace
  place = symbol_place old.told s i x

  pub low_answers : (index : ℕ) → index ≡ x.shndx → index < SHN_LORESERVE → Answers old.told (wanted place old) (Ok (special.Section index)) (place.answer old.o)
  low_answers index is low = known old.told (wanted place old) (special.Section index) (place.answer old.o) (place_low special.Special special.Section old.o s i x index is low)

  pub special_answers : (index : ℕ) → index ≡ x.shndx → SHN_LORESERVE ≤ index → index ≢ SHN_XINDEX → Answers old.told (wanted place old) (Ok (special.Special x.shndx)) (place.answer old.o)
  special_answers index is high other = known old.told (wanted place old) (special.Special x.shndx) (place.answer old.o) (place_special special.Special special.Section old.o s i x index is high other)

  -- the number stands in the table
  pub extended_answers : (r : Result ℕ ElfError) → x.shndx ≡ SHN_XINDEX → Answers old.told (wanted (extended_index_word s i) old) r ((extended_index_word s i).answer old.o)
      → Answers old.told (wanted place old) (result_map special.Section r) (place.answer old.o)
  extended_answers r is came =
      let table = table_extended old.told old.o s x is in
      answers_wants old.told (wanted (extended_index_word s i) old) (wanted place old) (result_map special.Section r) (place.answer old.o)
      (λ wants. ap (word_memory old.o old.loaded old.held) table ∙ wants)
      (λ wants. ap (λ (t : Option ℕ). nat_lt 0 (homes_due old.o old.loaded (word_reads old.o i t))) table ∙ wants)
      (subst (λ (stated : Result SymPlace ElfError). Answers old.told (wanted (extended_index_word s i) old) (result_map special.Section r) stated) (sym (place_extended special.Special special.Section old.o s i x is))
      (mapped_answers old.told (wanted (extended_index_word s i) old) special.Section r (extended_index old.o s i) came))

  pub extended_looks : {T U : Type 0} (g : Ghosts S) (new : State S) (r : Result T ElfError) (q : Result U ElfError) → x.shndx ≡ SHN_XINDEX → (IfErr q IsRefusal → IfErr r IsRefusal)
      → ReadRose q (g.faults old.source) (g.faults new.source) → Looks g (extended_index_word s i) r old new → Looks g place q old new
  extended_looks g new r q is settled read looks = record {
    object = looks.object;
    reads = subst (λ (t : Option ℕ). Reads g q old new (word_reads old.o i t) (word_reads old.o i t) (homes_due old.o old.loaded (word_reads old.o i t))) (sym (table_extended old.told old.o s x is))
        (reads_then g r q old new ((extended_index_word s i).reads old.o) ((extended_index_word s i).reads old.o) (due (extended_index_word s i) old.o old.loaded) settled read looks.reads);
  }

  -- nothing is read
  pub place_unread : {T : Type 0} (g : Ghosts S) (x : T) → Looks g place (Ok x) old old
  place_unread g x = record { object = refl; reads = reads_nothing g (Ok x) old (place.reads old.o) (place.reads old.o) (due place old.o old.loaded) tt }

-- ---- The symbol did not come

module _ {S : Type 0} (g : Ghosts S) (old new : State S) (s p i : ℕ) where
  -- what is read besides the symbol's home
  abbrev others : List ℕ
  others =
      filter (λ x. not (list_any (λ y. y == x) ((calls.sym s p i).reads old.o)))
      (after_look (sym_answer old.o s p i) (λ x. (symbol_place old.told s i x).reads old.o) [])

  pub symbol_refused : (e : ElfError) → Answers old.told (wanted (calls.sym s p i) old) (Err e) (sym_answer old.o s p i)
      → AnswersRead old.told (wanted (symbol_shndx_place old.told s p i) old) (symshndx_refusals old.o s p i) (Err e) ((symbol_shndx_place old.told s p i).answer old.o)
  unfolding with_others homes_due
  symbol_refused Memory came = (sym_may_want old.o s p i came.1, or_left _ _ came.0)
  symbol_refused Read came =
      let both = sym (sum_by-append (home_due old.o old.loaded) ((calls.sym s p i).reads old.o) others) in
      (sym_may_want old.o s p i came.1, subst (λ (n : ℕ). IsTrue (nat_lt 0 n)) both (sum_pos (homes_due old.o old.loaded ((calls.sym s p i).reads old.o)) (homes_due old.o old.loaded others) came.0))
  symbol_refused e came = inl (sym_refused old.o s p i e came, ap (λ (r : Result Sym ElfError). r >>= λ x. (symbol_place old.told s i x).answer old.o) came)

  pub symbol_unlooked : {T U : Type 0} (e : ElfError) → Queries {T = T} g (calls.sym s p i) ((calls.sym s p i).reads old.o) (Err e) old new → Looks {T = U} g (symbol_shndx_place old.told s p i) (Err e) old new
  unfolding with_others homes_due
  symbol_unlooked {T} {U} e asked =
      let first = (calls.sym s p i).reads old.o in
      let other = queries_err {T = T} {U = U} g (calls.sym s p i) first e old new asked in
      let both = sym (sum_by-append (home_due old.o old.loaded) first others) in
      record {
        object = asked.object;
        reads = subst (λ (n : ℕ). Reads {T = U} g (Err e) old new (first ++ others) (first ++ others) n) both
            (reads_wider {T = U} g (Err e) old new first others first others (homes_due old.o old.loaded first) (homes_due old.o old.loaded others) other.reads);
      }

-- ---- The symbol came

module _ {S : Type 0} (g : Ghosts S) (old mid new : State S) (s p i : ℕ) (x : Sym) (came : Answers old.told (wanted (calls.sym s p i) old) (Ok x) (sym_answer old.o s p i)) (looks : Looks g (calls.sym s p i) (Ok x) old mid) where
  -- the stated one
  stated : (y : Sym) × (sym_answer old.o s p i ≡ Ok y) × (IsTrue old.told → y ≡ x)
  stated = by_answer (sym_answer old.o s p i) refl came
    where
      by_answer : (r : Result Sym ElfError) → sym_answer old.o s p i ≡ r → IsOk r × (IsTrue old.told → r ≡ Ok x) → (y : Sym) × (sym_answer old.o s p i ≡ Ok y) × (IsTrue old.told → y ≡ x)
      by_answer (Ok y) is came = (y, is, λ told. let same = came.1 told in cc)
      by_answer (Err e) is came = cc

  abbrev second : Call SymPlace
  second = symbol_place old.told s i x

  abbrev whole : Call SymPlace
  whole = symbol_shndx_place old.told s p i

  looked_for : table_read old.told old.o s stated.0 ≡ table_read old.told old.o s x
  looked_for = same_table old.told old.o s x stated.0 stated.2

  first_reads : (calls.sym s p i).reads old.o ≡ when_piece_clean old.o s p
  first_reads = ap (λ (r : Result Sym ElfError). unless_refused (err_of r) (when_piece_clean old.o s p)) stated.1

  whole_reads : whole.reads old.o ≡ (calls.sym s p i).reads old.o ++ second.reads old.o
  whole_reads =
      ap (λ (r : Result Sym ElfError). with_others (unless_refused (err_of r) (when_piece_clean old.o s p)) (after_look r (λ y. (symbol_place old.told s i y).reads old.o) [])) stated.1
      ∙ ap (λ (t : Option ℕ). with_others (when_piece_clean old.o s p) (word_reads old.o i t)) looked_for
      ∙ both_read old.o s p i (sym_passed old.o s p i stated.0 stated.1).0 (table_read old.told old.o s x)
      ∙ ap (λ (l : List ℕ). l ++ second.reads old.o) (sym first_reads)

  whole_due : homes_due old.o old.loaded (whole.reads old.o) ≡ homes_due old.o old.loaded ((calls.sym s p i).reads old.o) + homes_due old.o old.loaded (second.reads old.o)
  unfolding homes_due
  whole_due = ap (homes_due old.o old.loaded) whole_reads ∙ sum_by-append (home_due old.o old.loaded) ((calls.sym s p i).reads old.o) (second.reads old.o)

  -- its place, told by the state in between
  second_there : (P : Bool → Object → Type 0) → P mid.told mid.o → P old.told old.o
  second_there P here = subst (λ (o : Object). P old.told o) looks.object (subst (λ (told : Bool). P told mid.o) looks.reads.told here)

  whole_answer : IsTrue old.told → whole.answer old.o ≡ second.answer old.o
  whole_answer told = ap (λ (r : Result Sym ElfError). r >>= λ y. (symbol_place old.told s i y).answer old.o) (came.1 told)

  -- where Memory and Read may come
  memory_stays : (table : Option ℕ) → IsTrue (word_memory old.o mid.loaded mid.held table) → IsTrue (word_memory old.o old.loaded old.held table)
  memory_stays None want = want
  memory_stays (Some table) want =
      by_held (holds_items old.o old.held table 0) (holds_items old.o mid.held table 0) (λ holds. subst (λ (o : Object). IsTrue (holds_items o mid.held table 0)) looks.object (looks.reads.holds_on table 0 holds)) want
    where
      by_held : (a b : Bool) → (IsTrue a → IsTrue b) → IsTrue (not b) → IsTrue (not a)
      by_held true b stays want = let holds = stays refl in cc
      by_held false b stays want = refl

  whole_memory : IsTrue (second.memory old.o mid.loaded mid.held) → IsTrue (wanted whole old).memory
  whole_memory want =
      or_right _ _
      (ap (λ (r : Result Sym ElfError). after_look r (λ y. (symbol_place old.told s i y).memory old.o old.loaded old.held) false) stated.1
      ∙ ap (word_memory old.o old.loaded old.held) looked_for
      ∙ memory_stays (table_read old.told old.o s x) want)

  whole_read : IsTrue (nat_lt 0 (homes_due old.o mid.loaded (second.reads old.o))) → IsTrue (wanted whole old).read
  whole_read want =
      let fewer = dues_stay old.o old.loaded mid.loaded (second.reads old.o) looks.reads.stays in
      let both = whole_due in
      more_pos (homes_due old.o mid.loaded (second.reads old.o)) (homes_due old.o old.loaded (whole.reads old.o)) (omega (arith, fewer, both)) want

  pub placed : (r : Result SymPlace ElfError) → Answers mid.told (wanted (symbol_place mid.told s i x) mid) r ((symbol_place mid.told s i x).answer mid.o)
      → AnswersRead old.told (wanted whole old) (symshndx_refusals old.o s p i) r (whole.answer old.o)
  placed r answer =
      by_result r
      (second_there (λ told o. Answers told (record { memory = (symbol_place told s i x).memory o mid.loaded mid.held; read = nat_lt 0 (homes_due o mid.loaded ((symbol_place told s i x).reads o)) }) r ((symbol_place told s i x).answer o)) answer)
    where
      by_result : (r : Result SymPlace ElfError)
          → Answers old.told (record { memory = second.memory old.o mid.loaded mid.held; read = nat_lt 0 (homes_due old.o mid.loaded (second.reads old.o)) }) r (second.answer old.o)
          → AnswersRead old.told (wanted whole old) (symshndx_refusals old.o s p i) r (whole.answer old.o)
      by_result (Ok z) answer = ((sym_passed old.o s p i stated.0 stated.1).1, λ told. whole_answer told ∙ answer.1 told)
      by_result (Err Memory) answer = ((sym_passed old.o s p i stated.0 stated.1).0, whole_memory answer.0)
      by_result (Err Read) answer = ((sym_passed old.o s p i stated.0 stated.1).0, whole_read answer.0)
      by_result (Err e) answer =
          inr ((sym_passed old.o s p i stated.0 stated.1).1, place_refused special.Special special.Section old.o s i x e answer, λ told. whole_answer told ∙ answer)

  pub placed_looks : (r : Result SymPlace ElfError) → Looks g (symbol_place mid.told s i x) r mid new → Looks g whole r old new
  placed_looks r next =
      let after : Looks g second r mid new = subst (λ (told : Bool). Looks g (symbol_place told s i x) r mid new) looks.reads.told next in
      let both = looks_both g (calls.sym s p i) second (Ok x) r old mid new tt looks after in
      record {
        object = both.0;
        reads = subst (λ (l : List ℕ). Reads g r old new l l (homes_due old.o old.loaded (whole.reads old.o))) (sym whole_reads)
            (subst (λ (n : ℕ). Reads g r old new ((calls.sym s p i).reads old.o ++ second.reads old.o) ((calls.sym s p i).reads old.o ++ second.reads old.o) n) (sym whole_due) both.1);
      }
