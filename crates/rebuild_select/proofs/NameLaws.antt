-- Names of sections, looked up one after another: the home of the names is read once.
use Rattle.std.proofs.Common.{◌≡◌, ◌==◌, ◌+◌, ◌<◌, ◌≤◌, ◌⊎◌, ℕ, Bool, true, false, List, [], Option, Result, Ok, Err, refl, sym, ap, ◌∙◌, subst, inl, inr, arith}
use Rattle.std.specs.Prelude.{IsTrue, IfErr, if◌then◌else◌}
use Rattle.std.proofs.lemmas.Bool.{ltb-true, lt-ltb}
use Rattle.elf_types.specs.declared.errors.ElfError.{ElfError}
use Rattle.elf_types.specs.declared.errors.ElfError.TheVariants.{Memory, Read}
use Rattle.rebuild_model.specs.elf_outside.declared.sources.Source.{Ghosts}
use Rattle.rebuild_model.proofs.elf_outside.AskLemmas.{read_rose_on}
use Rattle.rebuild_model.specs.elf_object.Words.{Answers}
use Rattle.rebuild_model.specs.elf_object.Object.{Object}
use Rattle.rebuild_model.specs.elf_object.Due.{is_loaded, homes_due, when_clean, is_refused_unread, unless_refused}
use Rattle.gelf_view.specs.elf_descriptor.State.{State}
use Rattle.gelf_view.specs.elf_descriptor.Reads.{Reads, Queries, wanted}
use Rattle.gelf_view.proofs.elf_descriptor.ReadsLaws.{reads_then, reads_nothing, reads_wider, reads_within, dues_stay, reads_among}
use Rattle.gelf_view.specs.SectionNames.{name_reads, read_section_name}
use Rattle.rebuild_select.specs.Calls.{names_home, MayEndReadingNames, ReadsNames, numbers_call, found_by_name}

-- what a call that is not refused answers
pub ok_injective : {T : Type 0} (a b : T) → ◌≡◌ {A = Result T ElfError} (Ok a) (Ok b) → a ≡ b
ok_injective a b h = cc

-- ---- One name

-- it reads the home of the names, or nothing
home_cases : (o : Object) (s : ℕ) → (name_reads s o ≡ names_home o) ⊎ (name_reads s o ≡ [])
unfolding names_home
home_cases o s = by_index (o.header.shstrndx == 0) (when_clean o o.header.shstrndx) _
  where
    by_refusal : (b : Bool) (home : List ℕ)
        → ((if b then [] else home) ≡ home) ⊎ ((if b then [] else home) ≡ [])
    by_refusal true home = inr refl
    by_refusal false home = inl refl

    by_index : (b : Bool) (home : List ℕ) (refusal : Option ElfError)
        → ((if b then [] else unless_refused refusal home) ≡ (if b then [] else home))
        ⊎ ((if b then [] else unless_refused refusal home) ≡ [])
    by_index true home refusal = inl refl
    by_index false home refusal = by_refusal (is_refused_unread refusal) home

none_due : (o : Object) (loaded : List Bool) → homes_due o loaded [] ≡ 0
unfolding homes_due
none_due o loaded = refl

due_within : (o : Object) (loaded : List Bool) (s : ℕ)
    → homes_due o loaded (name_reads s o) ≤ homes_due o loaded (names_home o)
due_within o loaded s = elim (home_cases o s) [
  | inl same ↦ rw same (omega arith)
  | inr none ↦ rw none (omega (arith, none_due o loaded))
]

module _ {S : Type 0} (g : Ghosts S) where
  reads_home : {T : Type 0} (r : Result T ElfError) (old new : State S) (s : ℕ)
      → Reads g r old new (name_reads s old.o) []
      (homes_due old.o old.loaded (name_reads s old.o))
      → Reads g r old new (names_home old.o) []
      (homes_due old.o old.loaded (names_home old.o))
  reads_home r old new s reads = by_case (home_cases old.o s)
    where
      by_case : (name_reads s old.o ≡ names_home old.o) ⊎ (name_reads s old.o ≡ [])
          → Reads g r old new (names_home old.o) []
          (homes_due old.o old.loaded (names_home old.o))
      by_case (inl same) =
          subst (λ (l : List ℕ). Reads g r old new l [] (homes_due old.o old.loaded l)) same reads
      by_case (inr none) =
          reads_within g r old new (names_home old.o) []
          (homes_due old.o old.loaded [] + homes_due old.o old.loaded (names_home old.o))
          (homes_due old.o old.loaded (names_home old.o))
          (omega (arith, none_due old.o old.loaded))
          (reads_wider g r old new [] (names_home old.o) [] [] (homes_due old.o old.loaded [])
          (homes_due old.o old.loaded (names_home old.o))
          (subst (λ (l : List ℕ). Reads g r old new l [] (homes_due old.o old.loaded l))
          none reads))

  -- how a look at a name ends
  pub name_ends : {A : Type 0} (old : State S) (s : ℕ) (told : Bool) (e : ElfError) (v : A)
      → Answers {A = A} told (wanted (read_section_name s) old) (Err e) (Ok v) → MayEndReadingNames old e
  name_ends old s told Memory v came = tt
  name_ends old s told Read v came =
      let some = ltb-true 0 (homes_due old.o old.loaded (name_reads s old.o)) came.0 in
      omega (arith, some, due_within old.o old.loaded s)
  name_ends old s told e v came = cc

  -- a look at a name that answers something
  pub name_value : {T U : Type 0} (x : T) (y : U) (old new : State S) (s : ℕ)
      → Queries g (read_section_name s) [] (Ok x) old new → ReadsNames g (Ok y) old new
  name_value x y old new s q = record {
    object = q.object;
    reads = reads_then g (Ok x) (Ok y) old new (names_home old.o) []
        (homes_due old.o old.loaded (names_home old.o)) (λ is. tt) tt
        (reads_home (Ok x) old new s q.reads);
    ended = tt;
  }

  -- one that is not answered
  pub name_end : {T U : Type 0} (e : ElfError) (old new : State S) (s : ℕ) → MayEndReadingNames old e
      → Queries {T = T} g (read_section_name s) [] (Err e) old new
      → ReadsNames {T = U} g (Err e) old new
  name_end {T} {U} e old new s may q =
      let r : Result T ElfError = Err e in
      let l : Result U ElfError = Err e in record {
        object = q.object;
        reads = reads_then g r l old new (names_home old.o) []
            (homes_due old.o old.loaded (names_home old.o)) (λ is. is)
            (read_rose_on T U e _ _ q.reads.source.read) (reads_home r old new s q.reads);
        ended = may;
      }

  -- a look at a section by its name
  pub found_reads : (names : List (List ℕ)) (debug told : Bool) (v : Bool)
      (r : Result Bool ElfError) (old new : State S) (s : ℕ)
      → Answers told (wanted (found_by_name names debug s) old) r (Ok v)
      → Queries g (found_by_name names debug s) [] r old new → ReadsNames g r old new
  found_reads names debug told v (Ok x) old new s came q =
      name_value x x old new s (record { object = q.object; reads = q.reads })
  found_reads names debug told v (Err e) old new s came q =
      name_end {T = Bool} e old new s (name_ends old s told e v came)
      (record { object = q.object; reads = q.reads })

  -- ---- Steps

  -- nothing is read
  pub names_nothing : {T : Type 0} (x : T) (s : State S) → ReadsNames g (Ok x) s s
  names_nothing x s = record {
    object = refl;
    reads = reads_nothing g (Ok x) s (names_home s.o) []
        (homes_due s.o s.loaded (names_home s.o)) tt;
    ended = tt;
  }

  -- another value, and want of memory behind a value
  pub names_value : {T U : Type 0} (x : T) (y : U) (old new : State S)
      → ReadsNames g (Ok x) old new → ReadsNames g (Ok y) old new
  names_value x y old new first = record {
    object = first.object;
    reads = reads_then g (Ok x) (Ok y) old new (names_home old.o) []
        (homes_due old.o old.loaded (names_home old.o)) (λ is. tt) tt first.reads;
    ended = tt;
  }

  pub names_memory : {T U : Type 0} (x : T) (e : ElfError) (old new : State S) → e ≡ Memory
      → ReadsNames g (Ok x) old new → ReadsNames {T = U} g (Err e) old new
  names_memory {T} {U} x e old new is first =
      subst (λ (e : ElfError). ReadsNames {T = U} g (Err e) old new) (sym is) (record {
        object = first.object;
        reads = reads_then g (Ok x) (Err Memory) old new (names_home old.o) []
            (homes_due old.o old.loaded (names_home old.o)) (λ is. tt) tt first.reads;
        ended = tt;
      })

  -- a push behind a value
  pub names_push : {T U : Type 0} (x : T) (r : Result U ElfError) (old new : State S)
      → IfErr r (λ e. e ≡ Memory) → ReadsNames g (Ok x) old new → ReadsNames g r old new
  names_push x (Ok y) old new is first = names_value x y old new first
  names_push {T} {U} x (Err e) old new is first = names_memory {U = U} x e old new is first

  -- an error is passed on
  pub names_end : {T U : Type 0} (e : ElfError) (old new : State S)
      → ReadsNames {T = T} g (Err e) old new → ReadsNames {T = U} g (Err e) old new
  names_end {T} {U} e old new first =
      let r : Result T ElfError = Err e in
      let l : Result U ElfError = Err e in record {
        object = first.object;
        reads = reads_then g r l old new (names_home old.o) []
            (homes_due old.o old.loaded (names_home old.o)) (λ is. is)
            (read_rose_on T U e _ _ first.reads.source.read) first.reads;
        ended = first.ended;
      }

  -- what is due does not rise
  ends_before : (old mid : State S) → mid.o ≡ old.o
      → ((i : ℕ) → IsTrue (is_loaded old.loaded i) → IsTrue (is_loaded mid.loaded i))
      → (e : ElfError) → MayEndReadingNames mid e → MayEndReadingNames old e
  ends_before old mid same stays Memory may = tt
  ends_before old mid same stays Read may =
      let some = subst (λ (o : Object). 0 < homes_due o mid.loaded (names_home o)) same may in
      omega (arith, some, dues_stay old.o old.loaded mid.loaded (names_home old.o) stays)
  ends_before old mid same stays e may = absurd may

  ended_before : {T : Type 0} (old mid : State S) (q : Result T ElfError)
      → ((e : ElfError) → MayEndReadingNames mid e → MayEndReadingNames old e) → IfErr q (MayEndReadingNames mid) → IfErr q (MayEndReadingNames old)
  ended_before old mid (Ok x) before ended = tt
  ended_before old mid (Err e) before ended = before e ended

  -- one step after another
  pub names_both : {T U : Type 0} (x : T) (q : Result U ElfError) (old mid new : State S)
      → ReadsNames g (Ok x) old mid → ReadsNames g q mid new → ReadsNames g q old new
  names_both x q old mid new first second =
      let same = first.object in
      let home = names_home old.o in
      let later : Reads g q mid new home [] (homes_due mid.o mid.loaded home) =
      subst (λ (o : Object).
      Reads g q mid new (names_home o) [] (homes_due mid.o mid.loaded (names_home o)))
      same second.reads in
      record {
        object = second.object ∙ same;
        reads = reads_among g x q old mid new home [] same first.reads later;
        ended = ended_before old mid q (ends_before old mid same first.reads.stays) second.ended;
      }

-- ---- The whole call

-- it answers as stated, or ends as it may
pub numbers_answer : {S : Type 0} (numbers : Object → List ℕ) (old : State S)
    (r : Result (List ℕ) ElfError) → IfErr r (MayEndReadingNames old)
    → (IsTrue old.told → (x : List ℕ) → r ≡ Ok x → x ≡ numbers old.o)
    → Answers old.told (wanted (numbers_call numbers) old) r (Ok (numbers old.o))
numbers_answer numbers old (Ok x) ended same =
    (refl, λ told. ap Ok (sym (same told x refl)))
numbers_answer numbers old (Err Memory) ended same = (refl, tt)
numbers_answer numbers old (Err Read) ended same =
    (lt-ltb 0 (homes_due old.o old.loaded (names_home old.o)) ended, tt)
numbers_answer numbers old (Err e) ended same = absurd ended

pub numbers_queries : {S : Type 0} (g : Ghosts S) (numbers : Object → List ℕ)
    (r : Result (List ℕ) ElfError) (old new : State S) → ReadsNames g r old new
    → Queries g (numbers_call numbers) [] r old new
numbers_queries g numbers r old new reads = record {
  object = reads.object;
  reads = reads.reads;
}
