-- Steps that read a symbol table and its strings, one after another: each home is read once.
use Rattle.std.proofs.Common.{◌≡◌, ◌==◌, ◌+◌, ◌<◌, ◌≤◌, ℕ, Bool, true, false, not, cond, ◌||◌, List, [], ◌∷◌, ◌++◌, Option, None, Result, Ok, Err, refl, sym, ◌∙◌, subst, inl, inr, arith}
use Rattle.std.specs.Prelude.{IsTrue, IfErr, Contains, is_none, nat_lt, if◌then◌else◌}
use Rattle.std.proofs.lemmas.Bool.{ltb-true, eqb-true}
use Rattle.elf_types.specs.declared.errors.ElfError.{ElfError}
use Rattle.elf_types.specs.declared.errors.ElfError.TheVariants.{Memory, Read, Write, Unsorted}
use Rattle.elf_types.specs.declared.records.Sym.{Sym}
use Rattle.elf_types.specs.Answers.{IsRefusal, err_of}
use Rattle.elf_outside.specs.declared.sources.Source.{Ghosts}
use Rattle.elf_outside.specs.Asks.{ReadRose}
use Rattle.elf_outside.proofs.AskLemmas.{read_rose_on}
use Rattle.symbol_lookup.specs.elf_object.Words.{Answers, AnswersRead, Refusals}
use Rattle.symbol_lookup.specs.elf_object.Object.{Object, section_at, piece_at, home_is_clean}
use Rattle.symbol_lookup.specs.elf_object.Due.{is_loaded, homes_due, is_refused_unread, when_clean, when_piece_clean, with_others}
use Rattle.symbol_lookup.specs.elf_object.Calls.{Call, sym_answer}
use Rattle.symbol_lookup.specs.elf_object.Calls as calls
use Rattle.symbol_lookup.specs.elf_object.Strings.{string_answer, strptr}
use Rattle.symbol_lookup.specs.elf_descriptor.State.{State}
use Rattle.symbol_lookup.specs.elf_descriptor.Reads.{Reads, Queries, Looks, wanted}
use Rattle.symbol_lookup.proofs.elf_descriptor.ReadsLaws.{reads_then, reads_nothing, dues_stay, reads_among}
use Rattle.symbol_lookup.specs.Lookups.{link_of, table_homes}
use Rattle.symbol_lookup.proofs.SearchLaws.{IsFew, reads_few, few_due}
use Rattle.hash_build.specs.Calls.{IsWantOrUnsorted}
use Rattle.hash_build.specs.Tables.{MayStop, MayStopUnsorted, ReadsTable, ReadsInOrder}
use Rattle.hash_build.specs.Reading.{no_hash}

-- ---- Homes that a call reads

unless_few : (refused : Bool) (few l : List ℕ) → IsFew few l
    → IsFew (if refused then [] else few) l
unless_few true few l is = inl refl
unless_few false few l is = is

module _ (s l : ℕ) where
  abbrev one_of : Bool → ℕ → List ℕ
  one_of t k = if t then k ∷ [] else []

  abbrev both : Bool → List ℕ
  both same = (s ∷ []) ++ cond (not (same || false)) (l ∷ []) []

  has_first : (t : Bool) (others : List ℕ) → IsFew (one_of t s) (with_others (one_of t s) others)
  unfolding with_others
  has_first true others = inr (s, refl, (0, omega arith, refl))
  has_first false others = inl refl

  there_other : (t : Bool) → Contains (with_others (one_of t s) (one_of true l)) l
  unfolding with_others
  there_other false = (0, omega arith, refl)
  there_other true = by_same (s == l) refl
    where
      by_same : (same : Bool) → (s == l) ≡ same → Contains (both (s == l)) l
      by_same true known =
          subst (λ (b : Bool). Contains (both b) l) (sym known) (0, omega arith, eqb-true s l known)
      by_same false known =
          subst (λ (b : Bool). Contains (both b) l) (sym known) (1, omega arith, refl)

  has_other : (t u : Bool) → IsFew (one_of u l) (with_others (one_of t s) (one_of u l))
  has_other t false = inl refl
  has_other t true = inr (l, refl, there_other t)

pub symbols_few : (o : Object) (s i : ℕ) → IsFew ((calls.sym s 0 i).reads o) (table_homes o s)
unfolding table_homes when_piece_clean when_clean
symbols_few o s i =
    unless_few (is_refused_unread (err_of (sym_answer o s 0 i))) _ _
    (has_first s (link_of o s) (is_none (piece_at o s 0).own) _)

linked_few : (o : Object) (s offset : ℕ)
    → IsFew ((strptr (link_of o s) offset).reads o) (table_homes o s)
unfolding table_homes when_piece_clean when_clean
linked_few o s offset =
    unless_few (is_refused_unread (err_of (string_answer o (link_of o s) offset))) _ _
    (has_other s (link_of o s) (is_none (piece_at o s 0).own)
    (home_is_clean (section_at o (link_of o s))))

pub strings_few : (o : Object) (s strings offset : ℕ) → strings ≡ link_of o s
    → IsFew ((strptr strings offset).reads o) (table_homes o s)
strings_few o s strings offset is =
    subst (λ (n : ℕ). IsFew ((strptr n offset).reads o) (table_homes o s)) (sym is)
    (linked_few o s offset)

due_some : (o : Object) (loaded : List Bool) (few l : List ℕ) → IsFew few l
    → IsTrue (nat_lt 0 (homes_due o loaded few)) → 0 < homes_due o loaded l
due_some o loaded few l within want =
    let some = ltb-true 0 (homes_due o loaded few) want in
    let fewer = few_due o loaded few l within in
    omega (arith, some, fewer)

module _ {S : Type 0} (g : Ghosts S) (s : ℕ) where
  -- ---- One call

  -- a call that reads few homes of those of the table
  asked_step : {A T U : Type 0} (c : Call A) (holding : List ℕ) (r : Result T ElfError)
      (q : Result U ElfError) (old new : State S) → IsFew (c.reads old.o) (table_homes old.o s)
      → IsFew holding (table_homes old.o s) → (IfErr q IsRefusal → IfErr r IsRefusal)
      → ReadRose q (g.faults old.source) (g.faults new.source) → IfErr q (MayStop old s)
      → Queries g c holding r old new → ReadsTable g s q old new
  asked_step c holding r q old new few held settled read ended asked = record {
    object = asked.object;
    reads = reads_few g q old new (c.reads old.o) holding (table_homes old.o s) few held
        (reads_then g r q old new (c.reads old.o) holding
        (homes_due old.o old.loaded (c.reads old.o)) settled read asked.reads);
    ended = ended;
  }

  module _ (old new : State S) (i : ℕ) where
    pub symbol_found : (x : Sym) → Looks {T = Sym} g (calls.sym s 0 i) (Ok x) old new
        → ReadsTable {T = Sym} g s (Ok x) old new
    symbol_found x looks =
        asked_step (calls.sym s 0 i) _ (Ok x) (Ok x) old new (symbols_few old.o s i)
        (symbols_few old.o s i) (λ is. is) tt tt looks

    pub symbol_lost : (told : Bool) (e : ElfError) (stated : Result Sym ElfError)
        → Answers told (wanted (calls.sym s 0 i) old) (Err e) stated
        → Looks {T = Sym} g (calls.sym s 0 i) (Err e) old new
        → ReadsTable {T = Option ℕ} g s (no_hash e) old new
    unfolding no_hash
    symbol_lost told Memory stated came looks =
        asked_step (calls.sym s 0 i) _ (Err Memory) (Err Memory) old new (symbols_few old.o s i)
        (symbols_few old.o s i) (λ is. is) tt tt looks
    symbol_lost told Read stated came looks =
        asked_step (calls.sym s 0 i) _ (Err Read) (Err Read) old new (symbols_few old.o s i)
        (symbols_few old.o s i) (λ is. is) looks.reads.source.read
        (due_some old.o old.loaded _ (table_homes old.o s) (symbols_few old.o s i) came.0) looks
    symbol_lost told Write stated came looks = absurd looks.reads.source.read
    symbol_lost told e stated came looks =
        asked_step (calls.sym s 0 i) _ (Err e) (Ok None) old new (symbols_few old.o s i)
        (symbols_few old.o s i) (λ is. tt) tt tt looks

  module _ (old new : State S) (strings offset : ℕ) (link : strings ≡ link_of old.o s) where
    pub string_found : {T U : Type 0} (r : Result T ElfError) (x : T) (y : U) → r ≡ Ok x
        → Queries g (strptr strings offset) [] r old new → ReadsTable {T = U} g s (Ok y) old new
    string_found r x y is asked =
        asked_step (strptr strings offset) [] r (Ok y) old new
        (strings_few old.o s strings offset link) (inl refl)
        (λ h. subst (λ r. IfErr r IsRefusal) (sym is) tt) tt tt asked

    pub string_lost : {T : Type 0} (told : Bool) (refusals : Refusals) (e : ElfError)
        (stated : Result (List ℕ) ElfError) (r : Result T ElfError) → r ≡ Err e
        → AnswersRead told (wanted (strptr strings offset) old) refusals (Err e) stated
        → Queries g (strptr strings offset) [] r old new
        → ReadsTable {T = Option ℕ} g s (no_hash e) old new
    unfolding no_hash
    string_lost {T} told refusals e stated r is came asked =
        by_error e came (subst (λ (r : Result T ElfError).
        Queries g (strptr strings offset) [] r old new) is asked)
      where
        by_error : (e : ElfError)
            → AnswersRead told (wanted (strptr strings offset) old) refusals (Err e) stated
            → Queries {T = T} g (strptr strings offset) [] (Err e) old new
            → ReadsTable {T = Option ℕ} g s (no_hash e) old new
        by_error Memory came asked =
            asked_step (strptr strings offset) [] (Err Memory) (Err Memory) old new
            (strings_few old.o s strings offset link) (inl refl) (λ h. h) tt tt asked
        by_error Read came asked =
            asked_step (strptr strings offset) [] (Err Read) (Err Read) old new
            (strings_few old.o s strings offset link) (inl refl) (λ h. h)
            asked.reads.source.read
            (due_some old.o old.loaded _ (table_homes old.o s)
            (strings_few old.o s strings offset link) came.1) asked
        by_error Write came asked = absurd asked.reads.source.read
        by_error e came asked =
            asked_step (strptr strings offset) [] (Err e) (Ok None) old new
            (strings_few old.o s strings offset link) (inl refl) (λ h. tt) tt tt asked

  -- ---- Steps

  -- nothing is read
  pub table_nothing : {T : Type 0} (x : T) (state : State S) → ReadsTable g s (Ok x) state state
  table_nothing x state = record {
    object = refl;
    reads = reads_nothing g (Ok x) state (table_homes state.o s) (table_homes state.o s)
        (homes_due state.o state.loaded (table_homes state.o s)) tt;
    ended = tt;
  }

  -- another value, and want of memory behind a value
  pub table_value : {T U : Type 0} (x : T) (y : U) (old new : State S)
      → ReadsTable g s (Ok x) old new → ReadsTable g s (Ok y) old new
  table_value x y old new first = record {
    object = first.object;
    reads = reads_then g (Ok x) (Ok y) old new (table_homes old.o s) (table_homes old.o s)
        (homes_due old.o old.loaded (table_homes old.o s)) (λ is. tt) tt first.reads;
    ended = tt;
  }

  pub table_memory : {T U : Type 0} (x : T) (e : ElfError) (old new : State S) → e ≡ Memory
      → ReadsTable g s (Ok x) old new → ReadsTable {T = U} g s (Err e) old new
  table_memory {T} {U} x e old new is first =
      subst (λ (e : ElfError). ReadsTable {T = U} g s (Err e) old new) (sym is) (record {
        object = first.object;
        reads = reads_then g (Ok x) (Err Memory) old new (table_homes old.o s)
            (table_homes old.o s) (homes_due old.o old.loaded (table_homes old.o s)) (λ is. tt)
            tt first.reads;
        ended = tt;
      })

  -- what wants memory alone behind a value
  pub table_wants : {T U : Type 0} (x : T) (r : Result U ElfError) (old new : State S)
      → IfErr r (λ e. e ≡ Memory) → ReadsTable g s (Ok x) old new → ReadsTable g s r old new
  table_wants x (Ok y) old new is first = table_value x y old new first
  table_wants {T} {U} x (Err e) old new is first = table_memory {U = U} x e old new is first

  -- an error is passed on
  pub table_end : {T U : Type 0} (e : ElfError) (old new : State S)
      → ReadsTable {T = T} g s (Err e) old new → ReadsTable {T = U} g s (Err e) old new
  table_end {T} {U} e old new first =
      let r : Result T ElfError = Err e in
      let l : Result U ElfError = Err e in record {
        object = first.object;
        reads = reads_then g r l old new (table_homes old.o s) (table_homes old.o s)
            (homes_due old.o old.loaded (table_homes old.o s)) (λ is. is)
            (read_rose_on T U e _ _ first.reads.source.read) first.reads;
        ended = first.ended;
      }

  -- what is due does not rise
  stops_before : (old mid : State S) → mid.o ≡ old.o
      → ((i : ℕ) → IsTrue (is_loaded old.loaded i) → IsTrue (is_loaded mid.loaded i))
      → (e : ElfError) → MayStop mid s e → MayStop old s e
  stops_before old mid same stays Memory may = tt
  stops_before old mid same stays Read may =
      let some = subst (λ (o : Object). 0 < homes_due o mid.loaded (table_homes o s)) same may in
      omega (arith, some, dues_stay old.o old.loaded mid.loaded (table_homes old.o s) stays)
  stops_before old mid same stays e may = absurd may

  ended_before : {T : Type 0} (old mid : State S) (q : Result T ElfError)
      → ((e : ElfError) → MayStop mid s e → MayStop old s e) → IfErr q (MayStop mid s)
      → IfErr q (MayStop old s)
  ended_before old mid (Ok x) before ended = tt
  ended_before old mid (Err e) before ended = before e ended

  -- one step after another
  pub table_both : {T U : Type 0} (x : T) (q : Result U ElfError) (old mid new : State S)
      → ReadsTable g s (Ok x) old mid → ReadsTable g s q mid new → ReadsTable g s q old new
  table_both x q old mid new first second =
      let same = first.object in
      let homes = table_homes old.o s in
      let later : Reads g q mid new homes homes (homes_due mid.o mid.loaded homes) =
      subst (λ (o : Object). Reads g q mid new (table_homes o s) (table_homes o s)
      (homes_due mid.o mid.loaded (table_homes o s))) same second.reads in
      record {
        object = second.object ∙ same;
        reads = reads_among g x q old mid new homes homes same first.reads later;
        ended = ended_before old mid q (stops_before old mid same first.reads.stays) second.ended;
      }

  -- ---- Symbols out of their order

  want_rose : {U : Type 0} (q : Result U ElfError) (a b : ℕ) → IfErr q IsWantOrUnsorted
      → ReadRose q a b
  want_rose (Ok y) a b is = tt
  want_rose (Err Memory) a b is = tt
  want_rose (Err (Unsorted at)) a b is = tt
  want_rose (Err e) a b is = absurd is

  want_stops : {U : Type 0} (q : Result U ElfError) (old : State S) → IfErr q IsWantOrUnsorted
      → IfErr q (MayStopUnsorted old s)
  want_stops (Ok y) old is = tt
  want_stops (Err Memory) old is = tt
  want_stops (Err (Unsorted at)) old is = tt
  want_stops (Err e) old is = absurd is

  -- what is found in what was read
  pub order_found : {T U : Type 0} (x : T) (q : Result U ElfError) (old new : State S)
      → IfErr q IsWantOrUnsorted → ReadsTable g s (Ok x) old new → ReadsInOrder g s q old new
  order_found x q old new is first = record {
    object = first.object;
    reads = reads_then g (Ok x) q old new (table_homes old.o s) (table_homes old.o s)
        (homes_due old.o old.loaded (table_homes old.o s)) (λ h. tt) (want_rose q _ _ is)
        first.reads;
    ended = want_stops q old is;
  }

  stops_too : (old : State S) (e : ElfError) → MayStop old s e → MayStopUnsorted old s e
  stops_too old Memory may = tt
  stops_too old Read may = may
  stops_too old e may = absurd may

  pub order_end : {T U : Type 0} (e : ElfError) (old new : State S)
      → ReadsTable {T = T} g s (Err e) old new → ReadsInOrder {T = U} g s (Err e) old new
  order_end {T} {U} e old new first =
      let r : Result T ElfError = Err e in
      let l : Result U ElfError = Err e in record {
        object = first.object;
        reads = reads_then g r l old new (table_homes old.o s) (table_homes old.o s)
            (homes_due old.o old.loaded (table_homes old.o s)) (λ is. is)
            (read_rose_on T U e _ _ first.reads.source.read) first.reads;
        ended = stops_too old e first.ended;
      }
