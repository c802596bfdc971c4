-- Steps that read among some homes, one after another: each home is read once.
use Rattle.std.proofs.Common.{◌≡◌, ◌+◌, ◌<◌, ◌≤◌, ℕ, Bool, true, false, List, [], ◌∷◌, Result, Ok, Err, refl, sym, ◌∙◌, subst, inl, inr, arith}
use Rattle.std.specs.Prelude.{IsTrue, IfErr, Contains, is_none, nat_lt, if◌then◌else◌, Option}
use Rattle.std.proofs.lemmas.Bool.{ltb-true}
use Rattle.elf_types.specs.declared.errors.ElfError.{ElfError}
use Rattle.elf_types.specs.declared.errors.ElfError.TheVariants.{Memory, Read}
use Rattle.elf_types.specs.Answers.{IsRefusal}
use Rattle.elf_outside.specs.declared.sources.Source.{Ghosts}
use Rattle.elf_outside.specs.Asks.{ReadRose}
use Rattle.elf_outside.proofs.AskLemmas.{read_rose_on}
use Rattle.symbol_lookup.specs.elf_object.Object.{Object, piece_at}
use Rattle.symbol_lookup.specs.elf_object.Due.{is_loaded, homes_due, is_refused_unread, unless_refused, when_piece_clean}
use Rattle.symbol_lookup.specs.elf_object.Calls.{Call}
use Rattle.symbol_lookup.specs.elf_descriptor.State.{State}
use Rattle.symbol_lookup.specs.elf_descriptor.Reads.{Reads, Queries}
use Rattle.symbol_lookup.proofs.elf_descriptor.ReadsLaws.{reads_then, reads_nothing, dues_stay, reads_among}
use Rattle.symbol_lookup.proofs.SearchLaws.{IsFew, reads_few, few_due}
use Rattle.hash_order.specs.Reading.{MayStopReading, ReadsHomes}

-- ---- Homes that a call reads

unless_few : (refused : Bool) (few l : List ℕ) → IsFew few l
    → IsFew (if refused then [] else few) l
unless_few true few l is = inl refl
unless_few false few l is = is

when_few : (clean : Bool) (n : ℕ) (l : List ℕ) → (IsTrue clean → Contains l n)
    → IsFew (if clean then n ∷ [] else []) l
when_few true n l there = inr (n, refl, there refl)
when_few false n l there = inl refl

pub piece_few : (o : Object) (refusal : Option ElfError) (n : ℕ) (homes : List ℕ)
    → (IsTrue (is_none (piece_at o n 0).own) → Contains homes n)
    → IsFew (unless_refused refusal (when_piece_clean o n 0)) homes
unfolding when_piece_clean
piece_few o refusal n homes there =
    unless_few (is_refused_unread refusal) _ homes
    (when_few (is_none (piece_at o n 0).own) n homes there)

pub due_some : (o : Object) (loaded : List Bool) (few l : List ℕ) → IsFew few l
    → IsTrue (nat_lt 0 (homes_due o loaded few)) → 0 < homes_due o loaded l
due_some o loaded few l within want =
    let some = ltb-true 0 (homes_due o loaded few) want in
    let fewer = few_due o loaded few l within in
    omega (arith, some, fewer)

-- ---- Steps

module _ {S : Type 0} (g : Ghosts S) (homes : List ℕ) where
  -- what wants memory alone
  pub want_rose : {U : Type 0} (q : Result U ElfError) (a b : ℕ) → IfErr q (λ e. e ≡ Memory)
      → ReadRose q a b
  want_rose (Ok y) a b is = tt
  want_rose {U} (Err e) a b is =
      subst (λ (d : ElfError). ReadRose {T = U} (Err d) a b) (sym is) tt

  pub want_stops : {U : Type 0} (q : Result U ElfError) (old : State S) → IfErr q (λ e. e ≡ Memory)
      → IfErr q (MayStopReading old homes)
  want_stops (Ok y) old is = tt
  want_stops (Err e) old is = subst (λ (d : ElfError). MayStopReading old homes d) (sym is) tt

  -- nothing is read
  pub homes_nothing : {T : Type 0} (x : T) (state : State S)
      → ReadsHomes {T = T} g homes (Ok x) state state
  homes_nothing x state = record {
    object = refl;
    reads = reads_nothing g (Ok x) state homes homes (homes_due state.o state.loaded homes) tt;
    ended = tt;
  }

  -- a call that reads few of the homes
  pub homes_step : {A T U : Type 0} (c : Call A) (holding : List ℕ) (r : Result T ElfError)
      (q : Result U ElfError) (old new : State S) → IsFew (c.reads old.o) homes
      → IsFew holding homes → (IfErr q IsRefusal → IfErr r IsRefusal)
      → ReadRose q (g.faults old.source) (g.faults new.source) → IfErr q (MayStopReading old homes)
      → Queries g c holding r old new → ReadsHomes g homes q old new
  homes_step c holding r q old new few held settled read ended asked = record {
    object = asked.object;
    reads = reads_few g q old new (c.reads old.o) holding homes few held
        (reads_then g r q old new (c.reads old.o) holding
        (homes_due old.o old.loaded (c.reads old.o)) settled read asked.reads);
    ended = ended;
  }

  -- another value, or want of memory, behind a value
  pub homes_wants : {T U : Type 0} (x : T) (q : Result U ElfError) (old new : State S)
      → IfErr q (λ e. e ≡ Memory) → ReadsHomes {T = T} g homes (Ok x) old new
      → ReadsHomes g homes q old new
  homes_wants x q old new is first = record {
    object = first.object;
    reads = reads_then g (Ok x) q old new homes homes (homes_due old.o old.loaded homes)
        (λ h. tt) (want_rose q _ _ is) first.reads;
    ended = want_stops q old is;
  }

  -- an error is passed on
  pub homes_end : {T U : Type 0} (e : ElfError) (old new : State S)
      → ReadsHomes {T = T} g homes (Err e) old new → ReadsHomes {T = U} g homes (Err e) old new
  homes_end {T} {U} e old new first =
      let r : Result T ElfError = Err e in
      let q : Result U ElfError = Err e in record {
        object = first.object;
        reads = reads_then g r q old new homes homes (homes_due old.o old.loaded homes)
            (λ is. is) (read_rose_on T U e _ _ first.reads.source.read) first.reads;
        ended = first.ended;
      }

  -- what is due does not rise
  stops_before : (old mid : State S) → mid.o ≡ old.o
      → ((i : ℕ) → IsTrue (is_loaded old.loaded i) → IsTrue (is_loaded mid.loaded i))
      → (e : ElfError) → MayStopReading mid homes e → MayStopReading old homes e
  stops_before old mid same stays Memory may = tt
  stops_before old mid same stays Read may =
      let some = subst (λ (o : Object). 0 < homes_due o mid.loaded homes) same may in
      omega (arith, some, dues_stay old.o old.loaded mid.loaded homes stays)
  stops_before old mid same stays e may = absurd may

  pub ended_before : {T : Type 0} (old mid : State S) (q : Result T ElfError) → mid.o ≡ old.o
      → ((i : ℕ) → IsTrue (is_loaded old.loaded i) → IsTrue (is_loaded mid.loaded i))
      → IfErr q (MayStopReading mid homes) → IfErr q (MayStopReading old homes)
  ended_before old mid (Ok x) same stays ended = tt
  ended_before old mid (Err e) same stays ended = stops_before old mid same stays e ended

  -- one step after another
  pub homes_both : {T U : Type 0} (x : T) (q : Result U ElfError) (old mid new : State S)
      → ReadsHomes g homes (Ok x) old mid → ReadsHomes g homes q mid new
      → ReadsHomes g homes q old new
  homes_both x q old mid new first second = record {
    object = second.object ∙ first.object;
    reads = reads_among g x q old mid new homes homes first.object first.reads second.reads;
    ended = ended_before old mid q first.object first.reads.stays second.ended;
  }
