-- The two halves joined.
use Rattle.std.proofs.Common.{◌≡◌, ◌⊎◌, inl, inr, ℕ, ◌+◌, ◌≤◌, ◌&&◌, Bool, true, false, List, [], ◌∷◌, length, map, get_or, Option, Some, None, Result, Ok, Err, sym, ap, ◌∙◌, subst, arith}
use Rattle.std.specs.Prelude.{IsTrue, IfErr, OnOk, not, unwrap_or}
use Rattle.std.specs.List.{range_with_len}
use Rattle.std.specs.Option.{option_map}
use Rattle.std.proofs.lemmas.List.{ext_get_or}
use Rattle.std.proofs.lemmas.List.FromFn.{get_or-map-range_with_len, length-map-range_with_len}
use Rattle.elf_types.specs.declared.errors.ElfError.{ElfError}
use Rattle.elf_types.specs.declared.errors.ElfError.TheVariants.{Memory, Read, TooLarge}
use Rattle.elf_types.specs.Answers.{first_refusal, refused_if, answered, ◌>>=◌}
use Rattle.elf_outside.specs.declared.sources.Source.{Ghosts}
use Rattle.rebuild_keep.specs.elf_object.Object.{Object, section_at, absent_section}
use Rattle.rebuild_keep.specs.elf_object.Calls.{newphdr_refusal}
use Rattle.rebuild_keep.specs.elf_object.Due.{all_sections}
use Rattle.rebuild_keep.specs.elf_object.Layout.{section_numbers}
use Rattle.elf_types.specs.declared.constants.TheConstants.{PN_XNUM}
use Rattle.elf_types.specs.declared.errors.ElfError.TheVariants.{TooMany}
use Rattle.std.specs.Prelude.{nat_le}
use Rattle.rebuild_keep.specs.elf_descriptor.State.{State}
use Rattle.rebuild_keep.specs.rebuild_model.Arranged.{Rebuilt, tail_of, over_base, arranged}
use Rattle.rebuild_keep.specs.rebuild_model.Rebuilt.{assembled, index_refusal, rebuilt_tail}
use Rattle.rebuild_keep.specs.rebuild_model.Split.{UnstripFault, combined_sections, combined_tail, combined_object, combined_raw_refusal, combine_fault, counterpart, matches, or_elf, unstripped}
use Rattle.rebuild_keep.specs.rebuild_model.Split.{UnstripFault as stated}
use Rattle.rebuild_keep.specs.elf_object.Answers.{raw_refusal}
use Rattle.rebuild_keep.specs.rebuild_making.Based.{IsMadeOver}
use Rattle.rebuild_keep.specs.rebuild_making.Placing.{made_of, arranged_refusal, arranged_state}
use Rattle.rebuild_keep.specs.Makes.{AsksFor}
use Rattle.rebuild_keep.proofs.AskLaws.{asks_as, asks_more, asks_nothing, asks_memory, asks_stop, asks_twice}
use Rattle.rebuild_keep.proofs.NumberLaws.{sections_all}
use Rattle.rebuild_keep.proofs.RebuildLaws.{small_if, small_raw, arrange_large, placed_told}
use Rattle.rebuild_join.specs.declared.joined.faults.UnstripFault.{UnstripFault as Fault}
use Rattle.rebuild_join.specs.declared.joined.faults.UnstripFault.TheVariants as faults
use Rattle.rebuild_join.specs.Joined.Answers.{stated_fault, UnstripAnswers, EarlyFault, on_stripped, homes_of_stripped, stripped_due, debug_due}
use Rattle.rebuild_join.specs.Joined.Filled.{FillsJoined, Joins}
use Rattle.rebuild_join.proofs.joined.FaultLaws.{AreSmallFaults, small_on_elf, small_on_debug, small_first, early_fault, fault_answers}
use Rattle.rebuild_join.proofs.joined.FilledLaws.{combine_mismatch}

-- ---- The base

listed : {X : Type 0} (l : List X) (d : X)
    → map (λ s. get_or l s d) (range_with_len 0 (length l)) ≡ l
listed l d =
    let long = length-map-range_with_len (λ s. get_or l s d) 0 (length l) in
    ext_get_or d (map (λ s. get_or l s d) (range_with_len 0 (length l))) l long
    (λ k inside. get_or-map-range_with_len (λ s. get_or l s d) 0 (length l) k k d
    (omega (arith, inside, long)) (omega arith))

sections_listed : (o : Object) → map (section_at o) (all_sections o) ≡ o.sections
unfolding section_at
sections_listed o = listed o.sections absent_section

-- nothing is removed of the stripped half
pub whole_tail : (o : Object) (tail : Option ℕ) → tail ≡ rebuilt_tail o [] → tail ≡ combined_tail o
unfolding rebuilt_tail
whole_tail o tail is =
    is
    ∙ ap (λ (l : List ℕ). tail_of o (map (section_at o) l)) (sections_all o)
    ∙ ap (tail_of o) (sections_listed o)

-- ---- No early refusal is that of a place

small_all : (f : ℕ → Option UnstripFault) (l : List ℕ) → ((s : ℕ) → AreSmallFaults (f s))
    → AreSmallFaults (first_refusal (map f l))
small_all f [] each = tt
small_all f (s ∷ l) each = small_first (f s) (map f l) (each s) (small_all f l each)

module _ (a b : Object) where
  small_mismatch : (t : Bool) → AreSmallFaults (refused_if t stated.Mismatch)
  small_mismatch true = tt
  small_mismatch false = tt

  small_section : (s : ℕ) → AreSmallFaults (combined_raw_refusal a b s)
  unfolding combined_raw_refusal
  small_section s = by (counterpart a b s)
    where
      by : (found : Option ℕ) → AreSmallFaults (elim found [
        | None ↦ option_map stated.Debug (raw_refusal b s)
        | Some t ↦ option_map stated.Elf (raw_refusal a t)
      ])
      by None = small_on_debug (raw_refusal b s)
      by (Some t) = small_on_elf (raw_refusal a t) (small_raw a t)

  pub small_combine : AreSmallFaults (combine_fault a b)
  unfolding combine_fault
  small_combine =
      let segments = option_map stated.Elf (newphdr_refusal (length a.phdrs)) in
      let sections = first_refusal (map (combined_raw_refusal a b) (section_numbers b)) in
      let header = option_map stated.Debug
      (index_refusal a (combined_sections a b) b.header.shstrndx) in
      small_first (refused_if (not (matches a b)) stated.Mismatch)
      (segments ∷ sections ∷ header ∷ []) (small_mismatch (not (matches a b)))
      (small_first segments (sections ∷ header ∷ [])
      (small_on_elf (newphdr_refusal (length a.phdrs))
      (small_if (nat_le PN_XNUM (length a.phdrs)) TooMany tt))
      (small_first sections (header ∷ [])
      (small_all (combined_raw_refusal a b) (section_numbers b) small_section)
      (small_first header []
      (small_on_debug (index_refusal a (combined_sections a b) b.header.shstrndx)) tt)))

  -- ---- Answers

  pub unstripped_refused : (f : UnstripFault) → combine_fault a b ≡ Some f → unstripped a b ≡ Err f
  unfolding unstripped
  unstripped_refused f is =
      ap (λ (r : Option UnstripFault).
      answered r (made_of (combined_object a b) (combined_tail a)) >>= λ r. or_elf (arranged r)) is

  pub unstripped_passed : combine_fault a b ≡ None
      → unstripped a b ≡ or_elf (arranged (made_of (combined_object a b) (combined_tail a)))
  unfolding unstripped
  unstripped_passed is =
      ap (λ (r : Option UnstripFault).
      answered r (made_of (combined_object a b) (combined_tail a)) >>= λ r. or_elf (arranged r)) is

-- what holds of want of memory and of a failed read
either : (P : ElfError → Type 0) (e : ElfError) → P Memory → P Read → (e ≡ Memory) ⊎ (e ≡ Read)
    → P e
either P e memory read (inl is) = subst P (sym is) memory
either P e memory read (inr is) = subst P (sym is) read

-- ---- An answer of another type, and a step before

module _ {S T : Type 0} (g : Ghosts S) (h : Ghosts T) where
  pub joins_value : {A B : Type 0} (x : A) (y : B) (seen : Result Rebuilt UnstripFault) (due : ℕ)
      (old new : State S) (debug after : State T) → Joins g h seen (Ok x) due old new debug after
      → Joins g h seen (Ok y) due old new debug after
  joins_value x y seen due old new debug after is = record {
    answer = is.answer;
    passed = is.passed;
    early = tt;
    asks_stripped = is.asks_stripped;
    asks_debug = is.asks_debug;
  }

  pub joins_fault : {A B : Type 0} (f : Fault) (seen : Result Rebuilt UnstripFault) (due : ℕ)
      (old new : State S) (debug after : State T)
      → Joins {A = A} g h seen (Err f) due old new debug after
      → Joins {A = B} g h seen (Err f) due old new debug after
  joins_fault f seen due old new debug after is = record {
    answer = is.answer;
    passed = tt;
    early = is.early;
    asks_stripped = is.asks_stripped;
    asks_debug = is.asks_debug;
  }

  pub joins_after : {A B : Type 0} (r : Result B ElfError) (q : Result A Fault)
      (seen : Result Rebuilt UnstripFault) (n : ℕ) (due : Object → ℕ) (old mid new : State S)
      (debug after : State T) → AsksFor g r old mid n
      → Joins g h seen q (due mid.o) mid new debug after
      → Joins g h seen q (n + due old.o) old new debug after
  joins_after r q seen n due old mid new debug after first second = record {
    answer = λ t u.
        subst (λ (o : Object). UnstripAnswers seen (unstripped o debug.o)) first.object
        (second.answer (subst (λ (b : Bool). IsTrue b) (sym first.told) t) u);
    passed = subst (λ (o : Object). OnOk q (combine_fault o debug.o ≡ None)) first.object
        second.passed;
    early = subst (λ (o : Object).
        IfErr q (λ f. EarlyFault (combine_fault o debug.o) (stated_fault f))) first.object
        second.early;
    asks_stripped = asks_twice g r (on_stripped q) old mid new n (due old.o) first
        (subst (λ (o : Object). AsksFor g (on_stripped q) mid new (due o)) first.object
        second.asks_stripped);
    asks_debug = second.asks_debug;
  }

  pub joins_as : {A : Type 0} (q : Result A Fault) (seen : Result Rebuilt UnstripFault) (n m : ℕ)
      (old new : State S) (debug after : State T) → n ≡ m
      → Joins g h seen q n old new debug after → Joins g h seen q m old new debug after
  joins_as q seen n m old new debug after same is =
      subst (λ (k : ℕ). Joins g h seen q k old new debug after) same is

  -- ---- Where it ends early

  -- memory is wanted, or the stripped half is not read
  pub joins_stripped : {A B : Type 0} (e : ElfError) (n due : ℕ) (old mid : State S)
      (debug : State T) → n ≤ due → (e ≡ Memory) ⊎ (e ≡ Read)
      → AsksFor {T = B} g (Err e) old mid n
      → Joins {A = A} g h (Err (stated.Elf e)) (Err (faults.Elf e)) due old mid debug debug
  joins_stripped {A} {B} e n due old mid debug less only asks = record {
    answer = λ t u. either (λ d.
        UnstripAnswers {A = Rebuilt} (Err (stated.Elf d)) (unstripped old.o debug.o)) e tt tt only;
    passed = tt;
    early = either (λ d. EarlyFault (combine_fault old.o debug.o) (stated.Elf d)) e tt tt only;
    asks_stripped = asks_more g {T = Unit {0}} (Err e) old mid n due less
        (asks_stop g {T = B} {U = Unit {0}} e old mid n asks);
    asks_debug = asks_nothing h {T = Unit {0}} (Ok tt) debug (debug_due debug.o) tt;
  }

  module _ {A : Type 0} (old : State S) (debug : State T) (due : ℕ) where
    pub joins_wanted : (e : ElfError) → e ≡ Memory
        → Joins {A = A} g h (Err (stated.Elf e)) (Err (faults.Elf e)) due old old debug debug
    joins_wanted e is =
        joins_stripped {A = A} {B = Unit {0}} e due due old old debug (omega arith) (inl is)
        (asks_memory g {U = Unit {0}} old due e is)

    -- memory is wanted for the debug half
    pub joins_debug : (e : ElfError) → e ≡ Memory
        → Joins {A = A} g h (Err (stated.Debug e)) (Err (faults.Debug e)) due old old debug debug
    joins_debug e is = record {
      answer = λ t u. subst (λ (d : ElfError).
          UnstripAnswers {A = Rebuilt} (Err (stated.Debug d)) (unstripped old.o debug.o))
          (sym is) tt;
      passed = tt;
      early = subst (λ (d : ElfError). EarlyFault (combine_fault old.o debug.o) (stated.Debug d))
          (sym is) tt;
      asks_stripped = asks_nothing g {T = Unit {0}} (Ok tt) old due tt;
      asks_debug = asks_memory h {U = Unit {0}} debug (debug_due debug.o) e is;
    }

    -- they do not match
    pub joins_mismatch : matches old.o debug.o ≡ false
        → Joins {A = A} g h (Err stated.Mismatch) (Err faults.Mismatch) due old old debug debug
    joins_mismatch other =
        let is = combine_mismatch old.o debug.o other in record {
          answer = λ t u. unstripped_refused old.o debug.o stated.Mismatch is;
          passed = tt;
          early = is;
          asks_stripped = asks_nothing g {T = Unit {0}} (Ok tt) old due tt;
          asks_debug = asks_nothing h {T = Unit {0}} (Ok tt) debug (debug_due debug.o) tt;
        }

  -- ---- What was filled is the stated object

  module _ {M : Type 0} (old new : State S) (debug after : State T) (made : State M)
      (tail : Option ℕ) where
    -- it can not be filled
    pub joins_refused : {A : Type 0} (filled : State M) (f : Fault)
        → FillsJoined g h (Err f) old new debug after made filled
        → Joins {A = A} g h (Err (stated_fault f)) (Err f) (homes_of_stripped old.o)
        old new debug after
    joins_refused filled f fills = record {
      answer = λ t u.
          fault_answers (combine_fault old.o debug.o) (stated_fault f) (unstripped old.o debug.o)
          (unstripped_refused old.o debug.o (stated_fault f)) fills.fault;
      passed = tt;
      early = early_fault (combine_fault old.o debug.o) (stated_fault f)
          (small_combine old.o debug.o) fills.fault;
      asks_stripped = fills.asks_stripped;
      asks_debug = fills.asks_debug;
    }

    module _ (filled placed : State M) (tail_is : tail ≡ combined_tail old.o)
        (created : IsMadeOver old.told old.o tail made)
        (fills : FillsJoined g h (Ok (tt {0})) old new debug after made filled) where
      both_tell : (a b : Bool) → IsTrue a → IsTrue b → IsTrue (a && b)
      both_tell true b t u = u
      both_tell false b t u = t

      object_is : IsTrue old.told → IsTrue debug.told → filled.o ≡ combined_object old.o debug.o
      unfolding combined_object
      object_is t u =
          let is = fills.filled_is in
          is.object
          ∙ ap (λ (m : Object). assembled m old.o debug.o.header.shstrndx is.sections)
          (created.exact t ∙ ap (over_base old.o) tail_is)
          ∙ ap (assembled (over_base old.o (combined_tail old.o)) old.o debug.o.header.shstrndx)
          (is.exact (both_tell old.told debug.told t u))

      stated_is : IsTrue old.told → IsTrue debug.told
          → unstripped old.o debug.o ≡ or_elf (arranged (made_of filled.o tail))
      stated_is t u =
          unstripped_passed old.o debug.o fills.passed
          ∙ ap (λ (m : Object). or_elf (arranged (made_of m (combined_tail old.o))))
          (sym (object_is t u))
          ∙ ap (λ (n : Option ℕ). or_elf (arranged (made_of filled.o n))) (sym tail_is)

      pub joins_placed : ◌≡◌ {A = Result Rebuilt ElfError} (Ok (made_of placed.o tail))
          (arranged (made_of filled.o tail))
          → Joins {A = Unit {0}} g h (Ok (made_of placed.o tail)) (Ok tt)
          (homes_of_stripped old.o) old new debug after
      joins_placed came = record {
        answer = λ t u. stated_is t u ∙ ap or_elf (sym came);
        passed = fills.passed;
        early = tt;
        asks_stripped = fills.asks_stripped;
        asks_debug = fills.asks_debug;
      }

      pub joins_unplaced : (e : ElfError)
          → ◌≡◌ {A = Result Rebuilt ElfError} (Err e) (arranged (made_of filled.o tail))
          → ◌≡◌ {A = Result (Unit {0}) ElfError} (Err e)
          (answered (arranged_refusal filled.o tail) tt)
          → Joins {A = Unit {0}} g h (Err (stated.Elf e)) (Err (faults.Elf e))
          (homes_of_stripped old.o) old new debug after
      joins_unplaced e came answer =
          let large = arrange_large filled.o tail e answer in
          let ok : Result (Unit {0}) ElfError = Ok tt in
          let none : Result (Unit {0}) ElfError = Err TooLarge in
          subst (λ (d : ElfError). Joins {A = Unit {0}} g h (Err (stated.Elf d))
          (Err (faults.Elf d)) (homes_of_stripped old.o) old new debug after) (sym large) (record {
            answer = λ t u. stated_is t u
                ∙ ap or_elf (sym came ∙ ap (λ (d : ElfError). Err d) large);
            passed = tt;
            early = fills.passed;
            asks_stripped = asks_as g ok none old new (homes_of_stripped old.o) tt
                fills.asks_stripped;
            asks_debug = fills.asks_debug;
          })

      pub made_told : placed ≡ arranged_state filled tail → placed.told ≡ true
      made_told steps =
          ap (λ (s : State M). s.told) steps
          ∙ placed_told filled tail
          ∙ fills.filled_is.told_is
          ∙ created.made_is.told

-- ---- What is known after the base was read

module _ {S : Type 0} (old mid : State S) (is : mid ≡ record old { source = mid.source }) where
  pub base_object : mid.o ≡ old.o
  base_object = ap (λ (s : State S). s.o) is

  pub base_told : mid.told ≡ old.told
  base_told = ap (λ (s : State S). s.told) is

pub stripped_due_is : (o : Object) (tail : Option ℕ) → tail ≡ combined_tail o
    → unwrap_or tail 0 + homes_of_stripped o ≡ stripped_due o
unfolding stripped_due
stripped_due_is o tail is = ap (λ (t : Option ℕ). unwrap_or t 0 + homes_of_stripped o) is

pub base_less : (o : Object) (tail : Option ℕ) → tail ≡ combined_tail o
    → unwrap_or tail 0 ≤ stripped_due o
base_less o tail is = let same = stripped_due_is o tail is in omega (arith, same)
