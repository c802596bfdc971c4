-- The sections of two halves, one after another.
use Rattle.std.proofs.Common.{◌≡◌, ℕ, ◌+◌, ◌-◌, ◌<◌, ◌≤◌, ◌&&◌, Bool, true, List, [], ◌∷◌, ◌++◌, length, map, Option, Some, None, Result, Ok, Err, refl, sym, ap, ◌∙◌, subst, arith}
use Rattle.std.specs.List.{flat_map, range_with_len}
use Rattle.std.proofs.lemmas.List.{length-map, map-append}
use Rattle.std.proofs.lemmas.List.FromFn.{length-range_with_len}
use Rattle.elf_types.specs.declared.errors.ElfError.{ElfError}
use Rattle.elf_types.specs.Answers.{first_refusal}
use Rattle.elf_outside.specs.declared.sources.Source.{Ghosts}
use Rattle.rebuild_keep.specs.elf_object.Object.{Object}
use Rattle.rebuild_keep.specs.elf_object.Due.{homes_due}
use Rattle.rebuild_keep.specs.elf_object.Layout.{section_numbers}
use Rattle.rebuild_keep.specs.elf_object.Valid.{IsObject}
use Rattle.rebuild_keep.specs.elf_descriptor.State.{State}
use Rattle.rebuild_keep.specs.rebuild_model.Split.{UnstripFault, allocated, combined_section, combined_raw_refusal, matches}
use Rattle.rebuild_keep.specs.Makes.{AsksFor}
use Rattle.rebuild_keep.proofs.AskLaws.{asks_nothing, asks_twice, asks_more}
use Rattle.rebuild_join.specs.declared.joined.faults.UnstripFault.{UnstripFault as Fault}
use Rattle.rebuild_join.specs.Joined.Answers.{stated_fault, FaultBy, elf_error, debug_error}
use Rattle.rebuild_join.specs.Joined.Joined.{allocated_below, stripped_reads, debug_reads, HasMoreSections, AddsNext, AddsAll}
use Rattle.rebuild_join.proofs.joined.FaultLaws.{fault_on, met_later, passed_later}
use Rattle.rebuild_join.proofs.joined.LoadedLaws.{numbers_next, numbers_after, numbers_split, below_one, debug_homes, stripped_homes}
use Rattle.rebuild_join.proofs.joined.MatchLaws.{match_many}
use Rattle.rebuild_join.proofs.joined.MoreLaws.{more_none, more_both, more_as, more_count, more_class, due_more, due_less}

-- ---- The refusals of those below a number

module _ (refusal : ℕ → Option UnstripFault) (s : ℕ) (first : 1 ≤ s)
    (none : first_refusal (map refusal (range_with_len 1 (s - 1))) ≡ None) where
  pub passed_more : refusal s ≡ None
      → first_refusal (map refusal (range_with_len 1 (s + 1 - 1))) ≡ None
  passed_more here =
      ap (λ (l : List ℕ). first_refusal (map refusal l)) (numbers_next s first)
      ∙ ap first_refusal (map-append refusal (range_with_len 1 (s - 1)) (s ∷ []))
      ∙ passed_later (map refusal (range_with_len 1 (s - 1))) (refusal s) none here

  pub met_here : (n : ℕ) → s < n → (f : UnstripFault) → refusal s ≡ Some f
      → first_refusal (map refusal (range_with_len 1 (n - 1))) ≡ Some f
  met_here n there f here =
      let after = map refusal (numbers_after n s first there) in
      ap (λ (l : List ℕ). first_refusal (map refusal l)) (numbers_split n s first there)
      ∙ ap first_refusal
      (map-append refusal (range_with_len 1 (s - 1)) (s ∷ numbers_after n s first there))
      ∙ ap (λ (r : Option UnstripFault).
      first_refusal (map refusal (range_with_len 1 (s - 1)) ++ r ∷ after)) here
      ∙ met_later (map refusal (range_with_len 1 (s - 1))) after f none

-- ---- So many are added

pub record JoinsBelow {S T M : Type 0} (g : Ghosts S) (h : Ghosts T) (old now : State S)
    (debug later : State T) (made grown : State M) (taken s : ℕ) : Type 0 where
  pub count : taken ≡ length (allocated_below debug.o s)
  pub more : HasMoreSections (old.told && debug.told)
      (map (combined_section old.o debug.o) (range_with_len 1 (s - 1))) made grown
  pub passed : first_refusal
      (map (combined_raw_refusal old.o debug.o) (range_with_len 1 (s - 1))) ≡ None
  pub asks_stripped : AsksFor {T = Unit {0}} g (Ok tt) old now
      (homes_due old.o [] (flat_map (stripped_reads old.o debug.o) (range_with_len 1 (s - 1))))
  pub asks_debug : AsksFor {T = Unit {0}} h (Ok tt) debug later
      (homes_due debug.o [] (flat_map (debug_reads old.o debug.o) (range_with_len 1 (s - 1))))

-- what is said of two objects and of what their sources tell
carried : {S T : Type 0} (P : Object → Bool → Object → Bool → Type 0) (old now : State S)
    (debug later : State T) → now.o ≡ old.o → now.told ≡ old.told → later.o ≡ debug.o
    → later.told ≡ debug.told → P now.o now.told later.o later.told
    → P old.o old.told debug.o debug.told
carried P old now debug later one one_told other other_told is =
    subst (λ (t : Bool). P old.o old.told debug.o t) other_told
    (subst (λ (o : Object). P old.o old.told o later.told) other
    (subst (λ (t : Bool). P old.o t later.o later.told) one_told
    (subst (λ (o : Object). P o now.told later.o later.told) one is)))

module _ {S T M : Type 0} (g : Ghosts S) (h : Ghosts T) (old : State S) (debug : State T)
    (made : State M) where
  abbrev So : State S → State T → State M → ℕ → ℕ → Type 0
  So now later grown taken s = JoinsBelow g h old now debug later made grown taken s

  pub joins_none : IsObject made.o → So old debug made 0 1
  joins_none is = record {
    count = sym (ap (λ (l : List ℕ). length l) (below_one debug.o));
    more = more_none (old.told && debug.told) made is.shnum;
    passed = refl;
    asks_stripped = asks_nothing g {T = Unit {0}} (Ok tt) old (homes_due old.o [] []) tt;
    asks_debug = asks_nothing h {T = Unit {0}} (Ok tt) debug (homes_due debug.o [] []) tt;
  }

  module _ (now : State S) (later : State T) (grown : State M) (taken s : ℕ) (first : 1 ≤ s)
      (there : s < length debug.o.sections) (so_far : So now later grown taken s) where
    -- ---- What the next one asks for
    one : now.o ≡ old.o
    one = so_far.asks_stripped.object

    one_told : now.told ≡ old.told
    one_told = so_far.asks_stripped.told

    other : later.o ≡ debug.o
    other = so_far.asks_debug.object

    other_told : later.told ≡ debug.told
    other_told = so_far.asks_debug.told

    pub next_matches : matches old.o debug.o ≡ true → matches now.o later.o ≡ true
    next_matches same = ap (λ (o : Object). matches o later.o) one
        ∙ ap (matches old.o) other ∙ same

    pub next_loaded : (l : List ℕ) → l ≡ allocated old.o → l ≡ allocated now.o
    next_loaded l is = is ∙ sym (ap allocated one)

    pub next_taken : taken ≡ length (allocated_below later.o s)
    next_taken =
        so_far.count ∙ sym (ap (λ (o : Object). length (allocated_below o s)) other)

    pub next_there : s < length later.o.sections
    next_there = subst (λ (o : Object). s < length o.sections) (sym other) there

    pub next_made : length made.o.sections ≡ 1 → length grown.o.sections ≡ s
    next_made single =
        let listed = range_with_len 1 (s - 1) in
        omega (
          arith,
          single,
          first,
          more_count (old.told && debug.told) (map (combined_section old.o debug.o) listed) made
              grown so_far.more,
          length-map listed (combined_section old.o debug.o),
          length-range_with_len 1 (s - 1),
        )

    pub next_class : made.o.header.class ≡ old.o.header.class
        → grown.o.header.class ≡ now.o.header.class
    next_class same =
        more_class (old.told && debug.told)
        (map (combined_section old.o debug.o) (range_with_len 1 (s - 1))) made grown so_far.more
        ∙ same
        ∙ sym (ap (λ (o : Object). o.header.class) one)

    -- ---- What it gives, of the halves as they were
    stated : (P : Object → Bool → Object → Bool → Type 0)
        → P now.o now.told later.o later.told → P old.o old.told debug.o debug.told
    stated P is = carried P old now debug later one one_told other other_told is

    asked_stripped : (q : Result (Unit {0}) ElfError) (next : State S)
        → AsksFor g q now next (homes_due now.o [] (stripped_reads now.o later.o s))
        → AsksFor g q old next
        (homes_due old.o [] (flat_map (stripped_reads old.o debug.o) (range_with_len 1 (s - 1)))
        + homes_due old.o [] (stripped_reads old.o debug.o s))
    asked_stripped q next asks =
        asks_twice g {T = Unit {0}} {U = Unit {0}} (Ok tt) q old now next
        (homes_due old.o [] (flat_map (stripped_reads old.o debug.o) (range_with_len 1 (s - 1))))
        (homes_due old.o [] (stripped_reads old.o debug.o s)) so_far.asks_stripped
        (stated (λ a t b u. AsksFor g q now next (homes_due a [] (stripped_reads a b s))) asks)

    asked_debug : (q : Result (Unit {0}) ElfError) (next : State T)
        → AsksFor h q later next (homes_due later.o [] (debug_reads now.o later.o s))
        → AsksFor h q debug next
        (homes_due debug.o [] (flat_map (debug_reads old.o debug.o) (range_with_len 1 (s - 1)))
        + homes_due debug.o [] (debug_reads old.o debug.o s))
    asked_debug q next asks =
        asks_twice h {T = Unit {0}} {U = Unit {0}} (Ok tt) q debug later next
        (homes_due debug.o [] (flat_map (debug_reads old.o debug.o) (range_with_len 1 (s - 1))))
        (homes_due debug.o [] (debug_reads old.o debug.o s)) so_far.asks_debug
        (stated (λ a t b u. AsksFor h q later next (homes_due b [] (debug_reads a b s))) asks)

    pub joins_more : (next : State S) (after : State T) (bigger : State M) (n : ℕ)
        → AddsNext g h s (Ok n) now next later after grown bigger
        → So next after bigger n (s + 1)
    joins_more next after bigger n adds = record {
      count = adds.next ∙ ap (λ (o : Object). length (allocated_below o (s + 1))) other;
      more =
          let listed = range_with_len 1 (s - 1) in
          let f = combined_section old.o debug.o in
          more_as (old.told && debug.told) (map f listed ++ f s ∷ [])
          (map f (range_with_len 1 (s + 1 - 1))) made bigger
          (sym (ap (map f) (numbers_next s first) ∙ map-append f listed (s ∷ [])))
          (more_both (old.told && debug.told) (map f listed) (f s ∷ []) made grown bigger
          so_far.more
          (stated (λ a t b u. HasMoreSections (t && u) (combined_section a b s ∷ []) grown bigger)
          adds.adds));
      passed = passed_more (combined_raw_refusal old.o debug.o) s first so_far.passed
          (stated (λ a t b u. combined_raw_refusal a b s ≡ None) adds.passed);
      asks_stripped = subst (λ (k : ℕ). AsksFor {T = Unit {0}} g (Ok tt) old next k)
          (due_more old.o (stripped_reads old.o debug.o) s first)
          (asked_stripped (Ok tt) next adds.asks_stripped);
      asks_debug = subst (λ (k : ℕ). AsksFor {T = Unit {0}} h (Ok tt) debug after k)
          (due_more debug.o (debug_reads old.o debug.o) s first)
          (asked_debug (Ok tt) after adds.asks_debug);
    }

    -- ---- Where it is refused
    pub joins_stop : matches old.o debug.o ≡ true → (next : State S) (after : State T)
        (bigger : State M) (f : Fault)
        → AddsNext g h s (Err f) now next later after grown bigger
        → AddsAll g h (Err f) old next debug after made bigger
    joins_stop same next after bigger f adds =
        let some : 0 < length debug.o.sections = omega (arith, there) in
        let many = match_many old.o debug.o same in
        let n = length debug.o.sections in
        record {
          adds = tt;
          passed = tt;
          fault = fault_on (combined_raw_refusal old.o debug.o s)
              (first_refusal (map (combined_raw_refusal old.o debug.o) (section_numbers debug.o)))
              (stated_fault f)
              (met_here (combined_raw_refusal old.o debug.o) s first so_far.passed n there
              (stated_fault f))
              (stated (λ a t b u. FaultBy (combined_raw_refusal a b s) (stated_fault f)) adds.fault);
          asks_stripped = subst (λ (l : List ℕ).
              AsksFor g (elf_error f) old next (homes_due old.o [] l))
              (stripped_homes old.o debug.o many some)
              (asks_more g (elf_error f) old next
              (homes_due old.o [] (flat_map (stripped_reads old.o debug.o)
              (range_with_len 1 (s - 1)))
              + homes_due old.o [] (stripped_reads old.o debug.o s))
              (homes_due old.o [] (flat_map (stripped_reads old.o debug.o)
              (section_numbers debug.o)))
              (due_less old.o (stripped_reads old.o debug.o) s first n there)
              (asked_stripped (elf_error f) next adds.asks_stripped));
          asks_debug = subst (λ (l : List ℕ).
              AsksFor h (debug_error f) debug after (homes_due debug.o [] l))
              (debug_homes old.o debug.o many some)
              (asks_more h (debug_error f) debug after
              (homes_due debug.o [] (flat_map (debug_reads old.o debug.o)
              (range_with_len 1 (s - 1)))
              + homes_due debug.o [] (debug_reads old.o debug.o s))
              (homes_due debug.o [] (flat_map (debug_reads old.o debug.o)
              (section_numbers debug.o)))
              (due_less debug.o (debug_reads old.o debug.o) s first n there)
              (asked_debug (debug_error f) after adds.asks_debug));
        }

  -- ---- After the last one
  pub joins_all : matches old.o debug.o ≡ true → 0 < length debug.o.sections → (now : State S)
      (later : State T) (grown : State M) (taken s : ℕ) → s ≡ length debug.o.sections
      → So now later grown taken s → AddsAll g h (Ok (tt {0})) old now debug later made grown
  joins_all same some now later grown taken s all so_far =
      let many = match_many old.o debug.o same in record {
        adds = subst (λ (n : ℕ). HasMoreSections (old.told && debug.told)
            (map (combined_section old.o debug.o) (range_with_len 1 (n - 1))) made grown) all
            so_far.more;
        passed = subst (λ (n : ℕ). first_refusal
            (map (combined_raw_refusal old.o debug.o) (range_with_len 1 (n - 1))) ≡ None) all
            so_far.passed;
        fault = tt;
        asks_stripped = subst (λ (l : List ℕ).
            AsksFor {T = Unit {0}} g (Ok tt) old now (homes_due old.o [] l))
            (stripped_homes old.o debug.o many some)
            (subst (λ (n : ℕ). AsksFor {T = Unit {0}} g (Ok tt) old now (homes_due old.o []
            (flat_map (stripped_reads old.o debug.o) (range_with_len 1 (n - 1))))) all
            so_far.asks_stripped);
        asks_debug = subst (λ (l : List ℕ).
            AsksFor {T = Unit {0}} h (Ok tt) debug later (homes_due debug.o [] l))
            (debug_homes old.o debug.o many some)
            (subst (λ (n : ℕ). AsksFor {T = Unit {0}} h (Ok tt) debug later (homes_due debug.o []
            (flat_map (debug_reads old.o debug.o) (range_with_len 1 (n - 1))))) all
            so_far.asks_debug);
      }
