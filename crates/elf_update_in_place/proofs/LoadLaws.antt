-- Homes that are read before the first write, one after the other.
use Rattle.std.proofs.Common.{◌≡◌, ℕ, zero, suc, ◌+◌, ◌-◌, ◌<◌, ◌≤◌, Bool, true, false, ◌||◌, List, [], ◌∷◌, ◌++◌, get_or, Option, Result, Ok, Err, refl, sym, ap, ◌∙◌, subst, arith, ⊎_elim}
use Rattle.std.specs.Prelude.{IsTrue, Contains, ◌==◌, cond, sum_by, if◌then◌else◌}
use Rattle.std.specs.List.{range_with_len, filter}
use Rattle.std.proofs.lemmas.Bool.{cases_lt, eqb-true, eqb-false}
use Rattle.std.proofs.lemmas.List.Elements.{filter-append}
use Rattle.std.proofs.lemmas.List.Sums.{sum_by-cons, sum_by-append}
use Rattle.elf_types.specs.Answers.{err_of}
use Rattle.elf_types.specs.declared.errors.ElfError.{ElfError}
use Rattle.elf_types.specs.declared.errors.ElfError.TheVariants.{Read}
use Rattle.elf_outside.specs.Asks.{Asks}
use Rattle.elf_outside.specs.declared.sources.Source.{Ghosts}
use Rattle.elf_outside.proofs.AskLemmas.{asks_both, asks_fewer}
use Rattle.elf_object.specs.Object.{Object, section_at}
use Rattle.elf_object.specs.Due.{is_loaded, home_due, homes_due, unless_refused, is_refused_unread}
use Rattle.elf_object.specs.Calls as calls
use Rattle.elf_object.specs.Calls.{raw_answer}
use Rattle.elf_update_to.specs.elf_descriptor.State.{State}
use Rattle.elf_update_to.specs.elf_descriptor.Reads.{Queries}
use Rattle.elf_update_to.proofs.law_object.writing.GapLaws.{split_range}
use Rattle.elf_update_in_place.specs.Rooms.{tells, CanLoad}
use Rattle.elf_update_in_place.specs.Loads.{LoadsSome, told_sections, LoadsHomes}

-- ---- One home

not_in : (b : Bool) (s i : ℕ) → (i == s) ≡ false → Contains (if b then [] else s ∷ []) i → ⊥
not_in true s i other c = let never = c.1 in absurd (omega (arith, never))
not_in false s i other c = by_index c.0 c.1 c.2
  where
    by_index : (k : ℕ) → k < 1 → get_or (s ∷ []) k i ≡ i → ⊥
    by_index zero h is = eqb-false i s other (sym is)
    by_index (suc k) h is = absurd (omega (arith, h))

not_among : (r : Option ElfError) (s i : ℕ) → (i == s) ≡ false
    → Contains (unless_refused r (s ∷ [])) i → ⊥
not_among r s i other c = not_in (is_refused_unread r) s i other c

not_in_none : (i : ℕ) → Contains [] i → ⊥
not_in_none i c = let never = c.1 in absurd (omega (arith, never))

one_due : (o : Object) (loaded : List Bool) (s : ℕ) (r : Option ElfError)
    → homes_due o loaded (unless_refused r (s ∷ [])) ≤ home_due o loaded s
unfolding homes_due
one_due o loaded s r = by_refusal (is_refused_unread r)
  where
    by_refusal : (b : Bool)
        → sum_by (home_due o loaded) (if b then [] else s ∷ []) ≤ home_due o loaded s
    by_refusal true = omega arith
    by_refusal false = let one = sum_by-cons (home_due o loaded) s [] in omega (arith, one)

other_than : (test : ℕ → Bool) (s i : ℕ) → test s ≡ true → test i ≡ false → (i == s) ≡ false
other_than test s i told none = by_number (i == s) refl
  where
    by_number : (b : Bool) → (i == s) ≡ b → b ≡ false
    by_number true e =
        let clash : true ≡ false = sym told ∙ ap test (sym (eqb-true i s e)) ∙ none in cc
    by_number false e = refl

unloaded_before : (x y : Bool) → (IsTrue x → IsTrue y) → y ≡ false → x ≡ false
unloaded_before true y stays none = let clash : true ≡ false = sym (stays refl) ∙ none in cc
unloaded_before false y stays none = refl

more_sections : (moves : List Bool) (s : ℕ) (b : Bool) → tells moves s ≡ b
    → told_sections moves (s + 1) ≡ told_sections moves s ++ cond b (s ∷ []) []
more_sections moves s b e =
    let at : 0 + s ≡ s = omega arith in
    ap (filter (tells moves)) (split_range 0 s 1)
    ∙ filter-append (tells moves) (range_with_len 0 s) (range_with_len (0 + s) 1)
    ∙ ap (λ (k : ℕ). told_sections moves s ++ filter (tells moves) (range_with_len k 1)) at
    ∙ ap (λ (t : Bool). told_sections moves s ++ cond t (s ∷ []) []) e

due_more : (f : ℕ → ℕ) (moves : List Bool) (s : ℕ) → tells moves s ≡ true
    → sum_by f (told_sections moves (s + 1)) ≡ sum_by f (told_sections moves s) + f s
due_more f moves s told =
    let all = ap (sum_by f) (more_sections moves s true told) in
    let both = sum_by-append f (told_sections moves s) (s ∷ []) in
    let one = sum_by-cons f s [] in
    omega (arith, all, both, one)

due_grows : (f : ℕ → ℕ) (moves : List Bool) (m n : ℕ) → m ≤ n
    → sum_by f (told_sections moves m) ≤ sum_by f (told_sections moves n)
due_grows f moves m n upto =
    let at : m + (n - m) ≡ n = omega (arith, upto) in
    let all : sum_by f (told_sections moves n)
    ≡ sum_by f (told_sections moves m
    ++ filter (tells moves) (range_with_len (0 + m) (n - m))) =
    ap (λ (k : ℕ). sum_by f (told_sections moves k)) (sym at)
    ∙ ap (λ (l : List ℕ). sum_by f (filter (tells moves) l)) (split_range 0 m (n - m))
    ∙ ap (sum_by f)
    (filter-append (tells moves) (range_with_len 0 m) (range_with_len (0 + m) (n - m))) in
    let both = sum_by-append f (told_sections moves m)
    (filter (tells moves) (range_with_len (0 + m) (n - m))) in
    omega (arith, all, both)

module _ {S : Type 0} where
  abbrev with_parts : State S → Object → Bool → Bool → State S
  with_parts e o told ready = record e { o = o; told = told; ready = ready }

  same_rest : (old new : State S) → new.o ≡ old.o → new.told ≡ old.told → new.ready ≡ old.ready
      → new ≡ record old {
        loaded = new.loaded;
        held = new.held;
        room = new.room;
        source = new.source;
      }
  same_rest old new object told ready =
      ap (λ (o : Object). with_parts new o new.told new.ready) object
      ∙ ap (λ (b : Bool). with_parts new old.o b new.ready) told
      ∙ ap (λ (b : Bool). with_parts new old.o old.told b) ready

  pub loads_none : (test : ℕ → Bool) (e : State S) → LoadsSome test e e
  loads_none test e = record {
    rest = refl;
    loads = λ i h. refl;
    stays = λ i h. h;
    held = λ i. refl;
    room = λ i h. refl;
  }

  pub loads_one : {A : Type 0} (g : Ghosts S) (r : Result A ElfError) (old new : State S) (s : ℕ)
      → Queries g (calls.raw s) [] r old new → LoadsSome (λ i. i == s) old new
  loads_one g r old new s q = record {
    rest = same_rest old new q.object q.reads.told q.reads.ready;
    loads = λ i h. q.reads.loads i (not_among (err_of (raw_answer old.o s)) s i h);
    stays = q.reads.stays;
    held = λ i. q.reads.holds i (not_in_none i);
    room = q.reads.room;
  }

  pub asks_one : {A : Type 0} (g : Ghosts S) (r : Result A ElfError) (old new : State S) (s : ℕ)
      → Queries g (calls.raw s) [] r old new
      → Asks g r old.source new.source (home_due old.o old.loaded s)
  asks_one g r old new s q =
      asks_fewer g r old.source new.source _ (home_due old.o old.loaded s)
      (one_due old.o old.loaded s (err_of (raw_answer old.o s))) q.reads.source

  pub asks_nothing : {A : Type 0} (g : Ghosts S) (x : A) (source : S) (n : ℕ)
      → Asks {T = A} g (Ok x) source source n
  asks_nothing g x source n = record {
    leaves = record { same_len = refl; same_bytes = refl; same_rest = refl };
    later = omega arith;
    read = tt;
    taken = record { later = omega arith; no_more = omega arith };
  }

  -- ---- Of each that moves

  loads_both : (test : ℕ → Bool) (s : ℕ) (a b c : State S) → LoadsSome test a b
      → LoadsSome (λ i. i == s) b c → test s ≡ true → LoadsSome test a c
  loads_both test s a b c first second told = record {
    rest = second.rest
        ∙ ap (λ (e : State S). record e {
          loaded = c.loaded;
          held = c.held;
          room = c.room;
          source = c.source;
        }) first.rest;
    loads = λ i h. second.loads i (other_than test s i told h) ∙ first.loads i h;
    stays = λ i h. second.stays i (first.stays i h);
    held = λ i. second.held i ∙ first.held i;
    room = λ i h.
        second.room i h ∙ first.room i
        (unloaded_before (is_loaded b.loaded i) (is_loaded c.loaded i) (second.stays i) h);
  }

  -- those before a number are read, where a list tells them
  pub record AreLoaded (g : Ghosts S) (moves : List Bool) (n : ℕ) (init now : State S) (s : ℕ)
      : Type 0 where
    pub within : s ≤ n
    pub some : LoadsSome (tells moves) init now
    pub later : (i : ℕ) → s ≤ i → is_loaded now.loaded i ≡ is_loaded init.loaded i
    pub loaded : (i : ℕ) → i < s → tells moves i ≡ true
        → (section_at init.o i).home.out ≡ false → IsTrue (is_loaded now.loaded i)
    pub asks : Asks g (Ok (tt {0})) init.source now.source
        (homes_due init.o init.loaded (told_sections moves s))

  pub loaded_first : (g : Ghosts S) (moves : List Bool) (n : ℕ) (e : State S)
      → AreLoaded g moves n e e 0
  loaded_first g moves n e = record {
    within = omega arith;
    some = loads_none (tells moves) e;
    later = λ i from. refl;
    loaded = λ i h. absurd (omega (arith, h));
    asks = asks_nothing g tt e.source (homes_due e.o e.loaded (told_sections moves 0));
  }

  same_due : (g : Ghosts S) (moves : List Bool) (n : ℕ) (init now : State S) (s : ℕ)
      → AreLoaded g moves n init now s
      → home_due now.o now.loaded s ≡ home_due init.o init.loaded s
  unfolding home_due
  same_due g moves n init now s are =
      ap (λ (e : State S). if is_loaded now.loaded s || (section_at e.o s).home.out then 0
      else (section_at e.o s).home.len) are.some.rest
      ∙ ap (λ (b : Bool). if b || (section_at init.o s).home.out then 0
      else (section_at init.o s).home.len) (are.later s (omega arith))

  pub can_load : (g : Ghosts S) (moves : List Bool) (n : ℕ) (init now : State S) (s : ℕ)
      → AreLoaded g moves n init now s → CanLoad init s → CanLoad now s
  can_load g moves n init now s are can =
      subst (λ (e : State S). (section_at e.o s).home.out ≡ false
      → IsTrue (is_loaded now.loaded s || is_loaded now.room s)) (sym are.some.rest)
      (λ inside. by_loaded (is_loaded now.loaded s) refl
      (subst (λ (b : Bool). IsTrue (b || is_loaded init.room s))
      (sym (are.later s (omega arith))) (can inside)))
    where
      by_loaded : (b : Bool) → is_loaded now.loaded s ≡ b
          → IsTrue (is_loaded now.loaded s || is_loaded init.room s)
          → IsTrue (is_loaded now.loaded s || is_loaded now.room s)
      by_loaded true e h =
          subst (λ (t : Bool). IsTrue (t || is_loaded now.room s)) (sym e) refl
      by_loaded false e h =
          subst (λ (t : Bool). IsTrue (is_loaded now.loaded s || t)) (sym (are.some.room s e)) h

  asks_so_far : {A : Type 0} (g : Ghosts S) (moves : List Bool) (n : ℕ) (r : Result A ElfError)
      (init now next : State S) (s : ℕ) → AreLoaded g moves n init now s
      → tells moves s ≡ true → Asks g r now.source next.source (home_due now.o now.loaded s)
      → Asks g r init.source next.source
      (homes_due init.o init.loaded (told_sections moves (s + 1)))
  unfolding homes_due
  asks_so_far g moves n r init now next s are told asks =
      let same = same_due g moves n init now s are in
      let more = due_more (home_due init.o init.loaded) moves s told in
      asks_fewer g r init.source next.source
      (sum_by (home_due init.o init.loaded) (told_sections moves s)
      + home_due now.o now.loaded s)
      (sum_by (home_due init.o init.loaded) (told_sections moves (s + 1)))
      (omega (arith, same, more))
      (asks_both g (Ok (tt {0})) r init.source now.source next.source
      (sum_by (home_due init.o init.loaded) (told_sections moves s))
      (home_due now.o now.loaded s) are.asks asks)

  pub loaded_next : (g : Ghosts S) (moves : List Bool) (n : ℕ) (init now next : State S) (s : ℕ)
      → s < n → AreLoaded g moves n init now s → tells moves s ≡ true
      → LoadsSome (λ i. i == s) now next
      → ((section_at now.o s).home.out ≡ false → IsTrue (is_loaded next.loaded s))
      → Asks g (Ok (tt {0})) now.source next.source (home_due now.o now.loaded s)
      → AreLoaded g moves n init next (s + 1)
  loaded_next g moves n init now next s below are told one here asks = record {
    within = omega (arith, below);
    some = loads_both (tells moves) s init now next are.some one told;
    later = λ i from.
        one.loads i (behind i from) ∙ are.later i (omega (arith, from));
    loaded = λ i h tells_it inside. ⊎_elim
        (λ before. one.stays i (are.loaded i before tells_it inside))
        (λ from.
        let same : s ≡ i = omega (arith, h, from) in
        subst (λ (k : ℕ). (section_at init.o k).home.out ≡ false
        → IsTrue (is_loaded next.loaded k)) same
        (subst (λ (e : State S). (section_at e.o s).home.out ≡ false
        → IsTrue (is_loaded next.loaded s)) are.some.rest here) inside)
        (cases_lt i s);
    asks = asks_so_far g moves n (Ok tt) init now next s are told asks;
  }
    where
      behind : (i : ℕ) → s + 1 ≤ i → (i == s) ≡ false
      behind i from = by_number (i == s) refl
        where
          by_number : (b : Bool) → (i == s) ≡ b → b ≡ false
          by_number true e =
              let same = eqb-true i s e in absurd (omega (arith, same, from))
          by_number false e = refl

  pub loaded_skip : (g : Ghosts S) (moves : List Bool) (n : ℕ) (init now : State S) (s : ℕ)
      → s < n → AreLoaded g moves n init now s → tells moves s ≡ false
      → AreLoaded g moves n init now (s + 1)
  unfolding homes_due
  loaded_skip g moves n init now s below are none =
      let same : told_sections moves s ++ [] ≡ told_sections moves (s + 1) =
      sym (more_sections moves s false none) in
      let due = due_grows (home_due init.o init.loaded) moves s (s + 1) (omega arith) in
      record {
        within = omega (arith, below);
        some = are.some;
        later = λ i from. are.later i (omega (arith, from));
        loaded = λ i h told inside. ⊎_elim
            (λ before. are.loaded i before told inside)
            (λ from.
            let number : i ≡ s = omega (arith, h, from) in
            let clash : true ≡ false = sym told ∙ ap (tells moves) number ∙ none in cc)
            (cases_lt i s);
        asks = fewer due;
      }
    where
      fewer : sum_by (home_due init.o init.loaded) (told_sections moves s)
          ≤ sum_by (home_due init.o init.loaded) (told_sections moves (s + 1))
          → Asks g (Ok (tt {0})) init.source now.source
          (homes_due init.o init.loaded (told_sections moves (s + 1)))
      fewer due =
          asks_fewer g (Ok (tt {0})) init.source now.source
          (sum_by (home_due init.o init.loaded) (told_sections moves s))
          (sum_by (home_due init.o init.loaded) (told_sections moves (s + 1))) due are.asks

  pub loaded_stop : {A : Type 0} (g : Ghosts S) (moves : List Bool) (n : ℕ) (e : ElfError)
      (init now next : State S) (s : ℕ) → s < n → AreLoaded g moves n init now s
      → tells moves s ≡ true → LoadsSome (λ i. i == s) now next
      → Asks {T = A} g (Err e) now.source next.source (home_due now.o now.loaded s)
      → e ≡ Read → LoadsHomes {A = A} g moves n (Err e) init next
  unfolding homes_due
  loaded_stop {A} g moves n e init now next s below are told one asks err =
      let due = due_grows (home_due init.o init.loaded) moves (s + 1) n (omega (arith, below)) in
      record {
        some = loads_both (tells moves) s init now next are.some one told;
        loaded = tt;
        asks = fewer due (asks_so_far g moves n (Err e) init now next s are told asks);
        err = err;
      }
    where
      fewer : sum_by (home_due init.o init.loaded) (told_sections moves (s + 1))
          ≤ sum_by (home_due init.o init.loaded) (told_sections moves n)
          → Asks {T = A} g (Err e) init.source next.source
          (homes_due init.o init.loaded (told_sections moves (s + 1)))
          → Asks {T = A} g (Err e) init.source next.source
          (homes_due init.o init.loaded (told_sections moves n))
      fewer due a =
          asks_fewer {T = A} g (Err e) init.source next.source
          (sum_by (home_due init.o init.loaded) (told_sections moves (s + 1)))
          (sum_by (home_due init.o init.loaded) (told_sections moves n)) due a

  pub loaded_last : (g : Ghosts S) (moves : List Bool) (n : ℕ) (init now : State S) (s : ℕ)
      → n ≤ s → AreLoaded g moves n init now s
      → LoadsHomes g moves n (Ok (tt {0})) init now
  loaded_last g moves n init now s all are =
      let within = are.within in
      let same : s ≡ n = omega (arith, all, within) in
      record {
        some = are.some;
        loaded = λ i h told inside. are.loaded i (omega (arith, h, all)) told inside;
        asks = subst (λ (k : ℕ). Asks g (Ok (tt {0})) init.source now.source
            (homes_due init.o init.loaded (told_sections moves k))) same are.asks;
        err = tt;
      }
