-- An update in place, phase by phase: memory, places, what is read, marks, what is written.
use Rattle.std.proofs.Common.{◌≡◌, ℕ, zero, suc, ◌+◌, ◌<◌, ◌≤◌, Bool, true, false, ◌||◌, List, [], ◌∷◌, length, Option, Result, Ok, Err, refl, sym, ap, ◌∙◌, subst, arith, ⊎_elim}
use Rattle.std.specs.Prelude.{map, sum_by, cond, if◌then◌else◌}
use Rattle.std.specs.List.{range_with_len, filter}
use Rattle.std.proofs.lemmas.Bool.{cases_lt}
use Rattle.std.proofs.lemmas.List.{get_or_past}
use Rattle.std.proofs.lemmas.List.Sums.{sum_by-cons}
use Rattle.std.proofs.lemmas.List.FromFn.{length-map-range_with_len}
use Rattle.elf_types.specs.declared.errors.ElfError.{ElfError}
use Rattle.elf_types.specs.declared.errors.ElfError.TheVariants.{Read}
use Rattle.elf_outside.specs.Asks.{Asks}
use Rattle.elf_outside.specs.declared.sources.Source.{Ghosts as SourceGhosts}
use Rattle.elf_outside.specs.declared.devices.Device.{Ghosts as DeviceGhosts}
use Rattle.elf_outside.proofs.UseLemmas.{asks_device, uses_device_as}
use Rattle.elf_object.specs.Object.{Object, Home, section_at, is_dirty}
use Rattle.elf_object.specs.Layout.{placed}
use Rattle.elf_object.specs.Changed.{torn, is_moved, changed_bytes}
use Rattle.elf_object.specs.Due.{is_loaded, home_due, homes_due, all_sections, unless_unread, is_refused_unread, update_in_place_due}
use Rattle.elf_update_to.specs.law_object.Writing.Ready.{IsReady}
use Rattle.elf_update_to.specs.law_object.Writing.Marks.{marked_all}
use Rattle.elf_update_to.proofs.law_object.writing.GapLaws.{filter_range}
use Rattle.elf_update_to.specs.elf_descriptor.State.{State}
use Rattle.elf_update_in_place.proofs.writes.TornObjects.{home_placed}
use Rattle.elf_update_in_place.specs.Rooms.{tells, CanLoad}
use Rattle.elf_update_in_place.specs.Loads.{LoadsSome, told_sections, LoadsHomes}
use Rattle.elf_update_in_place.specs.Marks.{told_parts}
use Rattle.elf_update_in_place.specs.Updates.{HoldsMore, IsToWrite, WritesInPlace}
use Rattle.elf_update_in_place.proofs.MarkSteps.{tells_moved, count_placed, marks_torn}

-- ---- Homes, once places are stored

due_placed : (o : Object) (loaded : List Bool) (s : ℕ) → is_dirty o ≡ true
    → s < length o.sections → home_due (placed o) loaded s ≡ home_due o loaded s
unfolding home_due
due_placed o loaded s dirty there =
    ap (λ (h : Home). if is_loaded loaded s || h.out then 0 else h.len)
    (home_placed o s dirty)

sum_alike : (f g : ℕ → ℕ) (moves : ℕ → Bool) (a n m : ℕ) → a + n ≤ m
    → ((s : ℕ) → s < m → f s ≡ g s)
    → sum_by f (filter moves (range_with_len a n)) ≡ sum_by g (filter moves (range_with_len a n))
sum_alike f g moves a zero m within same = refl
sum_alike f g moves a (suc n) m within same =
    by_test (moves a) (sum_alike f g moves (a + 1) n m (omega (arith, within)) same)
    (same a (omega (arith, within)))
  where
    rest : List ℕ
    rest = filter moves (range_with_len (a + 1) n)

    by_test : (b : Bool) → sum_by f rest ≡ sum_by g rest → f a ≡ g a
        → sum_by f (cond b (a ∷ rest) rest) ≡ sum_by g (cond b (a ∷ rest) rest)
    by_test true behind here =
        let left = sum_by-cons f a rest in
        let right = sum_by-cons g a rest in
        omega (arith, behind, here, left, right)
    by_test false behind here = behind

moved_due : (o : Object) (moves : List Bool) (loaded : List Bool) → IsReady o
    → moves ≡ map (is_moved o) (range_with_len 0 (length o.sections))
    → homes_due (placed o) loaded (told_sections moves (length (placed o).sections))
    ≡ update_in_place_due o loaded
unfolding homes_due update_in_place_due
moved_due o moves loaded ready is =
    let n = length o.sections in
    ap (λ (k : ℕ). sum_by (home_due (placed o) loaded) (told_sections moves k))
    (count_placed o ready.dirty)
    ∙ ap (sum_by (home_due (placed o) loaded))
    (filter_range (tells moves) (is_moved o) 0 (length o.sections)
    (λ k from below. tells_moved o moves k is (omega (arith, below))))
    ∙ sum_alike (home_due (placed o) loaded) (home_due o loaded) (is_moved o) 0
    (length o.sections) (length o.sections) (omega arith)
    (λ s there. due_placed o loaded s ready.dirty there)
    ∙ sym (ap (λ (b : Bool). if b then unless_unread o
    (sum_by (home_due o loaded) (filter (is_moved o) (all_sections o))) else 0) ready.dirty
    ∙ ap (λ (r : Option ElfError). if is_refused_unread r then 0
    else sum_by (home_due o loaded) (filter (is_moved o) (all_sections o))) ready.passed)

-- ---- What is read

pub flags_count : (o : Object) (moves : List Bool)
    → moves ≡ map (is_moved o) (range_with_len 0 (length o.sections))
    → length moves ≡ length o.sections
flags_count o moves is =
    ap (λ (l : List Bool). length l) is
    ∙ length-map-range_with_len (is_moved o) 0 (length o.sections)

tells_none : (o : Object) (moves : List Bool) (i : ℕ)
    → moves ≡ map (is_moved o) (range_with_len 0 (length o.sections))
    → is_moved o i ≡ false → tells moves i ≡ false
tells_none o moves i is none =
    let count = flags_count o moves is in
    ⊎_elim
    (λ there. tells_moved o moves i is there ∙ none)
    (λ past. get_or_past moves i false (omega (arith, count, past)))
    (cases_lt i (length o.sections))

pub stored_count : {S : Type 0} (old m : State S) (moves : List Bool) → is_dirty old.o ≡ true
    → m ≡ record old { o = placed old.o }
    → moves ≡ map (is_moved old.o) (range_with_len 0 (length old.o.sections))
    → length moves ≡ length m.o.sections
stored_count {S} old m moves dirty stored is =
    flags_count old.o moves is ∙ sym (count_placed old.o dirty)
    ∙ sym (ap (λ (e : State S). length e.o.sections) stored)

pub stored_room : {S : Type 0} (old m : State S) (moves : List Bool) → is_dirty old.o ≡ true
    → m ≡ record old { o = placed old.o }
    → ((i : ℕ) → i < length old.o.sections → tells moves i ≡ true → CanLoad old i)
    → (i : ℕ) → i < length m.o.sections → tells moves i ≡ true → CanLoad m i
stored_room {S} old m moves dirty stored room i there told =
    let count = ap (λ (e : State S). length e.o.sections) stored in
    let placed_count = count_placed old.o dirty in
    let below : i < length old.o.sections = omega (arith, there, count, placed_count) in
    subst (λ (e : State S). CanLoad e i) (sym stored)
    (λ inside. room i below told
    (sym (ap (λ (h : Home). h.out) (home_placed old.o i dirty)) ∙ inside))

pub loaded_count : {S : Type 0} (m n : State S) (test : ℕ → Bool) (moves : List Bool)
    → LoadsSome test m n → length moves ≡ length m.o.sections
    → length moves ≡ length n.o.sections
loaded_count {S} m n test moves some count =
    count ∙ sym (ap (λ (e : State S). length e.o.sections) some.rest)

module _ {D : Type 0} (s : SourceGhosts D) (d : DeviceGhosts D) where
  -- the read failed, or all that moves is loaded
  loads_more : (test : ℕ → Bool) (old m n : State D) → m ≡ record old { o = placed old.o }
      → LoadsSome test m n → ((i : ℕ) → is_moved old.o i ≡ false → test i ≡ false)
      → HoldsMore old n
  loads_more test old m n stored some fewer = record {
    loads = λ i h. some.loads i (fewer i h) ∙ ap (λ (e : State D). is_loaded e.loaded i) stored;
    stays = λ i h.
        some.stays i (ap (λ (e : State D). is_loaded e.loaded i) stored ∙ h);
    held = λ i. some.held i ∙ ap (λ (e : State D). is_loaded e.held i) stored;
  }

  asks_moved : {A : Type 0} (r : Result A ElfError) (old m n : State D) (moves : List Bool)
      → IsReady old.o → m ≡ record old { o = placed old.o }
      → moves ≡ map (is_moved old.o) (range_with_len 0 (length old.o.sections))
      → Asks s r m.source n.source
      (homes_due m.o m.loaded (told_sections moves (length m.o.sections)))
      → Asks s r old.source n.source (update_in_place_due old.o old.loaded)
  asks_moved r old m n moves ready stored is asks =
      subst (λ (k : ℕ). Asks s r old.source n.source k)
      (moved_due old.o moves old.loaded ready is)
      (subst (λ (e : State D). Asks s r e.source n.source
      (homes_due e.o e.loaded (told_sections moves (length e.o.sections)))) stored asks)

  pub unread : {A : Type 0} (begins : (x : D) → s.rest x ≡ (d.given x ∷ d.write_faults x ∷ []) ∷ d.rest_after x)
      (e : ElfError) (old m n : State D) (moves : List Bool) → IsReady old.o
      → m ≡ record old { o = placed old.o }
      → moves ≡ map (is_moved old.o) (range_with_len 0 (length old.o.sections))
      → LoadsHomes {A = A} s moves (length m.o.sections) (Err e) m n
      → WritesInPlace {A = A} s d (Err e) old n
  unread {A} begins e old m n moves ready stored is loads =
      subst (λ (x : ElfError). WritesInPlace {A = A} s d (Err x) old n) (sym loads.err)
      (by_read (subst (λ (x : ElfError). LoadsHomes {A = A} s moves (length m.o.sections) (Err x) m n)
      loads.err loads))
    where
      by_read : LoadsHomes {A = A} s moves (length m.o.sections) (Err Read) m n
          → WritesInPlace {A = A} s d (Err Read) old n
      by_read l =
          let state = l.some.rest in
          let asks = asks_moved (Err Read) old m n moves ready stored is l.asks in
          let device = asks_device s d begins (Err Read) old.source n.source
          (update_in_place_due old.o old.loaded) asks in
          let least = device.given.later in
          let most = device.given.no_more in
          record {
            told = ap (λ (e : State D). e.told) state ∙ ap (λ (e : State D). e.told) stored;
            object = ap (λ (e : State D). e.o) state ∙ ap (λ (e : State D). e.o) stored;
            base = tt;
            bytes = asks.leaves.same_bytes;
            size = asks.leaves.same_len;
            kept = loads_more (tells moves) old m n stored l.some
                (λ i h. tells_none old.o moves i is h);
            unwritten = omega (arith, least, most);
            uses = uses_device_as s d (Err Read) old.source n.source
                (update_in_place_due old.o old.loaded) 0
                (update_in_place_due old.o old.loaded) (changed_bytes old.o)
                (omega arith) (omega arith) device;
          }

  pub to_write : (old m n q : State D) (moves : List Bool) → IsReady old.o
      → m ≡ record old { o = placed old.o }
      → moves ≡ map (is_moved old.o) (range_with_len 0 (length old.o.sections))
      → LoadsHomes s moves (length m.o.sections) (Ok (tt {0})) m n
      → q ≡ record n { o = marked_all n.o (told_parts n.o moves) } → IsToWrite s old q
  to_write old m n q moves ready stored is loads marked =
      let object : n.o ≡ placed old.o =
      ap (λ (e : State D). e.o) loads.some.rest ∙ ap (λ (e : State D). e.o) stored in
      let torn_is : marked_all n.o (told_parts n.o moves) ≡ torn old.o old.o.base =
      ap (λ (o : Object). marked_all o (told_parts o moves)) object
      ∙ marks_torn old.o moves ready.dirty is in
      let loaded : q.loaded ≡ n.loaded = ap (λ (e : State D). e.loaded) marked in
      let source : q.source ≡ n.source = ap (λ (e : State D). e.source) marked in
      let more = loads_more (tells moves) old m n stored loads.some (λ i h. tells_none old.o moves i is h) in
      record {
        rest = rest_of object torn_is;
        more = record {
          loads = λ i h. ap (λ (l : List Bool). is_loaded l i) loaded ∙ more.loads i h;
          stays = λ i h. ap (λ (l : List Bool). is_loaded l i) loaded ∙ more.stays i h;
          held = λ i. ap (λ (e : State D). is_loaded e.held i) marked ∙ more.held i;
        };
        loaded = λ i moved inside there.
            ap (λ (l : List Bool). is_loaded l i) loaded
            ∙ loads.loaded i (below i there) (tells_moved old.o moves i is there ∙ moved)
            (ap (λ (e : State D). (section_at e.o i).home.out) stored
            ∙ ap (λ (h : Home). h.out) (home_placed old.o i ready.dirty) ∙ inside);
        asks = subst (λ (x : D). Asks s (Ok (tt {0})) old.source x
            (update_in_place_due old.o old.loaded)) (sym source)
            (asks_moved (Ok tt) old m n moves ready stored is loads.asks);
      }
    where
      below : (i : ℕ) → i < length old.o.sections → i < length m.o.sections
      below i there =
          let count = ap (λ (e : State D). length e.o.sections) stored in
          let all = count_placed old.o ready.dirty in
          omega (arith, there, count, all)

      with_all : Object → State D → State D → State D
      with_all o e f = record e {
        o = o;
        loaded = f.loaded;
        held = f.held;
        room = f.room;
        source = f.source;
      }

      rest_of : n.o ≡ placed old.o
          → marked_all n.o (told_parts n.o moves) ≡ torn old.o old.o.base
          → q ≡ record old {
            o = torn old.o old.o.base;
            loaded = q.loaded;
            held = q.held;
            room = q.room;
            source = q.source;
          }
      rest_of object torn_is =
          ap (λ (e : State D). with_all e.o e q) marked
          ∙ ap (λ (o : Object). with_all o n q) torn_is
          ∙ ap (λ (e : State D). with_all (torn old.o old.o.base) e q) loads.some.rest
          ∙ ap (λ (e : State D). with_all (torn old.o old.o.base) e q) stored
