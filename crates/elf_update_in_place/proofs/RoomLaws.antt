-- Memory that is kept aside for homes, one after the other.
use Rattle.std.proofs.Common.{◌≡◌, ℕ, zero, suc, ◌+◌, ◌<◌, ◌≤◌, Bool, true, false, ◌||◌, List, [], ◌∷◌, length, set, Option, Some, None, Result, Ok, Err, refl, sym, ap, ◌∙◌, subst, arith, ⊎_elim}
use Rattle.std.specs.Prelude.{IsTrue, OnOk, OnErr, IfErr, if◌then◌else◌}
use Rattle.std.proofs.lemmas.Bool.{cases_lt, lt-leb}
use Rattle.elf_types.specs.Answers.{answered}
use Rattle.elf_types.specs.declared.errors.ElfError.{ElfError}
use Rattle.elf_types.specs.declared.errors.ElfError.TheVariants.{Memory}
use Rattle.elf_outside.specs.declared.sources.Source.{Ghosts}
use Rattle.elf_object.specs.Answers.{raw_refusal}
use Rattle.elf_object.specs.Object.{Object, section_at}
use Rattle.elf_object.specs.Due.{is_loaded}
use Rattle.elf_object.specs.Words.{Edits}
use Rattle.elf_update_to.specs.elf_descriptor.State.{State}
use Rattle.elf_update_to.specs.elf_descriptor.Fronts.{HoldsBase}
use Rattle.elf_update_to.specs.elf_descriptor.Homes.{out_answer}
use Rattle.elf_update_to.specs.elf_descriptor.Rooms.{with_room_for}
use Rattle.elf_update_in_place.specs.Rooms.{tells, KeepsAside, CanLoad, ReservesHomes, IsTaken, TakesMemory}

-- ---- Homes in the file

told_is : (r : Option ElfError) (x y : Bool) → Ok y ≡ answered r x → x ≡ y
told_is None x y h = cc
told_is (Some e) x y h = cc

pub out_is : (o : Object) (s : ℕ) (b : Bool) → Ok b ≡ out_answer o s
    → (section_at o s).home.out ≡ b
unfolding out_answer
out_is o s b h = told_is _ (section_at o s).home.out b h

pub not_out : {A : Type 0} (b : Bool) → b ≡ true → b ≡ false → A
not_out b e f = cc

pub raw_passes : (o : Object) (s : ℕ) → s < length o.sections
    → (section_at o s).home.out ≡ false → raw_refusal o s ≡ None
unfolding raw_refusal
raw_passes o s there inside = rw (lt-leb (length o.sections) s there, inside) refl

pub refused_out : (b : Bool) → b ≡ true → b ≡ false → ⊥
refused_out b e f = cc

pub raw_ok : (o : Object) (s : ℕ) → s < length o.sections → (section_at o s).home.out ≡ false
    → answered (raw_refusal o s) (tt {0}) ≡ Ok tt
raw_ok o s there inside =
    ap (λ (r : Option ElfError). answered r (tt {0})) (raw_passes o s there inside)

-- ---- Kept aside

set_stays : (l : List Bool) (s i : ℕ) → IsTrue (is_loaded l i)
    → IsTrue (is_loaded (set l s true) i)
unfolding is_loaded
set_stays [] s i h = h
set_stays (x ∷ l) zero zero h = refl
set_stays (x ∷ l) zero (suc i) h = h
set_stays (x ∷ l) (suc s) zero h = h
set_stays (x ∷ l) (suc s) (suc i) h = set_stays l s i h

either_stays : (x y z : Bool) → (IsTrue y → IsTrue z) → IsTrue (x || y) → IsTrue (x || z)
either_stays true y z keeps h = refl
either_stays false y z keeps h = keeps h

module _ {S : Type 0} where
  pub keeps_none : (e : State S) → KeepsAside e e
  keeps_none e = record { rest = refl; stays = λ i h. h }

  pub keeps_both : (a b c : State S) → KeepsAside a b → KeepsAside b c → KeepsAside a c
  keeps_both a b c first second = record {
    rest = second.rest ∙ ap (λ (x : State S). record x { room = c.room }) first.rest;
    stays = λ i h. second.stays i (first.stays i h);
  }

  keeps_room : (s : ℕ) (e : State S) → KeepsAside e (with_room_for s e)
  keeps_room s e = by_loaded (is_loaded e.loaded s)
    where
      by_loaded : (b : Bool)
          → KeepsAside e (if b then e else (record e { room = set e.room s true }))
      by_loaded true = keeps_none e
      by_loaded false = record { rest = refl; stays = λ i h. set_stays e.room s i h }

  pub keeps_reserved : {A : Type 0} (r : Result A ElfError) (old new : State S) (s : ℕ)
      (stated : Result A ElfError) → Edits r old new stated (with_room_for s old)
      → KeepsAside old new
  keeps_reserved (Ok x) old new s stated came =
      subst (λ (e : State S). KeepsAside old e) (sym came.1) (keeps_room s old)
  keeps_reserved (Err Memory) old new s stated came =
      subst (λ (e : State S). KeepsAside old e) (sym came.1) (keeps_none old)
  keeps_reserved (Err e) old new s stated came =
      subst (λ (e : State S). KeepsAside old e) (sym (same e came)) (keeps_none old)
    where
      same : (e : ElfError) → Edits (Err e) old new stated (with_room_for s old) → new ≡ old
      same Memory came = came.1
      same e came = came.1

  pub wants_alone : {A : Type 0} (e : ElfError) (x : A) (old new stepped : State S)
      (stated : Result A ElfError) → Edits (Err e) old new stated stepped → stated ≡ Ok x
      → e ≡ Memory
  wants_alone Memory x old new stepped stated came passed = refl
  wants_alone e x old new stepped stated came passed =
      let clash : Ok x ≡ Err e = sym passed ∙ came.0 in cc

  pub can_stay : (a b : State S) (i : ℕ) → KeepsAside a b → CanLoad a i → CanLoad b i
  can_stay a b i aside can =
      subst (λ (e : State S). CanLoad e i) (sym aside.rest)
      (λ inside.
      either_stays (is_loaded a.loaded i) (is_loaded a.room i) (is_loaded b.room i)
      (aside.stays i) (can inside))

  pub wants_only : {A : Type 0} (r : Result A ElfError) (x : A) (old new stepped : State S)
      (stated : Result A ElfError) → Edits r old new stated stepped → stated ≡ Ok x
      → IfErr r (λ e. e ≡ Memory)
  wants_only (Ok y) x old new stepped stated came passed = tt
  wants_only (Err e) x old new stepped stated came passed =
      wants_alone e x old new stepped stated came passed

  -- a home that is out of the file is not to be loaded
  pub out_never : (e : State S) (s : ℕ) (b : Bool) → b ≡ (section_at e.o s).home.out → b ≡ true
      → CanLoad e s
  out_never e s b is out inside = not_out b out (is ∙ inside)

  -- ---- One after the other

  -- memory is kept aside for those before a number
  pub record AreReserved (moves : List Bool) (init now : State S) (s : ℕ) : Type 0 where
    pub aside : KeepsAside init now
    pub room : (i : ℕ) → i < s → tells moves i ≡ true → CanLoad now i

  pub reserved_first : (moves : List Bool) (e : State S) → AreReserved moves e e 0
  reserved_first moves e =
      record { aside = keeps_none e; room = λ i h. absurd (omega (arith, h)) }

  pub reserved_next : (moves : List Bool) (init now next : State S) (s : ℕ)
      → AreReserved moves init now s → KeepsAside now next → CanLoad next s
      → AreReserved moves init next (s + 1)
  reserved_next moves init now next s are aside can = record {
    aside = keeps_both init now next are.aside aside;
    room = λ i h told. ⊎_elim
        (λ before. can_stay now next i aside (are.room i before told))
        (λ from.
        let same : s ≡ i = omega (arith, h, from) in
        subst (λ (k : ℕ). CanLoad next k) same can)
        (cases_lt i s);
  }

  pub reserved_skip : (moves : List Bool) (init now : State S) (s : ℕ)
      → AreReserved moves init now s → tells moves s ≡ false → AreReserved moves init now (s + 1)
  reserved_skip moves init now s are none = record {
    aside = are.aside;
    room = λ i h told. ⊎_elim
        (λ before. are.room i before told)
        (λ from.
        let same : i ≡ s = omega (arith, h, from) in
        let clash : true ≡ false = sym told ∙ ap (tells moves) same ∙ none in cc)
        (cases_lt i s);
  }

  pub reserved_stop : {A : Type 0} (moves : List Bool) (n : ℕ) (e : ElfError)
      (init now next : State S) (s : ℕ) → AreReserved moves init now s → KeepsAside now next
      → e ≡ Memory → ReservesHomes {A = A} moves n (Err e) init next
  reserved_stop moves n e init now next s are aside err =
      record { aside = keeps_both init now next are.aside aside; room = tt; err = err }

  pub reserved_last : (moves : List Bool) (n : ℕ) (init now : State S) (s : ℕ) → n ≤ s
      → AreReserved moves init now s → ReservesHomes moves n (Ok (tt {0})) init now
  reserved_last moves n init now s all are = record {
    aside = are.aside;
    room = λ i h told. are.room i (omega (arith, h, all)) told;
    err = tt;
  }

  -- ---- All memory

  pub memory_wanted : {A : Type 0} (g : Ghosts S) (moves : List Bool) (n : ℕ) (e : ElfError)
      (old new : State S) → ReservesHomes {A = Unit {0}} moves n (Err e) old new
      → TakesMemory {A = A} g moves (Err e) old new
  memory_wanted g moves n e old new are =
      record { state = tt; taken = tt; refused = are.aside.rest; err = are.err }

  pub memory_taken : (g : Ghosts S) (moves : List Bool) (r : Result (Unit {0}) ElfError)
      (old mid new : State S)
      → ReservesHomes moves (length old.o.sections) (Ok (tt {0})) old mid
      → OnOk r (new ≡ record mid { ready = true }) → OnOk r (HoldsBase g mid)
      → OnErr r (new ≡ mid) → IfErr r (λ e. e ≡ Memory) → TakesMemory g moves r old new
  memory_taken g moves (Ok x) old mid new are ok base same err =
      let is : new ≡ record old { room = mid.room; ready = true } =
      ok ∙ ap (λ (e : State S). record e { ready = true }) are.aside.rest in
      let room : mid.room ≡ new.room = sym (ap (λ (e : State S). e.room) is) in
      let count : length mid.o.sections ≡ length old.o.sections =
      ap (λ (e : State S). length e.o.sections) are.aside.rest in
      record {
        state = is ∙ ap (λ (l : List Bool). record old { room = l; ready = true }) room;
        taken = subst (λ (e : State S). IsTaken g moves e) (sym ok) (record {
          room = λ i h told. are.room i (omega (arith, h, count)) told;
          base = record { told = base.told; long = base.long; is = base.is };
          ready = refl;
        });
        refused = tt;
        err = tt;
      }
  memory_taken g moves (Err e) old mid new are ok base same err =
      let is : new ≡ record old { room = mid.room } = same ∙ are.aside.rest in
      let room : mid.room ≡ new.room = sym (ap (λ (x : State S). x.room) is) in
      record {
        state = tt;
        taken = tt;
        refused = is ∙ ap (λ (l : List Bool). record old { room = l }) room;
        err = err;
      }
