-- How an update in place ends: it is refused, wants memory, fails to read or to write, or settles
-- the object.
use Rattle.std.proofs.Common.{◌≡◌, ◌⊎◌, inl, inr, ℕ, zero, suc, Bool, true, false, List, [], ◌∷◌, length, Option, Some, None, Result, Ok, Err, refl, sym, ap, ◌∙◌, subst, arith}
use Rattle.std.specs.Prelude.{IfErr, IfSome, if◌then◌else◌}
use Rattle.std.specs.Option.{option_map}
use Rattle.elf_types.specs.declared.errors.ElfError.{ElfError}
use Rattle.elf_types.specs.declared.errors.ElfError.TheVariants.{Memory, Read, Write}
use Rattle.elf_types.specs.Answers.{IsRefusal}
use Rattle.elf_outside.specs.Asks.{DeviceReadRose}
use Rattle.elf_outside.specs.Puts.{WriteRose}
use Rattle.elf_outside.specs.Patches.{UsesDevice}
use Rattle.elf_outside.specs.declared.sources.Source.{Ghosts as SourceGhosts}
use Rattle.elf_outside.specs.declared.devices.Device.{Ghosts as DeviceGhosts}
use Rattle.elf_outside.proofs.PutLemmas.{uses_device_on}
use Rattle.elf_outside.proofs.UseLemmas.{uses_device_none, uses_device_as}
use Rattle.elf_object.specs.Object.{Object}
use Rattle.elf_object.specs.Image.{image}
use Rattle.elf_object.specs.Refusal.{refusal}
use Rattle.elf_object.specs.Settled.{settled, untold}
use Rattle.elf_object.specs.Changed.{torn, changed_bytes}
use Rattle.elf_object.specs.Due.{is_loaded, update_in_place_due}
use Rattle.elf_layout.specs.Layout.{MayWantMemory}
use Rattle.elf_object.specs.Words.{UpdateAnswers}
use Rattle.elf_object.specs.Calls.{update_null}
use Rattle.elf_update_to.proofs.elf_update_plan.PlacingLaws.{refused_cases}
use Rattle.law_object.specs.Laws.{IsTornImage}
use Rattle.law_object.proofs.ImageLaws.{length-image}
use Rattle.law_object.proofs.TornLaws.{torn_law}
use Rattle.elf_update_to.specs.law_object.Writing.Ready.{IsReady}
use Rattle.elf_update_to.proofs.law_object.writing.AlikeLaws.{settles_alike}
use Rattle.elf_update_to.specs.elf_descriptor.State.{State}
use Rattle.elf_update_to.specs.elf_descriptor.Settling.{settled_state, cleared}
use Rattle.elf_update_to.specs.elf_update_plan.Placing.{IsRefused}
use Rattle.elf_update_to.proofs.UpdateLaws.{answers_by}
use Rattle.elf_update_in_place.specs.Updates.{OnEnd, HoldsNothing, HoldsMore, EndsInPlace, UpdatesInPlace, IsUnsettled, WritesInPlace}

-- a refusal that comes before anything is read or written
abbrev IsEarly : ElfError → Type 0
IsEarly Read = ⊥
IsEarly Write = ⊥
IsEarly e = Unit {0}

-- what a refusal leaves has nothing to do with the type of the answer, nor with what an Ok leaves
on_stop : (A B done more unread unwritten refused : Type 0) (e : ElfError)
    → OnEnd {A = A} (Err e) done unread unwritten refused
    → OnEnd {A = B} (Err e) more unread unwritten refused
on_stop A B done more unread unwritten refused Read h = h
on_stop A B done more unread unwritten refused Write h = h
on_stop A B done more unread unwritten refused e h = h

-- the answer, where memory was wanted, or a read or a write failed
pub failed_answer : (e : ElfError) (n : ℕ) (stated : Result ℕ ElfError) → stated ≡ Ok n
    → (e ≡ Memory) ⊎ ((e ≡ Read) ⊎ (e ≡ Write)) → UpdateAnswers {A = ℕ} (Err e) stated
failed_answer e n stated is (inl same) =
    subst (λ (f : ElfError). UpdateAnswers {A = ℕ} (Err f) stated) (sym same)
    (subst (λ (r : Result ℕ ElfError). MayWantMemory r) (sym is) tt)
failed_answer e n stated is (inr later) = answers_by e n stated is later

module _ {D : Type 0} (s : SourceGhosts D) (d : DeviceGhosts D) where
  -- ---- Before anything was read or written

  nothing_used : {A : Type 0} (r : Result A ElfError) (e : State D)
      → DeviceReadRose r (s.faults e.source) (s.faults e.source)
      → WriteRose r (d.write_faults e.source) (d.write_faults e.source)
      → UsesDevice s d r e.source e.source (update_in_place_due e.o e.loaded) (changed_bytes e.o)
  nothing_used r e read write =
      uses_device_as s d r e.source e.source 0 0 (update_in_place_due e.o e.loaded)
      (changed_bytes e.o) (omega arith) (omega arith)
      (uses_device_none s d r e.source read write)

  -- memory may be kept aside for some homes
  untouched : {A : Type 0} (e : ElfError) (done : Object) (Left : Type 0) (old : State D)
      (room : List Bool) → IsEarly e
      → EndsInPlace {A = A} s d done Left (Err e) old (record old { room = room })
  untouched Read done Left old room never = absurd never
  untouched Write done Left old room never = absurd never
  untouched e done Left old room early = record {
    told = refl;
    object = refl;
    base = tt;
    bytes = refl;
    size = refl;
    kept = refl;
    unwritten = tt;
    uses = nothing_used (Err e) old tt tt;
  }

  -- memory was wanted
  pub wanted : {A : Type 0} (e : ElfError) (old new : State D) → e ≡ Memory
      → new ≡ record old { room = new.room } → WritesInPlace {A = A} s d (Err e) old new
  wanted {A} e old new is same =
      subst (λ (x : ElfError). WritesInPlace {A = A} s d (Err x) old new) (sym is)
      (subst (λ (n : State D). EndsInPlace {A = A} s d (torn old.o new.o.base)
      (IsUnsettled s old new) (Err Memory) old n) (sym same)
      (untouched Memory (torn old.o new.o.base) (IsUnsettled s old new) old new.room tt))

  -- it was refused, or wanted memory
  pub refused : (e : ElfError) (x : State D) → IsRefused x.o e → UpdatesInPlace s d (Err e) x x
  refused e x is =
      refused_cases x.o e (λ (f : ElfError). UpdatesInPlace s d (Err f) x x) is
      (λ may. untouched Memory (settled x.told x.o) (HoldsNothing x) x x.room tt) by_error
    where
      by_error : (f : ElfError) → update_null.answer x.o ≡ Err f → IsRefusal f
          → UpdatesInPlace s d (Err f) x x
      by_error Memory stated never = absurd never
      by_error Read stated never = absurd never
      by_error Write stated never = absurd never
      by_error f stated fine = untouched f (settled x.told x.o) (HoldsNothing x) x x.room tt

  -- ---- With memory that was taken

  more_as : (l : List Bool) (old new : State D)
      → HoldsMore (record old { room = l; ready = true }) new → HoldsMore old new
  more_as l old new h = record { loads = h.loads; stays = h.stays; held = h.held }

  abbrev IsKept : State D → State D → Result (Unit {0}) ElfError → Type 0
  IsKept old new r = OnEnd r (IsUnsettled s old new) (HoldsMore old new) (HoldsMore old new)
      (new ≡ record old { room = new.room })

  pub with_memory : (r : Result (Unit {0}) ElfError) (old mid new : State D)
      → mid ≡ record old { room = mid.room; ready = true }
      → WritesInPlace s d r mid new → IfErr r (λ e. (e ≡ Read) ⊎ (e ≡ Write))
      → WritesInPlace s d r old new
  with_memory r old mid new is writes err =
      let w = subst (λ (e : State D). WritesInPlace s d r e new) is writes in
      record {
        told = w.told;
        object = w.object;
        base = w.base;
        bytes = w.bytes;
        size = w.size;
        kept = by_answer r err w.kept;
        unwritten = w.unwritten;
        uses = w.uses;
      }
    where
      from : State D
      from = record old { room = mid.room; ready = true }

      by_answer : (q : Result (Unit {0}) ElfError) → IfErr q (λ e. (e ≡ Read) ⊎ (e ≡ Write))
          → IsKept from new q → IsKept old new q
      by_answer (Ok x) none k = record {
        base = record { between = k.base.between; long = k.base.long; is = k.base.is };
        more = more_as mid.room old new k.more;
        ready = k.ready;
      }
      by_answer (Err e) (inl is) k =
          subst (λ (f : ElfError). IsKept old new (Err f)) (sym is)
          (more_as mid.room old new (subst (λ (f : ElfError). IsKept from new (Err f)) is k))
      by_answer (Err e) (inr is) k =
          subst (λ (f : ElfError). IsKept old new (Err f)) (sym is)
          (more_as mid.room old new (subst (λ (f : ElfError). IsKept from new (Err f)) is k))

  pub later_err : (r : Result (Unit {0}) ElfError) → IfErr r (λ e. (e ≡ Read) ⊎ (e ≡ Write))
      → IfErr r (λ e. (e ≡ Memory) ⊎ ((e ≡ Read) ⊎ (e ≡ Write)))
  later_err (Ok x) err = tt
  later_err (Err e) err = inr err

  -- ---- It failed

  pub failed : (e : ElfError) (old new : State D)
      → WritesInPlace {A = Unit {0}} s d (Err e) old new → UpdatesInPlace s d (Err e) old new
  failed e old new w = record {
    told = w.told;
    object = on_stop (Unit {0}) ℕ _ _ _ _ _ e w.object;
    base = on_stop (Unit {0}) ℕ _ _ _ _ _ e w.base;
    bytes = on_stop (Unit {0}) ℕ _ _ _ _ _ e w.bytes;
    size = on_stop (Unit {0}) ℕ _ _ _ _ _ e w.size;
    kept = on_stop (Unit {0}) ℕ _ _ _ _ _ e w.kept;
    unwritten = on_stop (Unit {0}) ℕ _ _ _ _ _ e w.unwritten;
    uses = uses_device_on s d e old.source new.source (update_in_place_due old.o old.loaded)
        (changed_bytes old.o) (update_in_place_due old.o old.loaded) (changed_bytes old.o)
        (omega arith) (omega arith) w.uses;
  }

  -- ---- It ended

  none_holds : (l : List Bool) (i : ℕ) → is_loaded (cleared l) i ≡ false
  unfolding is_loaded
  none_holds [] i = refl
  none_holds (x ∷ l) zero = refl
  none_holds (x ∷ l) (suc i) = none_holds l i

  settled_alike : (told : Bool) (o : Object) (bytes : List ℕ) → IsReady o → IsTornImage o bytes
      → settled told (torn o bytes) ≡ settled told o
  unfolding settled
  settled_alike told o bytes ready between =
      ap (λ (p : Object). if told then p else untold p) ((settles_alike o).torn bytes ready between)

  -- what settling rests on
  pub record MaySettle (o : Object) (e : State D) : Type 0 where
    pub passed : refusal e.o ≡ None
    pub long : s.size e.source ≡ length (image e.o)
    pub holds : IfSome (s.holds e.source) (λ held. held ≡ image e.o)

  pub may_settle : (old mid : State D) → IsReady old.o
      → WritesInPlace {A = Unit {0}} s d (Ok tt) old mid → MaySettle old.o mid
  may_settle old mid ready w =
      let law = torn_law old.o mid.o.base ready.object ready.dirty ready.passed w.kept.base.between in
      let whole : image mid.o ≡ image old.o = ap image w.object ∙ law.1 in
      record {
        passed = ap refusal w.object ∙ law.0;
        long = w.size ∙ sym (length-image old.o) ∙ ap (λ (l : List ℕ). length l) (sym whole);
        holds = by_held (s.holds old.source) w.bytes whole;
      }
    where
      by_held : (h : Option (List ℕ)) → s.holds mid.source ≡ option_map (λ _. image old.o) h
          → image mid.o ≡ image old.o → IfSome (s.holds mid.source) (λ held. held ≡ image mid.o)
      by_held None is whole =
          subst (λ (x : Option (List ℕ)). IfSome x (λ held. held ≡ image mid.o)) (sym is) tt
      by_held (Some bytes) is whole =
          subst (λ (x : Option (List ℕ)). IfSome x (λ held. held ≡ image mid.o)) (sym is) (sym whole)

  pub ended : (n : ℕ) (old mid new : State D) → IsReady old.o
      → WritesInPlace {A = Unit {0}} s d (Ok tt) old mid → new ≡ settled_state mid
      → UpdatesInPlace s d (Ok n) old new
  ended n old mid new ready w is =
      subst (λ (e : State D). UpdatesInPlace s d (Ok n) old e) (sym is) (record {
        told = w.told;
        object = ap (λ (o : Object). settled mid.told o) w.object
            ∙ settled_alike mid.told old.o mid.o.base ready w.kept.base.between
            ∙ ap (λ (b : Bool). settled b old.o) w.told;
        base = tt;
        bytes = w.bytes;
        size = w.size;
        kept = record {
          loaded = none_holds mid.loaded;
          held = none_holds mid.held;
          room = none_holds mid.room;
        };
        unwritten = tt;
        uses = record {
          rest_after = w.uses.rest_after;
          later = w.uses.later;
          read = tt;
          write_later = w.uses.write_later;
          write = tt;
          taken = w.uses.taken;
          given = w.uses.given;
        };
      })
