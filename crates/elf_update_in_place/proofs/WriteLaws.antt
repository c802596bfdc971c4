-- What changes is written: what that rests on, and what it leaves.
use Rattle.std.proofs.Common.{◌≡◌, ◌⊎◌, inl, inr, ℕ, ◌+◌, Bool, List, [], ◌∷◌, length, take, Option, Result, Ok, Err, sym, ap, ◌∙◌, subst, arith}
use Rattle.std.specs.Prelude.{IsTrue, IfErr, IfSome, IsSome, is_some}
use Rattle.std.specs.Option.{option_map}
use Rattle.elf_types.specs.declared.errors.ElfError.{ElfError}
use Rattle.elf_types.specs.declared.errors.ElfError.TheVariants.{Read, Write}
use Rattle.elf_outside.specs.Patches.{UsesDevice}
use Rattle.elf_outside.specs.declared.sources.Source.{Ghosts as SourceGhosts}
use Rattle.elf_outside.specs.declared.devices.Device.{Ghosts as DeviceGhosts}
use Rattle.elf_outside.proofs.PutLemmas.{uses_device_both}
use Rattle.elf_outside.proofs.UseLemmas.{asks_device, uses_device_as}
use Rattle.elf_object.specs.Object.{Object}
use Rattle.elf_object.specs.Image.{image, image_length}
use Rattle.elf_object.specs.Changed.{torn, changed_bytes}
use Rattle.elf_object.specs.Due.{is_loaded, update_in_place_due}
use Rattle.elf_update_to.specs.elf_descriptor.State.{State}
use Rattle.elf_update_to.specs.elf_descriptor.Sound.{IsSound}
use Rattle.elf_update_to.specs.declared.updates.PlannedParts.{PlannedParts}
use Rattle.elf_update_to.specs.Updates.{IsPlanned}
use Rattle.elf_update_in_place.specs.declared.moves.changes.Changes.{Changes}
use Rattle.elf_update_in_place.specs.Moves.Changes.{TellsChanges}
use Rattle.elf_update_in_place.specs.Writes.Writes.{IsMarkedAndLoaded, LeavesTorn, WritesChanges}
use Rattle.elf_update_in_place.proofs.writes.TornObjects.{torn_base}
use Rattle.elf_update_in_place.specs.Rooms.{IsTaken}
use Rattle.elf_update_in_place.specs.Updates.{HoldsMore, IsToWrite, WritesInPlace}

module _ {D : Type 0} (s : SourceGhosts D) (d : DeviceGhosts D) where
  -- it may be written
  abbrev pub begins : (old now : State D) (p : PlannedParts) (changes : Changes)
      (moves changed : List Bool) → IsPlanned old.o p → TellsChanges old.o p changes
      → changed ≡ changes.parts → IsTaken s moves old → IsSound (s.holds old.source) old.o
      → IsToWrite s old now → IsMarkedAndLoaded s p changed now
  begins old now p changes moves changed planned are same taken sound is =
      let held = is.asks.leaves.same_bytes in
      let size = is.asks.leaves.same_len in
      let base : now.o.base ≡ old.o.base =
      ap (λ (e : State D). e.o.base) is.rest ∙ torn_base old.o old.o.base planned.ready.dirty in
      let told : now.told ≡ is_some (s.holds now.source) =
      ap (λ (e : State D). e.told) is.rest ∙ taken.base.told
      ∙ sym (ap (λ (h : Option (List ℕ)). is_some h) held) in
      record {
        was = old.o;
        planned = planned;
        changes = same ∙ are.parts;
        based = λ tells. sound.based (subst (λ (h : Option (List ℕ)). IsSome h) held tells);
        object = ap (λ (e : State D). e.o) is.rest;
        base = record {
          told = told;
          long =
              let first = taken.base.long in
              let count : length now.o.base ≡ length old.o.base = ap (λ (l : List ℕ). length l) base in
              omega (arith, first, count, size);
          is = subst (λ (l : List ℕ). IfSome (s.holds now.source) (λ h. take (length l) h ≡ l)) (sym base)
              (subst (λ (x : Option (List ℕ)). IfSome x (λ h. take (length old.o.base) h ≡ old.o.base))
              (sym held) taken.base.is);
        };
        loaded = is.loaded;
        ready = ap (λ (e : State D). e.ready) is.rest ∙ taken.ready;
      }

  more_still : (old now new : State D) (o : Object) (x : D) → HoldsMore old now
      → new ≡ record now { o = o; source = x } → HoldsMore old new
  more_still old now new o x more is = record {
    loads = λ i h. ap (λ (e : State D). is_loaded e.loaded i) is ∙ more.loads i h;
    stays = λ i h. ap (λ (e : State D). is_loaded e.loaded i) is ∙ more.stays i h;
    held = λ i. ap (λ (e : State D). is_loaded e.held i) is ∙ more.held i;
  }

  uses_all : {A : Type 0} (rests : (x : D) → s.rest x ≡ (d.given x ∷ d.write_faults x ∷ []) ∷ d.rest_after x)
      (r : Result A ElfError) (old now new : State D) → IsToWrite s old now
      → UsesDevice s d r now.source new.source 0 (changed_bytes old.o)
      → UsesDevice s d r old.source new.source (update_in_place_due old.o old.loaded)
      (changed_bytes old.o)
  uses_all rests r old now new is uses =
      uses_device_as s d r old.source new.source (update_in_place_due old.o old.loaded + 0)
      (0 + changed_bytes old.o) (update_in_place_due old.o old.loaded) (changed_bytes old.o)
      (omega arith) (omega arith)
      (uses_device_both s d (Ok (tt {0})) r old.source now.source new.source
      (update_in_place_due old.o old.loaded) 0 0 (changed_bytes old.o)
      (asks_device s d rests (Ok tt) old.source now.source
      (update_in_place_due old.o old.loaded) is.asks) uses)

  -- it was written, or a write failed
  pub written : (rests : (x : D) → s.rest x ≡ (d.given x ∷ d.write_faults x ∷ []) ∷ d.rest_after x)
      (r : Result (Unit {0}) ElfError) (old now new : State D) → IsTrue now.ready
      → IsToWrite s old now → WritesChanges s d old.o r now new → WritesInPlace s d r old new
  written rests r old now new ready is w = by_answer r w
    where
      held : s.holds now.source ≡ s.holds old.source
      held = is.asks.leaves.same_bytes

      size : s.size now.source ≡ s.size old.source
      size = is.asks.leaves.same_len

      by_answer : (q : Result (Unit {0}) ElfError) → WritesChanges s d old.o q now new
          → WritesInPlace s d q old new
      by_answer (Ok x) v = record {
        told = ap (λ (e : State D). e.told) v.state ∙ ap (λ (e : State D). e.told) is.rest;
        object = ap (λ (e : State D). e.o) v.state;
        base = tt;
        bytes = v.bytes ∙ ap (λ (h : Option (List ℕ)). option_map (λ _. image old.o) h) held;
        size = v.long;
        kept = record {
          base = record { between = v.base; long = v.cut; is = v.is };
          more = more_still old now new (torn old.o new.o.base) new.source is.more v.state;
          ready = ap (λ (e : State D). e.ready) v.state ∙ ready;
        };
        unwritten = tt;
        uses = uses_all rests (Ok x) old now new is v.uses;
      }
      by_answer (Err e) v =
          subst (λ (f : ElfError). WritesInPlace {A = Unit {0}} s d (Err f) old new) (sym v.err)
          (at_write (subst (λ (f : ElfError). WritesChanges {A = Unit {0}} s d old.o (Err f) now new) v.err v))
        where
          at_write : WritesChanges {A = Unit {0}} s d old.o (Err Write) now new
              → WritesInPlace {A = Unit {0}} s d (Err Write) old new
          at_write u = record {
            told = ap (λ (x : State D). x.told) u.state ∙ ap (λ (x : State D). x.told) is.rest;
            object = ap (λ (x : State D). x.o) u.state;
            base = record { between = u.base; long = u.cut; is = u.is };
            bytes = subst (λ (h : Option (List ℕ)). LeavesTorn h (s.holds new.source) (image old.o)) held u.torn;
            size = sizes u.either;
            kept = more_still old now new (torn old.o new.o.base) new.source is.more u.state;
            unwritten = tt;
            uses = uses_all rests (Err Write) old now new is u.uses;
          }
            where
              sizes : (s.size new.source ≡ s.size now.source) ⊎ (s.size new.source ≡ image_length old.o)
                  → (s.size new.source ≡ s.size old.source) ⊎ (s.size new.source ≡ image_length old.o)
              sizes (inl same) = inl (same ∙ size)
              sizes (inr long) = inr long

  -- an update that began to write fails to write alone
  pub written_err : (r : Result (Unit {0}) ElfError) → IfErr r (λ e. e ≡ Write)
      → IfErr r (λ e. (e ≡ Read) ⊎ (e ≡ Write))
  written_err (Ok x) err = tt
  written_err (Err e) err = inr err
