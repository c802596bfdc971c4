-- What an update in place does (elf_update with ELF_C_WRITE, to the file that the object was opened
-- from).
use Rattle.std.specs.Prelude.{◌≡◌, ◌⊎◌, ℕ, ◌<◌, min, true, false, IsTrue, length, take, IfSome, Result, Ok, Err}
use Rattle.std.specs.Option.{option_map}
use Rattle.elf_types.specs.declared.errors.ElfError.{ElfError}
use Rattle.elf_types.specs.declared.errors.ElfError.TheVariants.{Read, Write}
use Rattle.elf_outside.specs.Asks.{Asks}
use Rattle.elf_outside.specs.Patches.{UsesDevice}
use Rattle.elf_outside.specs.declared.sources.Source.{Ghosts as SourceGhosts}
use Rattle.elf_outside.specs.declared.devices.Device.{Ghosts as DeviceGhosts}
use Rattle.elf_object.specs.Object.{Object, section_at}
use Rattle.elf_object.specs.Layout.{placed}
use Rattle.elf_object.specs.Image.{image, image_length}
use Rattle.elf_object.specs.Settled.{settled}
use Rattle.elf_object.specs.Changed.{torn, is_moved, changed_bytes}
use Rattle.elf_object.specs.Due.{is_loaded, update_in_place_due}
use Rattle.law_object.specs.Laws.{IsTornImage}
use Rattle.elf_update_to.specs.elf_descriptor.State.{State}
use Rattle.elf_update_in_place.specs.Writes.Writes.{LeavesTorn}

-- one fact of an update that ended, one of an update that failed to read, one of one that failed to
-- write, and one of a refusal
abbrev pub OnEnd : {A : Type 0} → Result A ElfError → Type 0 → Type 0 → Type 0 → Type 0 → Type 0
OnEnd (Ok x) done unread unwritten refused = done
OnEnd (Err Read) done unread unwritten refused = unread
OnEnd (Err Write) done unread unwritten refused = unwritten
OnEnd (Err e) done unread unwritten refused = refused

-- ---- The device

-- the base has at each place its old byte or the image's. It is as long as it was, or as the device
-- where that is shorter, and the device begins with it.
pub record IsTornBase {D : Type 0} (s : SourceGhosts D) (was : Object) (state : State D)
    : Type 0 where
  pub between : IsTornImage was state.o.base
  pub long : length state.o.base ≡ min (length was.base) (s.size state.source)
  pub is : IfSome (s.holds state.source)
      (λ held. take (length state.o.base) held ≡ state.o.base)

-- ---- What is held

-- nothing is loaded, no items are held, no memory is kept aside
pub record HoldsNothing {S : Type 0} (state : State S) : Type 0 where
  pub loaded : (i : ℕ) → is_loaded state.loaded i ≡ false
  pub held : (i : ℕ) → is_loaded state.held i ≡ false
  pub room : (i : ℕ) → is_loaded state.room i ≡ false

-- what was loaded still is; besides, sections that move may be; and no items came to be held
pub record HoldsMore {S : Type 0} (old new : State S) : Type 0 where
  pub loads : (i : ℕ) → is_moved old.o i ≡ false
      → is_loaded new.loaded i ≡ is_loaded old.loaded i
  pub stays : (i : ℕ) → IsTrue (is_loaded old.loaded i) → IsTrue (is_loaded new.loaded i)
  pub held : (i : ℕ) → is_loaded new.held i ≡ is_loaded old.held i

-- ---- How it ends

-- After an Ok the device holds the image, the object is the one that is given, and what is left of
-- the descriptor is so too. After a failed read the device is as before, nothing was handed to it,
-- and the places are stored. After a failed write the device is torn between what it held and the
-- image, and the object over what is there of its base. After a refusal nothing changed, but that
-- memory may be kept aside for homes. It asks for at most the bytes of the homes that move and are
-- not loaded, and hands at most those of the parts that change and of the fill; each cause is a
-- count.
pub record EndsInPlace {D A : Type 0} (s : SourceGhosts D) (d : DeviceGhosts D) (done : Object)
    (Left : Type 0) (result : Result A ElfError) (old new : State D) : Type 0 where
  pub told : new.told ≡ old.told
  pub object : OnEnd result (new.o ≡ done) (new.o ≡ placed old.o)
      (new.o ≡ torn old.o new.o.base) (new.o ≡ old.o)
  pub base : OnEnd result (Unit {0}) (Unit {0}) (IsTornBase s old.o new) (Unit {0})
  pub bytes : OnEnd result
      (s.holds new.source ≡ option_map (λ _. image old.o) (s.holds old.source))
      (s.holds new.source ≡ s.holds old.source)
      (LeavesTorn (s.holds old.source) (s.holds new.source) (image old.o))
      (s.holds new.source ≡ s.holds old.source)
  pub size : OnEnd result (s.size new.source ≡ image_length old.o)
      (s.size new.source ≡ s.size old.source)
      ((s.size new.source ≡ s.size old.source) ⊎ (s.size new.source ≡ image_length old.o))
      (s.size new.source ≡ s.size old.source)
  pub kept : OnEnd result Left (HoldsMore old new) (HoldsMore old new)
      (new ≡ record old { room = new.room })
  pub unwritten : OnEnd result (Unit {0}) (d.given new.source ≡ d.given old.source) (Unit {0})
      (Unit {0})
  pub uses : UsesDevice s d result old.source new.source (update_in_place_due old.o old.loaded)
      (changed_bytes old.o)

-- the call, where something is dirty: after an Ok the object is settled
abbrev pub UpdatesInPlace : {D : Type 0} → SourceGhosts D → DeviceGhosts D → Result ℕ ElfError
    → State D → State D → Type 0
UpdatesInPlace s d result old new =
    EndsInPlace s d (settled old.told old.o) (HoldsNothing new) result old new

-- ---- On the way

-- places are stored, what moves is loaded, and the object and what moves are marked
pub record IsToWrite {D : Type 0} (s : SourceGhosts D) (old now : State D) : Type 0 where
  pub rest : now ≡ record old {
    o = torn old.o old.o.base;
    loaded = now.loaded;
    held = now.held;
    room = now.room;
    source = now.source;
  }
  pub more : HoldsMore old now
  pub loaded : (i : ℕ) → is_moved old.o i ≡ true → (section_at old.o i).home.out ≡ false
      → i < length old.o.sections → IsTrue (is_loaded now.loaded i)
  pub asks : Asks s (Ok (tt {0})) old.source now.source (update_in_place_due old.o old.loaded)

-- all is written and not settled yet
pub record IsUnsettled {D : Type 0} (s : SourceGhosts D) (old new : State D) : Type 0 where
  pub base : IsTornBase s old.o new
  pub more : HoldsMore old new
  pub ready : IsTrue new.ready

-- the call but for its last step
abbrev pub WritesInPlace : {D A : Type 0} → SourceGhosts D → DeviceGhosts D → Result A ElfError
    → State D → State D → Type 0
WritesInPlace s d result old new =
    EndsInPlace s d (torn old.o new.o.base) (IsUnsettled s old new) result old new
