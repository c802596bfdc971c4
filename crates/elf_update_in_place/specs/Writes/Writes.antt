-- The write phase of an update in place: what it rests on, and what it leaves (elf_update with
-- ELF_C_WRITE).
use Rattle.std.specs.Prelude.{◌≡◌, ◌⊎◌, ℕ, ◌<◌, min, Bool, true, false, IsTrue, List, length, take, map, Option, IsSome, IfSome, Result, OnOk, OnErr, IfErr}
use Rattle.std.specs.Option.{option_map}
use Rattle.elf_types.specs.declared.errors.ElfError.{ElfError}
use Rattle.elf_types.specs.declared.errors.ElfError.TheVariants.{Write}
use Rattle.elf_outside.specs.declared.sources.Source.{Ghosts as SourceGhosts}
use Rattle.elf_outside.specs.declared.devices.Device.{Ghosts as DeviceGhosts}
use Rattle.elf_outside.specs.Torn.{IsTorn}
use Rattle.elf_outside.specs.Patches.{UsesDevice}
use Rattle.elf_update_to.specs.elf_object.Object.{Object, section_at}
use Rattle.elf_update_to.specs.elf_object.Image.{image, image_length}
use Rattle.elf_update_to.specs.elf_object.Changed.{torn, is_moved, changed_bytes}
use Rattle.elf_update_to.specs.elf_object.Due.{is_loaded}
use Rattle.elf_update_to.specs.law_object.Laws.{IsTornImage}
use Rattle.elf_update_to.specs.law_object.Writing.Based.{IsBased}
use Rattle.elf_update_to.specs.elf_descriptor.State.{State}
use Rattle.elf_update_to.specs.elf_descriptor.Fronts.{HoldsBase}
use Rattle.elf_update_to.specs.declared.updates.PlannedParts.{PlannedParts}
use Rattle.elf_update_to.specs.Updates.{IsPlanned}
use Rattle.elf_update_in_place.specs.Moves.Written.{part_changed}

-- Places are stored, the object and the pieces of what moves are marked, and what moves is loaded:
-- the object is the one as it was, torn over its own base. The device begins with the base.
pub record IsMarkedAndLoaded {D : Type 0} (s : SourceGhosts D) (p : PlannedParts)
    (changed : List Bool) (state : State D) : Type 0 where
  pub was : Object
  pub planned : IsPlanned was p
  pub changes : changed ≡ map (λ q. part_changed was q.part) p.parts
  pub based : IsSome (s.holds state.source) → IsBased was
  pub object : state.o ≡ torn was was.base
  pub base : HoldsBase s state
  pub loaded : (i : ℕ) → is_moved was i ≡ true → (section_at was i).home.out ≡ false
      → i < length was.sections → IsTrue (is_loaded state.loaded i)
  pub ready : IsTrue state.ready

-- a device that tells its bytes has at each place its old byte or the image's, and as many as
-- before or as the image
abbrev pub LeavesTorn : Option (List ℕ) → Option (List ℕ) → List ℕ → Type 0
LeavesTorn old new image =
    (left : List ℕ) × (new ≡ option_map (λ _. left) old)
    × IfSome old (λ bytes. IsTorn bytes image left)

-- After an Ok the device holds the image; after a refusal it is torn between what it held and the
-- image. The object is torn over what is there of its base: all of it, or as much as the device has
-- where that is shorter. Nothing is read, and at most the parts that change and the fill are handed
-- to the device.
pub record WritesChanges {D A : Type 0} (s : SourceGhosts D) (d : DeviceGhosts D) (was : Object)
    (result : Result A ElfError) (old new : State D) : Type 0 where
  pub state : new ≡ record old { o = torn was new.o.base; source = new.source }
  pub base : IsTornImage was new.o.base
  pub cut : length new.o.base ≡ min (length was.base) (s.size new.source)
  pub is : IfSome (s.holds new.source) (λ held. take (length new.o.base) held ≡ new.o.base)
  pub bytes : OnOk result (s.holds new.source ≡ option_map (λ _. image was) (s.holds old.source))
  pub torn : OnErr result (LeavesTorn (s.holds old.source) (s.holds new.source) (image was))
  pub long : OnOk result (s.size new.source ≡ image_length was)
  pub either : OnErr result ((s.size new.source ≡ s.size old.source)
      ⊎ (s.size new.source ≡ image_length was))
  pub uses : UsesDevice s d result old.source new.source 0 (changed_bytes was)
  pub err : IfErr result (λ e. e ≡ Write)
