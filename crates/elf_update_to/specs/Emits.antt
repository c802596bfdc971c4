-- What a step that writes an image from its parts does.
use Rattle.std.specs.Prelude.{◌≡◌, ◌⊎◌, ℕ, ◌-◌, ◌≤◌, Bool, nat_lt, max, List, ◌++◌, length, take, drop, slice_index, if◌then◌else◌, Result, IfErr}
use Rattle.std.proofs.Math.ListN.{replicate}
use Rattle.elf_types.specs.declared.errors.ElfError.{ElfError}
use Rattle.elf_types.specs.declared.errors.ElfError.TheVariants.{Read, Write}
use Rattle.elf_update_plan.specs.elf_outside.Counts.{RaisedAtMost}
use Rattle.elf_update_plan.specs.elf_outside.Asks.{DeviceReadRose}
use Rattle.elf_update_plan.specs.elf_outside.declared.sinks.Sink.{Ghosts as SinkGhosts}
use Rattle.elf_update_plan.specs.law_object.Writing.Plan.{places_below}
use Rattle.elf_update_to.specs.declared.parts.Origin.{Origin}
use Rattle.elf_update_to.specs.Texts.{IsText, Flows}
use Rattle.elf_update_to.specs.Origins.{origin_bytes, origin_due}
use Rattle.elf_update_to.specs.declared.parts.ImageParts.{Ghosts}

-- a step over parts and a sink: it leaves what is kept of the parts, asks for at most so many bytes
-- and answers Read only where the parts' count of faults rose in it
pub record UsesParts {P T : Type 0} (p : Ghosts P) (result : Result T ElfError) (old new : P)
    (due : ℕ) : Type 0 where
  pub kept : p.kept new ≡ p.kept old
  pub later : p.faults old ≤ p.faults new
  pub read : DeviceReadRose result (p.faults old) (p.faults new)
  pub taken : RaisedAtMost (p.taken old) (p.taken new) due

-- it puts a text through a page, which is the stated one where the parts tell their bytes, and else
-- as long; it refuses Read and Write alone
pub record Emits {P K T : Type 0} (p : Ghosts P) (k : SinkGhosts K) (result : Result T ElfError)
    (old new : P) (sink next : K) (waited waits stated : List ℕ) (due : ℕ) : Type 0 where
  pub text : List ℕ
  pub is : IsText (p.told (p.kept old)) stated text
  pub flows : Flows k result sink next waited waits text
  pub parts : UsesParts p result old new due
  pub err : IfErr result (λ e. (e ≡ Read) ⊎ (e ≡ Write))

-- ---- Of parts as they are kept

-- the bytes of a piece or of the base
abbrev pub origin_text : {P : Type 0} → Ghosts P → P → Origin → List ℕ
origin_text p o of = origin_bytes (p.pieces (p.kept o)) (p.base (p.kept o)) of

-- what a range of them is due
abbrev pub due_in : {P : Type 0} → Ghosts P → P → Origin → ℕ → ℕ → ℕ
due_in p o of from to =
    places_below (origin_due (p.due (p.kept o)) (length (p.base (p.kept o))) of) from to

-- a text waits behind what waited: the stated one where the bytes are told, and else as long
pub record WaitsMore (told : Bool) (stated waited waits : List ℕ) : Type 0 where
  pub text : List ℕ
  pub is : IsText told stated text
  pub all : waits ≡ waited ++ text

-- ---- What a walk puts

-- what stands between the parts: base bytes below a length, and then the fill byte
abbrev pub ground_byte : List ℕ → ℕ → ℕ → ℕ → ℕ
ground_byte base kept fill k = if nat_lt k kept then slice_index base k else fill

-- the bytes between one place and another
abbrev pub gap_text : List ℕ → ℕ → ℕ → ℕ → ℕ → List ℕ
gap_text base kept fill from end =
    take (places_below kept from end) (drop from base) ++ replicate (end - max from kept) fill
