-- How a call that is applied to a descriptor meets the stated one.
use Rattle.std.specs.Prelude.{◌≡◌, ℕ, ◌+◌, ◌≤◌, ◌||◌, not, Bool, true, false, IsTrue, List, [], Contains, Option, Some, None, Result, Ok, Err, IfErr}
use Rattle.elf_types.specs.declared.records.DataId.{DataId}
use Rattle.elf_types.specs.declared.records.Kind.TheVariants as kinds
use Rattle.elf_types.specs.declared.records.Part.TheVariants as part
use Rattle.elf_types.specs.declared.errors.ElfError.{ElfError}
use Rattle.elf_types.specs.declared.errors.ElfError.TheVariants.{Memory, Unfit}
use Rattle.elf_types.specs.Answers.{err_of, IsRefusal}
use Rattle.elf_outside.specs.declared.sources.Source.{Ghosts}
use Rattle.elf_outside.specs.Asks.{Asks}
use Rattle.symbol_lookup.specs.elf_object.Object.{Object}
use Rattle.symbol_lookup.specs.elf_object.Answers.{items_at, kind_at, same_kind}
use Rattle.symbol_lookup.specs.elf_object.Words.{Wants, Refusals, AnswersRead}
use Rattle.symbol_lookup.specs.elf_object.Calls as calls
use Rattle.symbol_lookup.specs.elf_object.Calls.{due}
use Rattle.symbol_lookup.specs.elf_object.Due.{is_loaded, homes_due}
use Rattle.symbol_lookup.specs.elf_object.Steps.{BecomesOwn}
use Rattle.symbol_lookup.specs.elf_object.Strings.{strptr_refusals}
use Rattle.elf_update_plan.specs.elf_descriptor.State.{State}
use Rattle.symbol_lookup.specs.gelf_view.Calls.{note_refusals}
use Rattle.elf_calls_script.specs.declared.calls.Call.{Call}
use Rattle.elf_calls_script.specs.declared.calls.Call.TheVariants as call
use Rattle.elf_calls_script.specs.declared.calls.ItemSet.{ItemSet}
use Rattle.elf_calls_script.specs.declared.calls.ItemSet.TheVariants as set
use Rattle.elf_calls_apply.specs.declared.answers.Answer.{Answer}
use Rattle.elf_calls_apply.specs.declared.answers.Answer.TheVariants as answer
use Rattle.elf_calls_apply.specs.Stated.{stated_call}

-- an answer as a value or a refusal
abbrev pub result_of : Answer → Result Answer ElfError
result_of (answer.Refused e) = Err e
result_of a = Ok a

-- ---- What is answered

-- Memory and Read may come at any step
abbrev pub at_any_step : Wants
at_any_step = record { memory = true; read = true }

-- every refusal comes over every source
abbrev pub all_early : {A : Type 0} → Result A ElfError → Refusals
all_early answer = record { unread = None; early = err_of answer; met = λ e. ⊥ }

-- the same, but Memory and Read may come before
abbrev pub at_any : Refusals → Refusals
at_any r = record r { unread = None }

-- whether a line sets one field of a record, whose other fields stay as they stand in the file
abbrev pub keeps_fields : ItemSet → Bool
keeps_fields (set.Half v) = false
keeps_fields (set.Word v) = false
keeps_fields (set.Addr v) = false
keeps_fields _ = true

-- a refusal that does not rest on the fields that stay
abbrev pub unless_unfit : Option ElfError → Option ElfError
unless_unfit (Some (Unfit part i)) = None
unless_unfit refusal = refusal

-- that a record does not fit its class is met in the bytes of its other fields
abbrev pub set_refusals : {A : Type 0} → Bool → DataId → ℕ → Result A ElfError → Refusals
set_refusals true d i answer = record {
  unread = None;
  early = unless_unfit (err_of answer);
  met = λ e. e ≡ Unfit (part.Piece d.section d.piece) i;
}
set_refusals false d i answer = all_early answer

-- the refusals of a call: of a string, a note and a field of a record some are met in the bytes
abbrev pub refusals : Call → Object → Refusals
refusals (call.Str s off) o = at_any (strptr_refusals o s.0 off)
refusals (call.Note d at) o = at_any (note_refusals o d.section d.piece at)
refusals (call.SetItem d i set) o =
    set_refusals (keeps_fields set) d i ((stated_call (call.SetItem d i set)).answer o)
refusals c o = all_early ((stated_call c).answer o)

-- whether what a call answers shows bytes of the file: what they are, what is found by them, or
-- that they do not fit
abbrev pub shows_bytes : Call → Bool
shows_bytes (call.Raw s) = true
shows_bytes (call.Item d i) = true
shows_bytes (call.Str s off) = true
shows_bytes (call.Note d at) = true
shows_bytes (call.Find s name) = true
shows_bytes (call.SetItem d i set) = keeps_fields set
shows_bytes _ = false

-- ---- What is left

abbrev pub piece_unless_empty : Bool → DataId → Option DataId
piece_unless_empty true d = None
piece_unless_empty false d = Some d

-- the piece whose items a call changes, where it changes some: of an empty one none are
abbrev pub changed_piece : Call → Object → Option DataId
changed_piece (call.SetItem d i set) o = Some d
changed_piece (call.AddAll d n) o =
    piece_unless_empty (same_kind (kind_at o d.section d.piece) kinds.Empty) d
changed_piece _ o = None

-- The object after a call: a refused one leaves it. Where the items of a piece are changed, it
-- became own with items of the kind that it had, and as many; which they are is stated where the
-- source tells its bytes.
abbrev pub LeavesObject : {A : Type 0} → Bool → calls.Call A → Option DataId → Result A ElfError
    → Object
    → Object → Type 0
LeavesObject told c changed (Err e) old new = new ≡ old
LeavesObject told c None (Ok x) old new = new ≡ c.after old
LeavesObject told c (Some d) (Ok x) old new =
    (IsTrue told → new ≡ c.after old)
    × BecomesOwn false old new d.section d.piece (items_at old d.section d.piece)

-- ---- What is read

-- It may load the sections of one list, and make the home pieces of another hold their items. What
-- is loaded stays so. It asks for at most so many bytes; where it answers neither Read nor Memory,
-- for those of the homes that became loaded.
pub record ReadsAtFirst {S T : Type 0} (g : Ghosts S) (result : Result T ElfError)
    (old new : State S) (sections holding : List ℕ) (due : ℕ) : Type 0 where
  pub source : Asks g result old.source new.source due
  pub told : new.told ≡ old.told
  pub loads : (i : ℕ) → ¬ Contains sections i
      → is_loaded new.loaded i ≡ is_loaded old.loaded i
  pub stays : (i : ℕ) → IsTrue (is_loaded old.loaded i)
      → IsTrue (is_loaded new.loaded i)
  pub holds : (i : ℕ) → ¬ Contains holding i → is_loaded new.held i ≡ is_loaded old.held i
  pub first_use : IfErr result IsRefusal
      → g.taken new.source + homes_due old.o new.loaded sections
      ≤ g.taken old.source + homes_due old.o old.loaded sections

-- the sections whose home pieces may come to hold their items: none in a call that looks at bytes
-- where they stand
abbrev pub holding : Call → Object → List ℕ
holding (call.Raw s) o = []
holding (call.Str s off) o = []
holding (call.Note d at) o = []
holding c o = (stated_call c).reads o

-- ---- A call that is applied

-- a call that meets a stated one of the plain object
pub record Meets {S A : Type 0} (g : Ghosts S) (c : calls.Call A) (r : Refusals) (exact : Bool)
    (changed : Option DataId) (holding : List ℕ) (result : Result A ElfError) (old new : State S)
    : Type 0 where
  pub answers : AnswersRead exact at_any_step r result (c.answer old.o)
  pub leaves : LeavesObject old.told c changed result old.o new.o
  pub reads : ReadsAtFirst g result old new (c.reads old.o) holding (due c old.o old.loaded)

-- Its answer is the stated one, and it leaves the object as the stated call does. Over a source
-- that does not tell its bytes all refusals by index, kind, type, extent and size are the stated
-- ones, and so are all answers but those that show bytes.
abbrev pub Applies : {S : Type 0} → Ghosts S → Call → Result Answer ElfError → State S → State S
    → Type 0
Applies g c result old new =
    Meets g (stated_call c) (refusals c old.o) (not (shows_bytes c) || old.told)
    (changed_piece c old.o) (holding c old.o) result old new

-- the same of the call that sets an item, which may keep fields that stand in the file
abbrev pub Sets : {S : Type 0} → Ghosts S → calls.Call (Unit {0}) → Bool → DataId → ℕ
    → Result (Unit {0}) ElfError → State S → State S → Type 0
Sets g c keeps d i result old new =
    Meets g c (set_refusals keeps d i (c.answer old.o)) (not keeps || old.told) (Some d)
    (c.reads old.o) result old new

-- an answer that holds a copy of bytes, which may want memory
abbrev pub IsCopyAnswer : Answer → Result Answer ElfError → Type 0
IsCopyAnswer copy (Ok answer) = answer ≡ copy
IsCopyAnswer copy (Err e) = e ≡ Memory
