-- How the answer that came meets the stated one: one family of words. docs/MODEL.md has the table
-- of which call uses which.
--
-- Memory, want of memory, is tied to nothing, and the cause of Read is a count of the outside. Both
-- leave the object. Each word says where they may come. Every other refusal comes exactly where it
-- is stated.
use Rattle.std.specs.Prelude.{◌≡◌, ℕ, Bool, true, false, IsTrue, List, length, Option, Some, None, Result, Ok, Err, IsOk, ◌⊎◌}
use Rattle.std.specs.Borrow.{Bor}
use Rattle.elf_types.specs.declared.errors.ElfError.{ElfError}
use Rattle.elf_types.specs.declared.errors.ElfError.TheVariants.{Memory, Read, Write, NoEntry, Unfit, BadChain, Unended}
use Rattle.elf_layout.specs.Layout.{MayWantMemory}
use Rattle.elf_ident.specs.elf_xlate.declared.content.Items.{Items}
use Rattle.elf_ident.specs.elf_xlate.Translation.{items_kind, items_count}

-- ---- Where Memory and Read may come

-- whether they may come in a call at all, by what is held already
pub record Wants : Type 0 where
  pub memory : Bool
  pub read : Bool

-- a refusal that is found in the items of a home: no such item, a value that does not fit, a record
-- or a string that does not end in its piece
abbrev pub is_late : ElfError → Bool
is_late (NoEntry i n) = true
is_late (Unfit p i) = true
is_late (BadChain at) = true
is_late (Unended at) = true
is_late _ = false

-- in a call that reads a home: in place of a value or of a late refusal
abbrev pub MayWant : {A : Type 0} → Result A ElfError → Type 0
MayWant (Ok x) = Unit {0}
MayWant (Err e) = IsTrue (is_late e)

-- ---- Calls that read

-- of a call whose refusals rest on index, kind, flag, type, extent and size: over every source a
-- value comes exactly where one is stated, and a refusal is the stated one. The value is the stated
-- one where the source tells its bytes.
abbrev pub Answers : {A : Type 0} → Bool → Wants → Result A ElfError → Result A ElfError → Type 0
Answers told wants (Ok x) stated = IsOk stated × (IsTrue told → stated ≡ Ok x)
Answers told wants (Err Memory) stated = IsTrue wants.memory × MayWant stated
Answers told wants (Err Read) stated = IsTrue wants.read × MayWant stated
Answers told wants (Err e) stated = stated ≡ Err e

-- how a call is refused that meets refusals in the bytes themselves
pub record Refusals : Type 1 where
  pub unread : Option ElfError  -- before its first read
  pub early : Option ElfError  -- by index, kind, flag, type, extent and size, over every source
  pub met : ElfError → Type 0  -- in the bytes

-- of a call that reads one home: what comes early comes before it reads, and what it meets is late
abbrev pub late_after : Option ElfError → Refusals
late_after early = record { unread = early; early = early; met = λ e. IsTrue (is_late e) }

-- of such a call: an early refusal comes exactly where it is stated, over every source; a value,
-- and a refusal that is met in the bytes, are the stated ones where the source tells them
abbrev pub AnswersRead : {A : Type 0} → Bool → Wants → Refusals → Result A ElfError
    → Result A ElfError → Type 0
AnswersRead told wants r (Ok x) stated = (r.early ≡ None) × (IsTrue told → stated ≡ Ok x)
AnswersRead told wants r (Err Memory) stated = (r.unread ≡ None) × IsTrue wants.memory
AnswersRead told wants r (Err Read) stated = (r.unread ≡ None) × IsTrue wants.read
AnswersRead told wants r (Err e) stated =
    ((r.early ≡ Some e) × (stated ≡ Err e))
    ⊎ ((r.early ≡ None) × r.met e × (IsTrue told → stated ≡ Err e))

-- ---- What an answer shares with the stated one, whatever the source tells

-- an Ok is like the stated value
abbrev pub IsLike : {A : Type 0} → (A → A → Type 0) → Result A ElfError → Result A ElfError → Type 0
IsLike Like (Ok x) (Ok stated) = Like x stated
IsLike Like (Ok x) (Err e) = ⊥
IsLike Like (Err d) stated = Unit {0}

-- items of one kind, and as many
abbrev pub AlikeItems : Items → Items → Type 0
AlikeItems a b = (items_kind a ≡ items_kind b) × (items_count a ≡ items_count b)

-- as many bytes
abbrev pub AlikeBytes : List ℕ → List ℕ → Type 0
AlikeBytes a b = length a ≡ length b

-- ---- Other forms of an answer

abbrev pub result_map : {A B E : Type 0} → (A → B) → Result A E → Result B E
result_map f (Ok x) = Ok (f x)
result_map f (Err e) = Err e

-- an answer that is a reference, as the value that stands there
abbrev pub seen : {A E : Type 0} → Result (Bor A) E → Result A E
seen answer = result_map (λ b. b.now) answer

-- a refusal that hands back what was handed in
abbrev pub handing_back : {A B E : Type 0} → B → Result A E → Result A (B × E)
handing_back items (Ok x) = Ok x
handing_back items (Err e) = Err (items, e)

-- ---- Edits

-- of an edit that reads nothing: it answers as stated and leaves the stepped state, or wants memory
-- where it is not refused; each refusal leaves the state as it was. No refusal that is stated is
-- Read, so it never answers that.
abbrev pub Edits : {A S : Type 0} → Result A ElfError → S → S → Result A ElfError → S → Type 0
Edits (Ok x) old new stated stepped = (stated ≡ Ok x) × (new ≡ stepped)
Edits (Err Memory) old new stated stepped = IsOk stated × (new ≡ old)
Edits (Err e) old new stated stepped = (stated ≡ Err e) × (new ≡ old)

-- of one that hands back what was handed in
abbrev pub EditsWith : {A B S : Type 0} → Result A (B × ElfError) → B → S → S → Result A ElfError
    → S → Type 0
EditsWith (Ok x) items old new stated stepped = (stated ≡ Ok x) × (new ≡ stepped)
EditsWith (Err (back, e)) items old new stated stepped =
    (back ≡ items) × Edits (Err e) old new stated stepped

-- of an update that reads nothing
abbrev pub Updates : {A S : Type 0} → Result A ElfError → S → S → Result A ElfError → S → Type 0
Updates (Ok x) old new stated stepped = (stated ≡ Ok x) × (new ≡ stepped)
Updates (Err Memory) old new stated stepped = MayWantMemory stated × (new ≡ old)
Updates (Err e) old new stated stepped = (stated ≡ Err e) × (new ≡ old)

-- of any update, over any source and to any sink or device: a value and a refusal are the stated
-- ones. It fails to read or to write only where it is not refused, and each of the two has its
-- cause in a count of the outside. What it leaves is stated beside.
abbrev pub UpdateAnswers : {A : Type 0} → Result A ElfError → Result A ElfError → Type 0
UpdateAnswers (Ok x) stated = stated ≡ Ok x
UpdateAnswers (Err Memory) stated = MayWantMemory stated
UpdateAnswers (Err Read) stated = IsOk stated
UpdateAnswers (Err Write) stated = IsOk stated
UpdateAnswers (Err e) stated = stated ≡ Err e
