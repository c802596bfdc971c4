-- An archive, as a caller sees it.
use Rattle.std.specs.Prelude.{◌≡◌, ℕ, ◌-◌, Bool, true, false, List, [], ◌∷◌, Option, Result, Ok, Err, if◌then◌else◌}
use Rattle.elf_types.specs.declared.errors.ElfError.{ElfError}
use Rattle.elf_types.specs.declared.errors.ElfError.TheVariants.{BadMember, Memory, Read}
use Rattle.elf_types.specs.Answers.{answered}
use Rattle.ar_members.specs.declared.headers.TheConstants.{FIRST}
use Rattle.ar_members.specs.declared.headers.ArHdr.{ArHdr}
use Rattle.ar_members.specs.Magic.{archive_refusal}
use Rattle.ar_members.specs.Members.{Members, members_from, bad_at, due_from, due_to_end}
use Rattle.ar_members.specs.Walks.{MemberLies, RefusalLies, walk_asks}

-- where the walk of next stands: the place of the next header, or that of the bad one at which it
-- stopped, and the last table of long names that it passed
pub record Walk : Type 0 where
  pub place : ℕ
  pub names : List ℕ
  pub stopped : Bool

-- an archive over a source
pub record Archive (S : Type 0) : Type 0 where
  pub source : S
  pub walk : Walk

-- the walk as it begins, after the line that tells the format
abbrev pub first_walk : Walk
first_walk = record { place = FIRST; names = []; stopped = false }

-- where the walk over the bytes of a source begins, or why they are refused
abbrev pub begun_walk : List ℕ → Result Walk ElfError
begun_walk bytes = answered (archive_refusal bytes) first_walk

-- what the rest of an archive tells: the place of its walk and whether it stopped there, the long
-- names that it keeps, and the rest of its own source
abbrev pub flag : Bool → ℕ
flag false = 0
flag true = 1

abbrev pub archive_rest : Walk → List (List ℕ) → List (List ℕ)
archive_rest walk rest = (walk.place ∷ flag walk.stopped ∷ []) ∷ walk.names ∷ rest

-- the members that are left of an archive
abbrev pub members_left : List ℕ → Walk → Members
members_left bytes walk =
    if walk.stopped then bad_at walk.place else members_from bytes walk.names walk.place

-- the walk that stopped at a bad header, with the long names that it had
abbrev pub stopped_at : Walk → ℕ → Walk
stopped_at walk at = record { place = at; names = walk.names; stopped = true }

-- what a call of next does to the walk, whatever bytes it read: it stops for good at a bad header,
-- and stands where it stood after Memory and Read
abbrev pub Moves : Result (Option ArHdr) ElfError → Walk → Walk → Type 0
Moves (Ok member) old new = (old.stopped ≡ false) × (new.stopped ≡ false)
Moves (Err (BadMember at)) old new = new ≡ stopped_at old at
Moves (Err Memory) old new = (old.stopped ≡ false) × (new ≡ old)
Moves (Err Read) old new = (old.stopped ≡ false) × (new ≡ old)
Moves (Err _) old new = ⊥

-- where the answer of next lies in an archive of so many bytes, whatever they are
abbrev pub NextLies : ℕ → Walk → Walk → Result (Option ArHdr) ElfError → Type 0
NextLies size old new (Ok member) = MemberLies old.place size new.place member
NextLies size old new (Err e) = RefusalLies old.place size e

-- how many bytes a call of next asks for at most, whatever it reads
abbrev pub next_asks : ℕ → Walk → Result (Option ArHdr) ElfError → ℕ
next_asks size old (Ok member) = walk_asks old.place size member
next_asks size old (Err e) = size - old.place

-- and at most by the bytes of the archive
abbrev pub next_due : List ℕ → Walk → ℕ
next_due bytes old = if old.stopped then 0 else due_from bytes old.names old.place

-- how many bytes all calls of next that are left ask for at most, where none is done twice
abbrev pub left_due : List ℕ → Walk → ℕ
left_due bytes walk = if walk.stopped then 0 else due_to_end bytes walk.names walk.place

-- an answer without what is handed back beside a refusal
abbrev pub answer_of : {T U : Type 0} → Result T (U × ElfError) → Result T ElfError
answer_of (Ok x) = Ok x
answer_of (Err back) = Err back.1

-- the source of an archive, or the one that is handed back where it is refused
abbrev pub source_of : {S : Type 0} → Result (Archive S) (S × ElfError) → S
source_of (Ok archive) = archive.source
source_of (Err back) = back.0

-- the archive that is handed back, inside what was given or beside a refusal
abbrev pub handed_back : {T A : Type 0} → (T → A) → Result T (A × ElfError) → A
handed_back inner (Ok x) = inner x
handed_back inner (Err back) = back.0
