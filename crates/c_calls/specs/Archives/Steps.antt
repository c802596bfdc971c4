-- A step of the walk over an archive, as C sees it.
use Rattle.std.specs.Prelude.{◌≡◌, ◌⊎◌, ◌+◌, ◌≤◌, ℕ, List, Option, Result}
use Rattle.elf_types.specs.declared.errors.ElfError.{ElfError}
use Rattle.elf_types.specs.declared.errors.ElfError.TheVariants.{Memory}
use Rattle.ar_members.specs.declared.headers.ArHdr.{ArHdr}
use Rattle.ar_members.specs.Members.{Members, next_of}
use Rattle.ar_members.specs.Archives.{members_left}
use Rattle.c_handles.specs.Lent.Images.{bytes_now}
use Rattle.c_handles.specs.declared.archives.opened.OpenArchive.{OpenArchive}
use Rattle.c_records.specs.Codes.{code}
use Rattle.c_records.specs.Gives.{GivesInCForm}
use Rattle.c_calls.specs.declared.archives.records.MemberRecord.{MemberRecord}
use Rattle.c_calls.specs.Archives.Forms.{member_record, archive_member_name}

-- exactly what is stated, in the form that C has; or want of memory, and then nothing is given
unfoldable pub GivesOrWants : {A C : Type 0} → (A → C) → Result A ElfError → ℕ → C → C → Type 0
GivesOrWants form stated number old new =
    GivesInCForm form stated number old new ⊎ ((number ≡ code Memory) × (new ≡ old))

-- the bytes that an archive is over
abbrev pub bytes_of : OpenArchive → List ℕ
bytes_of archive = bytes_now archive.ar.source

-- what C sees of a walk: the record in its memory, the name that the archive keeps, and the members
-- that are left
abbrev pub Seen : Type 0
Seen = MemberRecord × List ℕ × Members

abbrev pub walk_seen : List ℕ → MemberRecord → OpenArchive → Seen
walk_seen bytes shown archive = (shown, archive.name, members_left bytes archive.ar.walk)

-- the same of a step that is stated: the member that it comes to and those that are left after it
abbrev pub step_seen : Option ArHdr × Members → Seen
step_seen step = (member_record step.0, archive_member_name step.0, step.1)

-- the step that is stated of an archive
abbrev pub step_of : OpenArchive → Result (Option ArHdr × Members) ElfError
step_of archive = next_of (members_left (bytes_of archive) archive.ar.walk)

-- the step was done: the member's record and its name are given, and those after it are left; or
-- nothing is given, and as many are left as before
abbrev pub Steps : OpenArchive → OpenArchive → ℕ → MemberRecord → MemberRecord → Type 0
Steps old new number shown_old shown_new =
    GivesOrWants step_seen (step_of old) number (walk_seen (bytes_of old) shown_old old)
    (walk_seen (bytes_of old) shown_new new)

-- the body lies in an archive of so many bytes
abbrev pub BodyLiesIn : ℕ → MemberRecord → Type 0
BodyLiesIn size shown = shown.body + shown.size ≤ size
