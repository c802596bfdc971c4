-- A walk over the members of an archive.
use Rattle.std.specs.Prelude.{ℕ, ◌-◌, ◌<◌, ◌≤◌, List, unwrap_or, Option, Some, None, Result, Ok, Err}
use Rattle.elf_types.specs.declared.errors.ElfError.{ElfError}
use Rattle.elf_types.specs.declared.errors.ElfError.TheVariants.{BadMember, Memory, Read}
use Rattle.ar_members.specs.declared.headers.ArHdr.{ArHdr}
use Rattle.ar_members.specs.declared.walk.Found.{Found}
use Rattle.ar_members.specs.Members.{Members, members_from, due_to_end}
use Rattle.ar_members.specs.Steps.{HeaderLies}

-- the next member that a walk found after these long names, and the members that are left after it
abbrev pub found_left : List ℕ → List ℕ → Found → Option ArHdr × Members
found_left bytes names found =
    (found.member, members_from bytes (unwrap_or found.names names) found.place)

-- and how many bytes a walk past those asks for
abbrev pub found_left_due : List ℕ → List ℕ → Found → ℕ
found_left_due bytes names found = due_to_end bytes (unwrap_or found.names names) found.place

-- ---- Whatever bytes it read

-- what a walk from a place came to in an archive of so many bytes, and the place of the next
-- header: a member lies in it with its body, and at the end no byte is left
abbrev pub MemberLies : ℕ → ℕ → ℕ → Option ArHdr → Type 0
MemberLies place size next None = size ≤ next
MemberLies place size next (Some header) = HeaderLies place size next header

-- a walk is refused only where bytes are left, and a bad header stands among them
abbrev pub RefusalLies : ℕ → ℕ → ElfError → Type 0
RefusalLies place size (BadMember at) = (place ≤ at) × (at < size)
RefusalLies place size Memory = place < size
RefusalLies place size Read = place < size
RefusalLies place size _ = ⊥

-- how many bytes a walk asks for at most: those up to the body of the member, or up to the end
abbrev pub walk_asks : ℕ → ℕ → Option ArHdr → ℕ
walk_asks place size None = size - place
walk_asks place size (Some header) = header.body - place

abbrev pub found_asks : ℕ → ℕ → Result Found ElfError → ℕ
found_asks place size (Ok found) = walk_asks place size found.member
found_asks place size (Err e) = size - place
