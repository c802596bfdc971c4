-- A step of the walk, as the grammar sees it.
use Rattle.std.specs.Prelude.{◌≡◌, ℕ, ◌+◌, ◌-◌, ◌≤◌, List, length, Option, Some, Result, Ok, Err}
use Rattle.elf_types.specs.declared.errors.ElfError.{ElfError}
use Rattle.ar_members.specs.declared.headers.TheConstants.{HEADER_LEN}
use Rattle.ar_members.specs.declared.headers.ArHdr.{ArHdr}
use Rattle.ar_members.specs.declared.headers.Header.{Header}
use Rattle.ar_members.specs.declared.names.NameKind.{NameKind}
use Rattle.ar_members.specs.declared.names.NameKind.TheVariants as kinds
use Rattle.ar_members.specs.declared.numbers.Numbers.{Numbers}
use Rattle.ar_members.specs.declared.entries.Entry.{Entry as Found}
use Rattle.ar_members.specs.declared.entries.Entry.TheVariants.{Member, LongNames, Passed}
use Rattle.ar_members.specs.declared.entries.Step.{Step}
use Rattle.ar_members.specs.Names.{kind_of_name}
use Rattle.ar_members.specs.Headers.{name_field}
use Rattle.ar_members.specs.Members.{Entry, shown_header, member_entry, passed_entry, names_entry}

-- how many bytes of its body were read for an entry
abbrev pub asked_of : Found → ℕ
asked_of (Member header) = 0
asked_of (LongNames more) = length more
asked_of Passed = 0

-- an entry that was found, after the long names before it, with the place of the next header
abbrev pub entry_of : List ℕ → ℕ → Found → Entry
entry_of names next (Member header) = member_entry names next header
entry_of names next (LongNames more) = names_entry more next (length more)
entry_of names next Passed = passed_entry names next

abbrev pub step_entry : List ℕ → Step → Entry
step_entry names step = entry_of names step.next step.entry

-- how many bytes of a body of so many a walk asks for, by the kind of the name
abbrev pub asked_by : Option NameKind → ℕ → ℕ
asked_by (Some kinds.LongNames) size = size
asked_by _ size = 0

abbrev pub body_asks : Header → ℕ
body_asks header = asked_by (kind_of_name (name_field header)) header.numbers.size

-- the shape of an entry, whatever bytes were read
abbrev pub IsShaped : ℕ → Numbers → Found → Type 0
IsShaped at numbers (Member header) = header ≡ shown_header at numbers header.name
IsShaped at numbers (LongNames more) = length more ≡ numbers.size
IsShaped at numbers Passed = Unit {0}

-- the header lies in an archive of so many bytes from a place on, with its body, up to the next
-- header
pub record HeaderLies (from size next : ℕ) (header : ArHdr) : Type 0 where
  pub after : from ≤ header.at
  pub body : header.body ≡ header.at + HEADER_LEN
  pub within : header.body + header.size ≤ size
  pub before : header.body + header.size ≤ next

abbrev pub FoundLies : ℕ → ℕ → ℕ → Found → Type 0
FoundLies at size next (Member header) = HeaderLies at size next header
FoundLies at size next _ = Unit {0}

-- a step from a place: it goes past the header and what it read of the body, which lie in the
-- archive
pub record StepLies (at size : ℕ) (step : Step) : Type 0 where
  pub ahead : at + HEADER_LEN + asked_of step.entry ≤ step.next
  pub within : at + HEADER_LEN + asked_of step.entry ≤ size
  pub header : FoundLies at size step.next step.entry

-- how many bytes a step asks for: a header and what it read of the body, or where it was refused
-- all that follow at most
abbrev pub step_asks : ℕ → ℕ → Result Step ElfError → ℕ
step_asks at size (Ok step) = HEADER_LEN + asked_of step.entry
step_asks at size (Err e) = size - at

-- how many bytes a step asks for by the entry that stands there
abbrev pub step_due : Result Entry ElfError → ℕ
step_due (Ok e) = HEADER_LEN + e.asked
step_due (Err e) = HEADER_LEN
