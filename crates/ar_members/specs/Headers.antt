-- The header at a place of an archive (ar.h, `struct ar_hdr`), and its body. The name field is not
-- looked at here.
use Rattle.std.specs.Prelude.{◌≡◌, ℕ, ◌+◌, ◌-◌, ◌%◌, ◌≤◌, List, length, take, drop, IfSome, Result, Ok, Err, nat_le, nat_lt, if◌then◌else◌}
use Rattle.elf_types.specs.declared.errors.ElfError.{ElfError}
use Rattle.elf_types.specs.declared.errors.ElfError.TheVariants.{BadMember}
use Rattle.elf_types.specs.Answers.{refused_if, answered, stated_refusal, ◌>>=◌}
use Rattle.ar_members.specs.declared.headers.TheConstants.{HEADER_LEN}
use Rattle.ar_members.specs.declared.headers.Header.{Header}
use Rattle.ar_members.specs.declared.headers.ArHdr.{ArHdr}
use Rattle.ar_members.specs.Numbers.{numbers_of}

-- the header at a place, of these bytes and with so many bytes after it: it is bad where its
-- numbers are, or its body is longer
unfoldable pub header_in : ℕ → List ℕ → ℕ → Result Header ElfError
header_in at header room = do
  numbers ← numbers_of at header
  answered (refused_if (nat_lt room numbers.size) (BadMember at))
      (record { bytes = header; numbers = numbers })

-- the header at a place: it is bad where it is cut, has other end bytes, a bad number or a body
-- past the end
unfoldable pub header_at : List ℕ → ℕ → Result Header ElfError
header_at bytes at =
    if nat_le (at + HEADER_LEN) (length bytes)
    then header_in at (take HEADER_LEN (drop at bytes)) (length bytes - HEADER_LEN - at)
    else Err (BadMember at)

-- a header at a place lies in an archive of so many bytes, with a body of so many
abbrev pub BodyLies : ℕ → ℕ → ℕ → Type 0
BodyLies at len size = at + HEADER_LEN + len ≤ size

-- the field of the name
abbrev pub name_field : Header → List ℕ
name_field header = take 16 header.bytes

-- the body that follows a header
abbrev pub body_at : List ℕ → ℕ → ℕ → List ℕ
body_at bytes at size = take size (drop (at + HEADER_LEN) bytes)

-- the place of the next header: the next even one after the body
abbrev pub next_at : ℕ → ℕ → ℕ
next_at at size = let end = at + HEADER_LEN + size in end + end % 2

-- how many bytes a look at the header asks for: none where it is cut
abbrev pub header_asks : ℕ → ℕ → ℕ
header_asks len at = if nat_le (at + HEADER_LEN) len then HEADER_LEN else 0

-- the body of the member at a place, as its place and its size
abbrev pub member_at : List ℕ → ℕ → Result (ℕ × ℕ) ElfError
member_at bytes at = header_at bytes at >>= λ header. Ok (at + HEADER_LEN, header.numbers.size)

-- the place of a member's header has the body that the header tells
abbrev pub HasBody : List ℕ → ArHdr → Type 0
HasBody bytes header = member_at bytes header.at ≡ Ok (header.body, header.size)

-- of the refusals that are stated, only that of the header at the place
abbrev pub IsBadAt : ℕ → ElfError → Type 0
IsBadAt at e = IfSome (stated_refusal e) (λ d. d ≡ BadMember at)
