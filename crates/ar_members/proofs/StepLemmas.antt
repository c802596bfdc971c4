-- The entry of a header by the kind of its name, and the step at a place.
use Rattle.std.proofs.Common.{◌≡◌, ℕ, ◌+◌, ◌≤◌, List, length, Option, Some, None, Result, Ok, Err, sym, ap, ◌∙◌, subst, arith}
use Rattle.elf_types.specs.declared.errors.ElfError.{ElfError}
use Rattle.elf_types.specs.declared.errors.ElfError.TheVariants.{BadMember}
use Rattle.elf_types.specs.Answers.{or_refused, stated_refusal, FollowsBy, Follows, ◌>>=◌}
use Rattle.elf_types.proofs.AnswerLemmas.{refused_then}
use Rattle.ar_members.specs.declared.headers.ArHdr.{ArHdr}
use Rattle.ar_members.specs.declared.headers.Header.{Header}
use Rattle.ar_members.specs.declared.names.NameKind.{NameKind}
use Rattle.ar_members.specs.declared.names.NameKind.TheVariants.{Symbols, LongNames, Symbols64, Long, Short}
use Rattle.ar_members.specs.declared.entries.Entry.TheVariants as found
use Rattle.ar_members.specs.Names.{kind_of_name, short_name_of, long_name_of}
use Rattle.ar_members.specs.Headers.{header_at, name_field, body_at, next_at}
use Rattle.ar_members.specs.Members.{Entry, shown_header, member_entry, names_entry, entry_by, named_entry, entry_at}
use Rattle.ar_members.specs.Steps.{entry_of, step_entry, asked_by, step_due}

-- an entry that was made
abbrev pub made : Entry → Result Entry ElfError
made e = Ok e

module _ (bytes names : List ℕ) (at : ℕ) (header : Header) where
  -- a name that is none of the kinds
  pub named_bad : None ≡ kind_of_name (name_field header) → named_entry bytes names at header ≡ Err (BadMember at)
  unfolding named_entry
  named_bad none = ap (λ k. or_refused k (BadMember at) >>= entry_by bytes names at header) (sym none)

  -- a name of some kind
  pub named_by : (kind by : NameKind) → Some kind ≡ kind_of_name (name_field header) → kind ≡ by → named_entry bytes names at header ≡ entry_by bytes names at header by
  unfolding named_entry
  named_by kind by some is =
      ap (λ k. or_refused k (BadMember at) >>= entry_by bytes names at header) (sym some) ∙ ap (entry_by bytes names at header) is

  -- the table of long names, as it was read
  pub long_names_read : (more : List ℕ) → more ≡ body_at bytes at header.numbers.size → length more ≡ header.numbers.size
      → entry_by bytes names at header LongNames ≡ Ok (entry_of names (next_at at header.numbers.size) (found.LongNames more))
  long_names_read more is len =
      let next = next_at at header.numbers.size in
      ap (λ b. made (names_entry b next header.numbers.size)) (sym is) ∙ ap (λ n. made (names_entry more next n)) (sym len)

  -- a long name, which is there or not
  pub long_name_bad : (from : ℕ) → None ≡ long_name_of names from → entry_by bytes names at header (Long from) ≡ Err (BadMember at)
  long_name_bad from none =
      ap (λ name. or_refused name (BadMember at) >>= λ n. made (member_entry names (next_at at header.numbers.size) (shown_header at header.numbers n))) (sym none)

  pub long_name_found : (from : ℕ) (name : List ℕ) (shown : ArHdr) → Some name ≡ long_name_of names from → shown ≡ shown_header at header.numbers name
      → entry_by bytes names at header (Long from) ≡ Ok (member_entry names (next_at at header.numbers.size) shown)
  long_name_found from name shown some is =
      ap (λ name. or_refused name (BadMember at) >>= λ n. made (member_entry names (next_at at header.numbers.size) (shown_header at header.numbers n))) (sym some)
      ∙ ap (λ h. made (member_entry names (next_at at header.numbers.size) h)) (sym is)

  -- and a short one
  pub short_name_found : (name : List ℕ) (shown : ArHdr) → name ≡ short_name_of (name_field header) → shown ≡ shown_header at header.numbers name
      → entry_by bytes names at header Short ≡ Ok (member_entry names (next_at at header.numbers.size) shown)
  short_name_found name shown found is =
      ap (λ n. made (member_entry names (next_at at header.numbers.size) (shown_header at header.numbers n))) (sym found)
      ∙ ap (λ h. made (member_entry names (next_at at header.numbers.size) h)) (sym is)

  -- a place with this header
  pub entry_with : header_at bytes at ≡ Ok header → entry_at bytes names at ≡ named_entry bytes names at header
  unfolding entry_at
  entry_with some = ap (λ h. h >>= named_entry bytes names at) some

  -- a name asks for no more of the body than its entry
  named_due : (kind : Option NameKind) → 60 + asked_by kind header.numbers.size ≤ step_due (or_refused kind (BadMember at) >>= entry_by bytes names at header)
  named_due None = omega arith
  named_due (Some Symbols) = omega arith
  named_due (Some LongNames) = omega arith
  named_due (Some Symbols64) = omega arith
  named_due (Some (Long from)) = long (long_name_of names from)
    where
      long : (name : Option (List ℕ)) → 60 + 0 ≤ step_due (or_refused name (BadMember at) >>= λ n. made (member_entry names (next_at at header.numbers.size) (shown_header at header.numbers n)))
      long None = omega arith
      long (Some name) = omega arith
  named_due (Some Short) = omega arith

  pub step_due_with : header_at bytes at ≡ Ok header → 60 + asked_by (kind_of_name (name_field header)) header.numbers.size ≤ step_due (entry_at bytes names at)
  unfolding named_entry
  step_due_with some =
      subst (λ e. 60 + asked_by (kind_of_name (name_field header)) header.numbers.size ≤ step_due e) (sym (entry_with some)) (named_due (kind_of_name (name_field header)))

-- what refuses the header refuses the step
pub step_refused : (bytes names : List ℕ) (at : ℕ) (e : ElfError) → Follows (Err e) (header_at bytes at) → FollowsBy (step_entry names) stated_refusal (Err e) (entry_at bytes names at)
unfolding entry_at
step_refused bytes names at e h = refused_then (λ (x : Header). x) (step_entry names) stated_refusal e (header_at bytes at) (named_entry bytes names at) h
