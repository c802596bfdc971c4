-- Each member of an archive has its body at the place of its header.
use Rattle.std.proofs.Common.{◌≡◌, ℕ, zero, suc, ◌+◌, Bool, true, false, cond, leb, List, [], ◌∷◌, length, Option, Some, None, IfSome, Result, Ok, Err, refl, ap, subst}
use Rattle.std.specs.List.{AllByRecursion, filter_map, cons_option}
use Rattle.elf_types.specs.declared.errors.ElfError.{ElfError}
use Rattle.elf_types.specs.declared.errors.ElfError.TheVariants.{BadMember}
use Rattle.elf_types.specs.Answers.{or_refused, ◌>>=◌}
use Rattle.ar_members.specs.declared.headers.ArHdr.{ArHdr}
use Rattle.ar_members.specs.declared.headers.Header.{Header}
use Rattle.ar_members.specs.declared.names.NameKind.{NameKind}
use Rattle.ar_members.specs.declared.names.NameKind.TheVariants.{Symbols, LongNames, Symbols64, Long, Short}
use Rattle.ar_members.specs.Names.{kind_of_name, short_name_of, long_name_of}
use Rattle.ar_members.specs.Headers.{header_at, name_field, next_at, HasBody}
use Rattle.ar_members.specs.Members.{Entry, Entries, Members, shown_header, member_entry, entry_by, named_entry, entry_at, entry_and_later, entries_within, entries_from, members_from, next_among, next_of}

-- the member of an entry has its body
abbrev BodyStands : List ℕ → Result Entry ElfError → Type 0
BodyStands bytes (Ok e) = IfSome e.member (HasBody bytes)
BodyStands bytes (Err e) = Unit {0}

module _ (bytes names : List ℕ) (at : ℕ) where
  shown_body : (header : Header) (name : List ℕ) → header_at bytes at ≡ Ok header → HasBody bytes (shown_header at header.numbers name)
  shown_body header name is = ap (λ h. h >>= λ header. Ok (at + 60, header.numbers.size)) is

  body_by : (header : Header) (kind : NameKind) → header_at bytes at ≡ Ok header → BodyStands bytes (entry_by bytes names at header kind)
  body_by header Symbols is = tt
  body_by header LongNames is = tt
  body_by header Symbols64 is = tt
  body_by header (Long from) is = long (long_name_of names from)
    where
      long : (name : Option (List ℕ)) → BodyStands bytes (or_refused name (BadMember at) >>= λ n. Ok (member_entry names (next_at at header.numbers.size) (shown_header at header.numbers n)))
      long None = tt
      long (Some name) = shown_body header name is
  body_by header Short is = shown_body header (short_name_of (name_field header)) is

  body_named : (header : Header) (kind : Option NameKind) → header_at bytes at ≡ Ok header → BodyStands bytes (or_refused kind (BadMember at) >>= entry_by bytes names at header)
  body_named header None is = tt
  body_named header (Some kind) is = body_by header kind is

  body_stands : BodyStands bytes (entry_at bytes names at)
  unfolding entry_at named_entry
  body_stands = with_header (header_at bytes at) refl
    where
      with_header : (found : Result Header ElfError) → header_at bytes at ≡ found → BodyStands bytes (found >>= named_entry bytes names at)
      with_header (Ok header) is = body_named header (kind_of_name (name_field header)) is
      with_header (Err e) is = tt

-- an entry's member before others
before_others : (bytes : List ℕ) (member : Option ArHdr) (others : List ArHdr) → IfSome member (HasBody bytes) → AllByRecursion (HasBody bytes) others → AllByRecursion (HasBody bytes) (cons_option member others)
before_others bytes None others body all = all
before_others bytes (Some header) others body all = (body, all)

bodies_after : (bytes : List ℕ) (at : ℕ) (b : Bool) (rest : Entry → Entries) (found : Result Entry ElfError) → BodyStands bytes found
    → ((e : Entry) → AllByRecursion (HasBody bytes) (filter_map (λ e. e.member) (rest e).list))
    → AllByRecursion (HasBody bytes) (filter_map (λ e. e.member) (cond b (record { list = []; bad = None }) (entry_and_later at rest found)).list)
bodies_after bytes at true rest found body all = tt
bodies_after bytes at false rest (Ok e) body all = before_others bytes e.member (filter_map (λ e. e.member) (rest e).list) body (all e)
bodies_after bytes at false rest (Err e) body all = tt

bodies_within : (n : ℕ) (bytes names : List ℕ) (at : ℕ) → AllByRecursion (HasBody bytes) (filter_map (λ e. e.member) (entries_within n bytes names at).list)
bodies_within zero bytes names at = tt
bodies_within (suc n) bytes names at =
    bodies_after bytes at (leb (length bytes) at) (λ e. entries_within n bytes e.names e.next) (entry_at bytes names at) (body_stands bytes names at) (λ e. bodies_within n bytes e.names e.next)

-- the law: what members_from lists, member_at gives
pub members_have_bodies : (bytes names : List ℕ) (at : ℕ) → AllByRecursion (HasBody bytes) (members_from bytes names at).list
unfolding members_from entries_from
members_have_bodies bytes names at = bodies_within (length bytes) bytes names at

-- the member that was given, or none
abbrev given : Result (Option ArHdr × Members) ElfError → Option ArHdr
given (Ok x) = x.0
given (Err e) = None

-- so the next of them has its body
next_has_body : (bytes : List ℕ) (list : List ArHdr) (bad : Option ℕ) (member : Option ArHdr) (after : Members) → AllByRecursion (HasBody bytes) list → next_among list bad ≡ Ok (member, after) → IfSome member (HasBody bytes)
next_has_body bytes [] None member after all is = subst (λ m. IfSome m (HasBody bytes)) (ap given is) tt
next_has_body bytes [] (Some at) member after all is = absurd cc
next_has_body bytes (header ∷ list) bad member after all is = subst (λ m. IfSome m (HasBody bytes)) (ap given is) all.0

pub found_has_body : (bytes names : List ℕ) (at : ℕ) (member : Option ArHdr) (after : Members) → next_of (members_from bytes names at) ≡ Ok (member, after) → IfSome member (HasBody bytes)
found_has_body bytes names at member after is =
    next_has_body bytes (members_from bytes names at).list (members_from bytes names at).bad member after (members_have_bodies bytes names at) is
