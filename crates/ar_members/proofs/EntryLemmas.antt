-- The entries of an archive, one after another, and the members among them.
use Rattle.std.proofs.Common.{◌≡◌, ℕ, zero, suc, ◌+◌, ◌<◌, ◌≤◌, Bool, cond, leb, List, [], ◌∷◌, length, Option, Some, None, Result, Ok, Err, refl, sym, ap, ◌∙◌, arith}
use Rattle.std.specs.List.{filter_map, cons_option}
use Rattle.std.proofs.lemmas.Bool.{le-leb, lt-leb}
use Rattle.elf_types.specs.declared.errors.ElfError.{ElfError}
use Rattle.elf_types.specs.declared.errors.ElfError.TheVariants.{BadMember}
use Rattle.elf_types.specs.Answers.{or_refused, ◌>>=◌}
use Rattle.ar_members.specs.declared.headers.ArHdr.{ArHdr}
use Rattle.ar_members.specs.declared.headers.Header.{Header}
use Rattle.ar_members.specs.declared.names.NameKind.{NameKind}
use Rattle.ar_members.specs.declared.names.NameKind.TheVariants.{Symbols, LongNames, Symbols64, Long, Short}
use Rattle.ar_members.specs.Names.{kind_of_name, long_name_of}
use Rattle.ar_members.specs.Headers.{header_at, name_field, next_at}
use Rattle.ar_members.specs.Members.{Entry, Entries, shown_header, member_entry, entry_by, named_entry, entry_at, entry_and_later, entries_within, entries_from, members_of, members_from, bad_at, due_past, due_among, due_from, due_in_all, due_to_end}
use Rattle.ar_members.specs.Steps.{step_due}

-- ---- Entries

-- the header after an entry stands past its own
abbrev IsAhead : ℕ → Result Entry ElfError → Type 0
IsAhead at (Ok e) = at + 60 ≤ e.next
IsAhead at (Err e) = Unit {0}

module _ (bytes names : List ℕ) (at : ℕ) where
  ahead_by : (header : Header) (kind : NameKind) → IsAhead at (entry_by bytes names at header kind)
  ahead_by header Symbols = omega arith
  ahead_by header LongNames = omega arith
  ahead_by header Symbols64 = omega arith
  ahead_by header (Long from) = long (long_name_of names from)
    where
      long : (name : Option (List ℕ)) → IsAhead at (or_refused name (BadMember at) >>= λ n. Ok (member_entry names (next_at at header.numbers.size) (shown_header at header.numbers n)))
      long None = tt
      long (Some name) = omega arith
  ahead_by header Short = omega arith

  ahead_named : (header : Header) (kind : Option NameKind) → IsAhead at (or_refused kind (BadMember at) >>= entry_by bytes names at header)
  ahead_named header None = tt
  ahead_named header (Some kind) = ahead_by header kind

  ahead : IsAhead at (entry_at bytes names at)
  unfolding entry_at named_entry
  ahead = with_header (header_at bytes at)
    where
      with_header : (found : Result Header ElfError) → IsAhead at (found >>= named_entry bytes names at)
      with_header (Ok header) = ahead_named header (kind_of_name (name_field header))
      with_header (Err e) = tt

-- what follows an entry depends on what follows its place alone
after_same : (at : ℕ) (ended : Entries) (b : Bool) (f g : Entry → Entries) (found : Result Entry ElfError) → ((e : Entry) → at + 60 ≤ e.next → f e ≡ g e) → IsAhead at found → cond b ended (entry_and_later at f found) ≡ cond b ended (entry_and_later at g found)
after_same at ended b f g (Err e) same past = refl
after_same at ended b f g (Ok e) same past =
    ap (λ rest. cond b ended (record { list = e ∷ rest.list; bad = rest.bad })) (same e past)

-- what is due up to the next member is due of all
past_all : (m : Option ArHdr) (a b : ℕ) → a ≤ b → due_past m a ≤ b
past_all None a b h = h
past_all (Some header) a b h = omega arith

among_all : (list : List Entry) (bad : Option ℕ) → due_among list bad ≤ due_in_all list bad
among_all [] None = omega arith
among_all [] (Some at) = omega arith
among_all (e ∷ es) bad =
    let later = past_all e.member (due_among es bad) (due_in_all es bad) (among_all es bad) in
    omega (arith, later)

-- no entry
abbrev none : Entries
none = record { list = []; bad = None }

-- entries enough are all of them
enough : (n m : ℕ) (bytes names : List ℕ) (at : ℕ) → length bytes ≤ at + n → length bytes ≤ at + m → entries_within n bytes names at ≡ entries_within m bytes names at
enough zero zero bytes names at h k = refl
enough zero (suc m) bytes names at h k =
    sym (ap (λ b. cond b none (entry_and_later at (λ e. entries_within m bytes e.names e.next) (entry_at bytes names at))) (le-leb _ _ (omega (arith, h))))
enough (suc n) zero bytes names at h k =
    ap (λ b. cond b none (entry_and_later at (λ e. entries_within n bytes e.names e.next) (entry_at bytes names at))) (le-leb _ _ (omega (arith, k)))
enough (suc n) (suc m) bytes names at h k =
    after_same at none (leb (length bytes) at) (λ e. entries_within n bytes e.names e.next) (λ e. entries_within m bytes e.names e.next) (entry_at bytes names at)
    (λ e past. enough n m bytes e.names e.next (omega (arith, h, past)) (omega (arith, k, past))) (ahead bytes names at)

module _ (bytes names : List ℕ) (at : ℕ) where
  -- no entries from the end on
  entries_end : length bytes ≤ at → entries_from bytes names at ≡ none
  unfolding entries_from
  entries_end past = enough (length bytes) zero bytes names at (omega arith) (omega (arith, past))

  -- before the end the entry at the place, and those from the next one on
  entries_more : at < length bytes → entries_from bytes names at ≡ entry_and_later at (λ e. entries_from bytes e.names e.next) (entry_at bytes names at)
  unfolding entries_from
  entries_more within =
      enough (length bytes) (suc (length bytes)) bytes names at (omega arith) (omega arith)
      ∙ ap (λ b. cond b none (entry_and_later at (λ e. entries_within (length bytes) bytes e.names e.next) (entry_at bytes names at))) (lt-leb _ _ within)

  entries_found : (found : Result Entry ElfError) → at < length bytes → entry_at bytes names at ≡ found → entries_from bytes names at ≡ entry_and_later at (λ e. entries_from bytes e.names e.next) found
  entries_found found within is = entries_more within ∙ ap (entry_and_later at (λ e. entries_from bytes e.names e.next)) is

  -- ---- Members

  pub members_end : length bytes ≤ at → members_from bytes names at ≡ record { list = []; bad = None }
  unfolding members_from
  members_end past = ap members_of (entries_end past)

  -- a bad header
  pub members_bad : (e : ElfError) → at < length bytes → entry_at bytes names at ≡ Err e → members_from bytes names at ≡ bad_at at
  unfolding members_from
  members_bad e within is = ap members_of (entries_found (Err e) within is)

  -- the member of an entry stands before those after it, or there is none
  members_after : (e : Entry) (member : Option ArHdr) → at < length bytes → entry_at bytes names at ≡ Ok e → e.member ≡ member
      → members_from bytes names at ≡ record { list = cons_option member (members_from bytes e.names e.next).list; bad = (members_from bytes e.names e.next).bad }
  unfolding members_from
  members_after e member within is found =
      let rest = entries_from bytes e.names e.next in
      ap members_of (entries_found (Ok e) within is)
      ∙ ap (λ (m : Option ArHdr). record { list = cons_option m (filter_map (λ e. e.member) rest.list); bad = rest.bad }) found

  -- a special member is left out
  pub members_passed : (e : Entry) → at < length bytes → entry_at bytes names at ≡ Ok e → e.member ≡ None → members_from bytes names at ≡ members_from bytes e.names e.next
  members_passed e within is found = members_after e None within is found

  -- any other is the next one
  pub members_next : (e : Entry) (header : ArHdr) → at < length bytes → entry_at bytes names at ≡ Ok e → e.member ≡ Some header
      → members_from bytes names at ≡ record { list = header ∷ (members_from bytes e.names e.next).list; bad = (members_from bytes e.names e.next).bad }
  members_next e header within is found = members_after e (Some header) within is found

  -- ---- What a walk asks for

  -- at most what is due at the place
  due_bad : (e : ElfError) → at < length bytes → entry_at bytes names at ≡ Err e → due_from bytes names at ≡ 60
  unfolding due_from
  due_bad e within is = ap (λ (es : Entries). due_among es.list es.bad) (entries_found (Err e) within is)

  due_next : (e : Entry) → at < length bytes → entry_at bytes names at ≡ Ok e → due_from bytes names at ≡ 60 + e.asked + due_past e.member (due_from bytes e.names e.next)
  unfolding due_from
  due_next e within is = ap (λ (es : Entries). due_among es.list es.bad) (entries_found (Ok e) within is)

  -- past a special member
  pub due_passed : (e : Entry) → at < length bytes → entry_at bytes names at ≡ Ok e → e.member ≡ None → due_from bytes names at ≡ 60 + e.asked + due_from bytes e.names e.next
  due_passed e within is none =
      due_next e within is ∙ ap (λ (m : Option ArHdr). 60 + e.asked + due_past m (due_from bytes e.names e.next)) none

  -- a walk past all members goes on after each entry
  pub due_after : (e : Entry) → at < length bytes → entry_at bytes names at ≡ Ok e
      → due_to_end bytes names at ≡ 60 + e.asked + due_to_end bytes e.names e.next
  unfolding due_to_end
  due_after e within is = ap (λ (es : Entries). due_in_all es.list es.bad)
      (entries_found (Ok e) within is)

  -- the walk to the next member is its beginning
  pub due_begins : due_from bytes names at ≤ due_to_end bytes names at
  unfolding due_from due_to_end
  due_begins = let es = entries_from bytes names at in among_all es.list es.bad

  -- the step at a place asks for no more than the walk from it on
  pub due_step : at < length bytes → step_due (entry_at bytes names at) ≤ due_from bytes names at
  due_step within = due_found (entry_at bytes names at) refl
    where
      due_found : (found : Result Entry ElfError) → entry_at bytes names at ≡ found → step_due found ≤ due_from bytes names at
      due_found (Ok e) is = let due = due_next e within is in omega (arith, due)
      due_found (Err e) is = let due = due_bad e within is in omega (arith, due)
