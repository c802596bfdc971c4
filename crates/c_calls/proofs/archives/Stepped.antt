-- What a step of the walk gives to C.
use Rattle.std.proofs.Common.{◌≡◌, ◌≤◌, ℕ, List, [], ◌∷◌, Option, Some, None, Err, IfSome, refl, sym, ap, ◌∙◌, subst, arith}
use Rattle.elf_types.specs.declared.errors.ElfError.{ElfError}
use Rattle.elf_types.specs.declared.errors.ElfError.TheVariants.{BadMember, Memory, Read}
use Rattle.elf_types.specs.Answers.{stated_refusal}
use Rattle.elf_outside.specs.Asks.{ReadRose}
use Rattle.ar_members.specs.declared.headers.ArHdr.{ArHdr}
use Rattle.ar_members.specs.Members.{Members, bad_at, next_among, next_of}
use Rattle.ar_members.specs.Walks.{MemberLies}
use Rattle.ar_members.specs.Archives.{Walk, Moves, members_left}
use Rattle.c_records.specs.Codes.{code}
use Rattle.c_calls.specs.declared.archives.records.MemberRecord.{MemberRecord}
use Rattle.c_calls.specs.Archives.Forms.{member_record}
use Rattle.c_calls.specs.Archives.Steps.{GivesOrWants, step_seen, BodyLiesIn}
use Rattle.c_calls.proofs.archives.Given.{answer_refused}

-- ---- A step that is refused

-- members of which the next is a bad header are that one alone
ended_at : (list : List ArHdr) (bad : Option ℕ) (at : ℕ) (members : Members)
    → members ≡ record { list = list; bad = bad } → next_among list bad ≡ Err (BadMember at)
    → members ≡ bad_at at
ended_at [] (Some b) at members is ends =
    let same : b ≡ at = cc in is ∙ ap (λ (n : ℕ). bad_at n) same
ended_at [] None at members is ends = cc
ended_at (header ∷ headers) bad at members is ends = cc

ended : (members : Members) (at : ℕ) → next_of members ≡ Err (BadMember at)
    → members ≡ bad_at at
ended members at ends = ended_at members.list members.bad at members refl ends

-- where it is refused, as many members are left as before
same_left : (bytes : List ℕ) (old new : Walk) (e : ElfError) → Moves (Err e) old new
    → IfSome (stated_refusal e) (λ d. next_of (members_left bytes old) ≡ Err d)
    → members_left bytes new ≡ members_left bytes old
same_left bytes old new (BadMember at) moves follows =
    ap (members_left bytes) moves ∙ sym (ended (members_left bytes old) at follows)
same_left bytes old new Memory moves follows = ap (members_left bytes) moves.1
same_left bytes old new Read moves follows = ap (members_left bytes) moves.1
same_left bytes old new e moves follows = absurd moves

pub step_refused : (bytes : List ℕ) (old new : Walk) (shown : MemberRecord) (name : List ℕ)
    (e : ElfError) (number : ℕ) → number ≡ code e → Moves (Err e) old new
    → ReadRose {T = Option ArHdr} (Err e) 0 0
    → IfSome (stated_refusal e) (λ d. next_of (members_left bytes old) ≡ Err d)
    → GivesOrWants step_seen (next_of (members_left bytes old)) number
    (shown, name, members_left bytes old) (shown, name, members_left bytes new)
step_refused bytes old new shown name e number is moves rose follows =
    subst (λ (left : Members). GivesOrWants step_seen (next_of (members_left bytes old)) number
    (shown, name, members_left bytes old) (shown, name, left))
    (sym (same_left bytes old new e moves follows))
    (answer_refused step_seen (next_of (members_left bytes old))
    (shown, name, members_left bytes old) (Option ArHdr) e number is rose follows)

-- ---- A step that is done

pub three_same : {A B C : Type 0} (x y : A) (s t : B) (left : C) → x ≡ y → s ≡ t
    → ◌≡◌ {A = A × B × C} (x, s, left) (y, t, left)
three_same {A} {B} {C} x y s t left first second =
    let head : ◌≡◌ {A = A × B × C} (x, s, left) (y, s, left) =
    ap (λ (a : A). (a, s, left)) first in
    let rest : ◌≡◌ {A = A × B × C} (y, s, left) (y, t, left) =
    ap (λ (b : B). (y, b, left)) second in
    head ∙ rest

pub lies_in : (place size next : ℕ) (member : Option ArHdr) (shown : MemberRecord)
    → shown ≡ member_record member → MemberLies place size next member → BodyLiesIn size shown
lies_in place size next None shown is lies =
    let nothing : 0 ≤ size = omega arith in
    subst (λ (r : MemberRecord). BodyLiesIn size r) (sym is) nothing
lies_in place size next (Some header) shown is lies =
    subst (λ (r : MemberRecord). BodyLiesIn size r) (sym is) lies.within
