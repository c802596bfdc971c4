-- What each change of copy but those of names leaves of an object's front and of its sections.
use Rattle.std.proofs.Common.{◌≡◌, ◌≢◌, ℕ, zero, suc, ◌+◌, ◌<◌, ◌≤◌, Bool, true, false, not, List, [], ◌∷◌, ◌++◌, length, Option, None, Result, Ok, Err, refl, sym, ap, ◌∙◌, subst, arith, inl, inr}
use Rattle.std.specs.Prelude.{nat_le, if◌then◌else◌, ◌==◌}
use Rattle.std.proofs.lemmas.Bool.{cases_eq, leb-false, ne_eqb, not-false}
use Rattle.std.proofs.lemmas.List.{length-append, get_or_append_left, get_or_push}
use Rattle.elf_types.specs.Answers.{refused_if, first_refusal, answered}
use Rattle.elf_types.specs.declared.records.Shdr.{Shdr}
use Rattle.elf_types.specs.declared.errors.ElfError.{ElfError}
use Rattle.elf_types.specs.declared.errors.ElfError.TheVariants.{NoSection, Reserved, NoData}
use Rattle.law_object.specs.elf_xlate.declared.content.Items.{Items}
use Rattle.law_object.specs.elf_xlate.declared.content.Items.TheVariants as items
use Rattle.law_object.proofs.elf_ident.Refusals.{answered_ok, bind_ok}
use Rattle.law_object.specs.elf_object.Object.{Object, Section, section_at, absent_section, new_section, occupies_file}
use Rattle.law_object.specs.elf_object.Answers.{piece_count, reserved, no_data}
use Rattle.law_object.specs.elf_object.Calls.{Call, newscn, update_shdr, newdata, replace, replace_refusal, unfit_items}
use Rattle.law_object.specs.elf_object.Steps.{new_number, with_section, with_piece_at, with_own, with_shdr, with_new_section, with_new_piece, own_piece}
use Rattle.law_object.proofs.elf_object.PassedLaws.{passed_one}
use Rattle.law_object.proofs.elf_object.StepLaws.{section_count-with_section, section_at-with_section, section_at-with_section_other, section_at-with_own, section_at-with_own_other}
use Rattle.law_object.specs.elf_object.Sections.{header_at, edited}
use Rattle.rebuild_model.specs.Copied.{or_strip, names_in, section_named, update_fault, with_bytes, flags_fault, with_bits, with_section_flags, added_header, with_added}
use Rattle.rebuild_model.specs.Copied.CopyFault.{NoBytes}
use Rattle.rebuild_model.specs.KeepingLaws.{without_places}

-- ---- What may stay

-- the front of an object, but for its header's places; and no section goes
pub record Follows (old new : Object) : Type 0 where
  pub class : new.header.class ≡ old.header.class
  pub order : new.header.order ≡ old.header.order
  pub index : new.header.shstrndx ≡ old.header.shstrndx
  pub phdrs : new.phdrs ≡ old.phdrs
  pub marked : old.header_marked ≡ true → new.header_marked ≡ true
  pub count : length old.sections ≤ length new.sections

-- a section's header but for its name and its place
abbrev pub KeepsHeader : Object → Object → ℕ → Type 0
KeepsHeader old new s = without_places (header_at new s) ≡ without_places (header_at old s)

-- a section's type and its pieces
pub record SamePieces (old new : Object) (s : ℕ) : Type 0 where
  pub stype : (header_at new s).stype ≡ (header_at old s).stype
  pub pieces : (section_at new s).pieces ≡ (section_at old s).pieces

pub follows_itself : (o : Object) → Follows o o
follows_itself o = record {
  class = refl;
  order = refl;
  index = refl;
  phdrs = refl;
  marked = λ h. h;
  count = omega arith;
}

pub follows_both : (a b c : Object) → Follows a b → Follows b c → Follows a c
follows_both a b c first second =
    let few = first.count in
    let more = second.count in
    record {
      class = second.class ∙ first.class;
      order = second.order ∙ first.order;
      index = second.index ∙ first.index;
      phdrs = second.phdrs ∙ first.phdrs;
      marked = λ h. second.marked (first.marked h);
      count = omega (arith, few, more);
    }

pub pieces_itself : (o : Object) (s : ℕ) → SamePieces o o s
pieces_itself o s = record { stype = refl; pieces = refl }

pub pieces_both : (a b c : Object) (s : ℕ) → SamePieces a b s → SamePieces b c s
    → SamePieces a c s
pieces_both a b c s first second = record {
  stype = second.stype ∙ first.stype;
  pieces = second.pieces ∙ first.pieces;
}

-- ---- Answers

pub or_strip_ok : {A : Type 0} (r : Result A ElfError) (x : A) → or_strip r ≡ Ok x → r ≡ Ok x
or_strip_ok (Ok y) x e = cc
or_strip_ok (Err d) x e = cc

pub edited_is : {A : Type 0} (call : Call A) (o p : Object) → edited call o ≡ Ok p
    → (x : A) × (call.answer o ≡ Ok x) × (call.after o ≡ p)
edited_is call o p e =
    let value = bind_ok (call.answer o) (λ x. Ok (call.after o)) p e in
    let same : call.after o ≡ p = let both = value.2 in cc in
    (value.0, value.1, same)

pub first_test : {E : Type 0} (test : Bool) (e : E) (rest : List (Option E))
    → first_refusal (refused_if test e ∷ rest) ≡ None → test ≡ false
first_test true e rest h = cc
first_test false e rest h = refl

pub positive_by_test : (n : ℕ) → (n == 0) ≡ false → 0 < n
positive_by_test zero e = cc
positive_by_test (suc n) e = omega arith

-- ---- Other bytes

-- a section that is named, is in the file and has a piece is given them
pub record IsUpdated (o : Object) (change : List ℕ × List ℕ) (p : Object) : Type 0 where
  pub number : ℕ
  pub chosen : section_named (names_in o) change.0 ≡ Ok number
  pub filled : occupies_file (header_at o number) ≡ true
  pub from : 0 < number
  pub below : number < length o.sections
  pub some : 0 < piece_count o number
  pub is : p ≡ with_own o number 0 (items.Bytes change.1)

pub updated_known : (o : Object) (change : List ℕ × List ℕ) (p : Object)
    → with_bytes o change ≡ Ok p → IsUpdated o change p
unfolding with_bytes update_fault replace_refusal
updated_known o change p e =
    let found = bind_ok (section_named (names_in o) change.0) _ p e in
    let passed = bind_ok (answered (update_fault o found.0 change.0 change.1) found.0)
    (λ s. or_strip (edited (replace s 0 (items.Bytes change.1)) o)) p found.2 in
    let tested = answered_ok (update_fault o found.0 change.0 change.1) found.0 passed.0 passed.1
    in
    let n = passed.0 in
    let own : Items = items.Bytes change.1 in
    let made = edited_is (replace n 0 own) o p
    (or_strip_ok (edited (replace n 0 own) o) p passed.2) in
    let stored = answered_ok (replace_refusal o n 0 own) tt made.0 made.1 in
    let one = passed_one (nat_le (length o.sections) n) (NoSection n (length o.sections))
    (reserved n ∷ no_data o n 0 ∷ unfit_items o n 0 own ∷ []) stored.0 in
    let two = passed_one (n == 0) Reserved (no_data o n 0 ∷ unfit_items o n 0 own ∷ []) one.1 in
    let three = passed_one (nat_le (piece_count o n) 0) (NoData 0 (piece_count o n))
    (unfit_items o n 0 own ∷ []) two.1 in
    record {
      number = n;
      chosen = found.1 ∙ ap (λ (k : ℕ). Ok k) tested.1;
      filled = subst (λ (k : ℕ). occupies_file (header_at o k) ≡ true) tested.1
          (not-false (occupies_file (header_at o found.0))
          (first_test (not (occupies_file (header_at o found.0))) (NoBytes change.0) _ tested.0));
      from = positive_by_test n two.0;
      below = leb-false (length o.sections) n one.0;
      some = leb-false (piece_count o n) 0 three.0;
      is = sym made.2;
    }

follows_section : (o : Object) (n : ℕ) (c : Section) → Follows o (with_section o n c)
unfolding with_section
follows_section o n c =
    let count = section_count-with_section o n c in
    record {
      class = refl;
      order = refl;
      index = refl;
      phdrs = refl;
      marked = λ h. h;
      count = omega (arith, count);
    }

pub follows_own : (o : Object) (n p : ℕ) (own : Items) → Follows o (with_own o n p own)
unfolding with_own with_piece_at
follows_own o n p own = follows_section o n _

pub header_stays_own : (o : Object) (n s : ℕ) (own : Items) → s < length o.sections
    → header_at (with_own o n 0 own) s ≡ header_at o s
header_stays_own o n s own below = elim (cases_eq s n) [
  | inl same ↦ subst (λ (k : ℕ). header_at (with_own o k 0 own) s ≡ header_at o s) same
      (ap (λ (c : Section). c.header) (section_at-with_own o s 0 own below))
  | inr other ↦ ap (λ (c : Section). c.header) (section_at-with_own_other o n s 0 own other)
]

pub own_pieces : (o : Object) (n s : ℕ) (own : Items) → s ≢ n → SamePieces o (with_own o n 0 own) s
own_pieces o n s own other =
    let same = section_at-with_own_other o n s 0 own other in
    record {
      stype = ap (λ (c : Section). c.header.stype) same;
      pieces = ap (λ (c : Section). c.pieces) same;
    }

pub updated_follows : (o : Object) (change : List ℕ × List ℕ) (p : Object)
    → IsUpdated o change p → Follows o p
updated_follows o change p k =
    subst (λ (q : Object). Follows o q) (sym k.is)
    (follows_own o k.number 0 (items.Bytes change.1))

pub updated_header : (o : Object) (change : List ℕ × List ℕ) (p : Object) (s : ℕ)
    → IsUpdated o change p → s < length o.sections → header_at p s ≡ header_at o s
updated_header o change p s k below =
    ap (λ (q : Object). header_at q s) k.is
    ∙ header_stays_own o k.number s (items.Bytes change.1) below

pub updated_pieces : (o : Object) (change : List ℕ × List ℕ) (p : Object) (s : ℕ)
    → (k : IsUpdated o change p) → s ≢ k.number → SamePieces o p s
updated_pieces o change p s k other =
    subst (λ (q : Object). SamePieces o q s) (sym k.is)
    (own_pieces o k.number s (items.Bytes change.1) other)

-- ---- Other flags

pub record IsFlagged (names : List (Option (List ℕ))) (o : Object) (change : List ℕ × ℕ)
    (p : Object) : Type 0 where
  pub number : ℕ
  pub chosen : section_named names change.0 ≡ Ok number
  pub is : p ≡ with_shdr o number (with_bits change.1 (header_at o number))

pub flagged_known : (names : List (Option (List ℕ))) (o : Object) (change : List ℕ × ℕ)
    (p : Object) → with_section_flags names o change ≡ Ok p → IsFlagged names o change p
unfolding with_section_flags
flagged_known names o change p e =
    let found = bind_ok (section_named names change.0) _ p e in
    let passed = bind_ok (answered (flags_fault o found.0 change.0 change.1) found.0)
    (λ s. or_strip (edited (update_shdr s (with_bits change.1 (header_at o s))) o)) p found.2 in
    let tested = answered_ok (flags_fault o found.0 change.0 change.1) found.0 passed.0 passed.1 in
    let h = with_bits change.1 (header_at o passed.0) in
    let made = edited_is (update_shdr passed.0 h) o p
    (or_strip_ok (edited (update_shdr passed.0 h) o) p passed.2) in
    record {
      number = passed.0;
      chosen = found.1 ∙ ap (λ (k : ℕ). Ok k) tested.1;
      is = sym made.2;
    }

follows_shdr : (o : Object) (n : ℕ) (h : Shdr) → Follows o (with_shdr o n h)
unfolding with_shdr
follows_shdr o n h = follows_section o n _

shdr_at : (o : Object) (n : ℕ) (h : Shdr) → n < length o.sections
    → section_at (with_shdr o n h) n ≡ record (section_at o n) { header = h; marked = true }
unfolding with_shdr
shdr_at o n h below =
    section_at-with_section o n (record (section_at o n) { header = h; marked = true }) below

shdr_other : (o : Object) (n s : ℕ) (h : Shdr) → s ≢ n
    → section_at (with_shdr o n h) s ≡ section_at o s
unfolding with_shdr
shdr_other o n s h other =
    section_at-with_section_other o n s (record (section_at o n) { header = h; marked = true })
    other

shdr_pieces : (o : Object) (n s : ℕ) (h : Shdr) → s < length o.sections
    → h.stype ≡ (header_at o n).stype → SamePieces o (with_shdr o n h) s
shdr_pieces o n s h below stype = elim (cases_eq s n) [
  | inl same ↦
      let small : n < length o.sections = omega (arith, same, below) in
      let at = shdr_at o n h small in
      let here : SamePieces o (with_shdr o n h) n = record {
        stype = ap (λ (c : Section). c.header.stype) at ∙ stype;
        pieces = ap (λ (c : Section). c.pieces) at;
      } in
      subst (λ (k : ℕ). SamePieces o (with_shdr o n h) k) (sym same) here
  | inr other ↦
      let at = shdr_other o n s h other in
      record {
        stype = ap (λ (c : Section). c.header.stype) at;
        pieces = ap (λ (c : Section). c.pieces) at;
      }
]

pub flagged_follows : (names : List (Option (List ℕ))) (o : Object) (change : List ℕ × ℕ)
    (p : Object) → IsFlagged names o change p → Follows o p
flagged_follows names o change p k =
    subst (λ (q : Object). Follows o q) (sym k.is)
    (follows_shdr o k.number (with_bits change.1 (header_at o k.number)))

pub flagged_header : (names : List (Option (List ℕ))) (o : Object) (change : List ℕ × ℕ)
    (p : Object) (s : ℕ) → (k : IsFlagged names o change p) → s ≢ k.number → KeepsHeader o p s
flagged_header names o change p s k other =
    ap (λ (q : Object). without_places (header_at q s)) k.is
    ∙ ap (λ (c : Section). without_places c.header)
    (shdr_other o k.number s (with_bits change.1 (header_at o k.number)) other)

pub flagged_pieces : (names : List (Option (List ℕ))) (o : Object) (change : List ℕ × ℕ)
    (p : Object) (s : ℕ) → IsFlagged names o change p → s < length o.sections → SamePieces o p s
flagged_pieces names o change p s k below =
    subst (λ (q : Object). SamePieces o q s) (sym k.is)
    (shdr_pieces o k.number s (with_bits change.1 (header_at o k.number)) below refl)

-- ---- New sections

-- of an object that has sections: one more behind them, which has these bytes
pub record IsAddedLast (o : Object) (bytes : List ℕ) (p : Object) : Type 0 where
  pub follows : Follows o p
  pub count : length p.sections ≡ length o.sections + 1
  pub others : (s : ℕ) → s < length o.sections → section_at p s ≡ section_at o s
  pub header : header_at p (length o.sections) ≡ added_header
  pub pieces : (section_at p (length o.sections)).pieces ≡ own_piece (items.Bytes bytes) 1 ∷ []

grown : Object → Object
grown o = record o {
  header = record o.header { shnum = length (o.sections ++ new_section ∷ []) };
  sections = o.sections ++ new_section ∷ [];
}

grown_is : (o : Object) → (length o.sections == 0) ≡ false → with_new_section o ≡ grown o
unfolding with_new_section grown
grown_is o some =
    ap (λ (b : Bool).
    let l : List Section = o.sections
    ++ (if b then new_section ∷ new_section ∷ [] else new_section ∷ []) in
    let made : Object = record o {
      header = record o.header { shnum = length l };
      sections = l;
    } in made) some

grown_count : (o : Object) → length (grown o).sections ≡ length o.sections + 1
unfolding grown
grown_count o = length-append o.sections (new_section ∷ [])

grown_follows : (o : Object) → Follows o (grown o)
unfolding grown
grown_follows o =
    let count = length-append o.sections (new_section ∷ []) in
    record {
      class = refl;
      order = refl;
      index = refl;
      phdrs = refl;
      marked = λ h. h;
      count = omega (arith, count);
    }

grown_at : (o : Object) → section_at (grown o) (length o.sections) ≡ new_section
unfolding section_at grown
grown_at o = get_or_push o.sections new_section absent_section (length o.sections) refl

grown_other : (o : Object) (s : ℕ) → s < length o.sections
    → section_at (grown o) s ≡ section_at o s
unfolding section_at grown
grown_other o s below = get_or_append_left o.sections (new_section ∷ []) absent_section s below

piece_at_end : (o : Object) (n : ℕ) (own : Items) → n < length o.sections
    → section_at (with_new_piece o n own 1) n
    ≡ record (section_at o n) { pieces = (section_at o n).pieces ++ own_piece own 1 ∷ [] }
unfolding with_new_piece
piece_at_end o n own below =
    section_at-with_section o n
    (record (section_at o n) { pieces = (section_at o n).pieces ++ own_piece own 1 ∷ [] }) below

piece_other : (o : Object) (n s : ℕ) (own : Items) → s ≢ n
    → section_at (with_new_piece o n own 1) s ≡ section_at o s
unfolding with_new_piece
piece_other o n s own other =
    section_at-with_section_other o n s
    (record (section_at o n) { pieces = (section_at o n).pieces ++ own_piece own 1 ∷ [] }) other

piece_count_kept : (o : Object) (n : ℕ) (own : Items)
    → length (with_new_piece o n own 1).sections ≡ length o.sections
unfolding with_new_piece
piece_count_kept o n own = section_count-with_section o n _

pub shdr_count_kept : (o : Object) (n : ℕ) (h : Shdr)
    → length (with_shdr o n h).sections ≡ length o.sections
unfolding with_shdr
shdr_count_kept o n h = section_count-with_section o n _

follows_piece : (o : Object) (n : ℕ) (own : Items) → Follows o (with_new_piece o n own 1)
unfolding with_new_piece
follows_piece o n own = follows_section o n _

-- one section more, with that number
one_more : Object → ℕ → List ℕ → Object
one_more o n bytes = with_new_piece (with_shdr (grown o) n added_header) n (items.Bytes bytes) 1

one_more_is : (o : Object) (bytes : List ℕ)
    → IsAddedLast o bytes (one_more o (length o.sections) bytes)
unfolding one_more
one_more_is o bytes =
    let n = length o.sections in
    let own : Items = items.Bytes bytes in
    let a = grown o in
    let b = with_shdr (grown o) (length o.sections) added_header in
    let p = with_new_piece b n own 1 in
    let more = grown_count o in
    let held = shdr_count_kept a n added_header in
    let kept = piece_count_kept b n own in
    let in_a : n < length a.sections = omega (arith, more) in
    let in_b : n < length b.sections = omega (arith, more, held) in
    let at = piece_at_end b n own in_b in
    let headed = shdr_at a n added_header in_a in
    record {
      follows = follows_both o a p (grown_follows o)
          (follows_both a b p (follows_shdr a n added_header) (follows_piece b n own));
      count = kept ∙ held ∙ more;
      others = λ s below.
          let other : s ≢ n = λ same. omega (arith, below, same) in
          piece_other b n s own other ∙ shdr_other a n s added_header other
          ∙ grown_other o s below;
      header = ap (λ (c : Section). c.header) at ∙ ap (λ (c : Section). c.header) headed;
      pieces = ap (λ (c : Section). c.pieces) at
          ∙ ap (λ (c : Section). c.pieces ++ own_piece own 1 ∷ []) headed
          ∙ ap (λ (c : Section). c.pieces ++ own_piece own 1 ∷ []) (grown_at o);
    }

-- also of an object that has none
follows_grown : (o : Object) → Follows o (with_new_section o)
unfolding with_new_section
follows_grown o =
    let count = length-append o.sections
    (if length o.sections == 0 then new_section ∷ new_section ∷ [] else new_section ∷ []) in
    record {
      class = refl;
      order = refl;
      index = refl;
      phdrs = refl;
      marked = λ h. h;
      count = omega (arith, count);
    }

-- the three edits
added_is : (o : Object) (change : List ℕ × List ℕ) (p : Object) → with_added o change ≡ Ok p
    → with_new_piece (with_shdr (with_new_section o) (new_number o) added_header) (new_number o)
    (items.Bytes change.1) 1
    ≡ p
unfolding with_added
added_is o change p e =
    let s = new_number o in
    let own : Items = items.Bytes change.1 in
    let whole = or_strip_ok _ p e in
    let first = bind_ok (edited newscn o) _ p whole in
    let second = bind_ok (edited (update_shdr s added_header) first.0) _ p first.2 in
    let a = edited_is newscn o first.0 first.1 in
    let b = edited_is (update_shdr s added_header) first.0 second.0 second.1 in
    let c = edited_is (newdata s own) second.0 p second.2 in
    ap (λ (q : Object). with_new_piece (with_shdr q s added_header) s own 1) a.2
    ∙ ap (λ (q : Object). with_new_piece q s own 1) b.2
    ∙ c.2

pub added_follows : (o : Object) (change : List ℕ × List ℕ) (p : Object)
    → with_added o change ≡ Ok p → Follows o p
added_follows o change p e =
    let s = new_number o in
    let own : Items = items.Bytes change.1 in
    let a = with_new_section o in
    let b = with_shdr (with_new_section o) (new_number o) added_header in
    subst (λ (q : Object). Follows o q) (added_is o change p e)
    (follows_both o a (with_new_piece b s own 1) (follows_grown o)
    (follows_both a b (with_new_piece b s own 1) (follows_shdr a s added_header)
    (follows_piece b s own)))

pub added_known : (o : Object) (change : List ℕ × List ℕ) (p : Object)
    → with_added o change ≡ Ok p → 0 < length o.sections → IsAddedLast o change.1 p
unfolding one_more
added_known o change p e some =
    let s = new_number o in
    let own : Items = items.Bytes change.1 in
    let none : (length o.sections == 0) ≡ false =
    ne_eqb (length o.sections) 0 (λ zero_is. omega (arith, some, zero_is)) in
    let number : s ≡ length o.sections =
    ap (λ (t : Bool). if t then 1 else length o.sections) none in
    let all : one_more o (length o.sections) change.1 ≡ p =
    sym (ap (λ (k : ℕ). one_more o k change.1) number)
    ∙ sym (ap (λ (q : Object). with_new_piece (with_shdr q s added_header) s own 1)
    (grown_is o none))
    ∙ added_is o change p e in
    subst (λ (q : Object). IsAddedLast o change.1 q) all (one_more_is o change.1)
