-- How many bytes are asked for while the members of an archive are reported on one after another.
use Rattle.std.proofs.Common.{◌≡◌, ◌+◌, ◌≤◌, ℕ, Bool, true, false, cond, List, [], ◌∷◌, take, drop, Option, Some, None, Result, Ok, Err, IfSome, OnOk, refl, ap, ◌∙◌, arith}
use Rattle.std.specs.List.{sum_by}
use Rattle.std.proofs.lemmas.List.Sums.{sum_by-cons}
use Rattle.elf_types.specs.declared.errors.ElfError.{ElfError}
use Rattle.tool_output.specs.elf_outside.Windows.{range_of}
use Rattle.ar_members.specs.declared.headers.ArHdr.{ArHdr}
use Rattle.ar_members.specs.Members.{Members, next_among, next_of}
use Rattle.ar_members.specs.Archives.{Walk, first_walk, members_left, next_due, left_due}
use Rattle.ar_members.proofs.EntryLemmas.{due_begins}
use Rattle.ar_members.proofs.Told.{told_by, told_then, told_both, told_as}
use Rattle.tool_output.specs.declared.stops.Stop.{Stop}
use Rattle.tool_objects.specs.Looks.{SectionLooks}
use Rattle.tool_objects.specs.Images.{image_asks}
use Rattle.tool_objects.specs.Archives.{member_asks, left_asks, archive_asks}
use Rattle.tool_objects.proofs.MemberLemmas.{of_range}

-- ---- A member

-- what is asked for of the range that its header tells
pub member_within : (looks : SectionLooks) (header : ArHdr) (holds now : Option (List ℕ))
    (b c at len : ℕ) (r : Result Bool Stop) → now ≡ holds → at ≡ header.body
    → len ≡ header.size
    → OnOk r (IfSome (range_of at len now) (λ image. c ≤ b + image_asks looks image))
    → OnOk r (IfSome holds (λ bytes. c ≤ b + member_asks looks bytes header))
member_within looks header holds now b c at len (Err stop) same from long asked = tt
member_within looks header holds now b c at len (Ok x) same from long asked =
    rw (from, long) at (told_as (λ bytes. c ≤ b + image_asks looks (take len (drop at bytes)))
    holds now same (of_range (λ image. c ≤ b + image_asks looks image) at len now asked))

-- ---- What is left of the members

-- the members of an answer, and those after it
abbrev members_in : Result (Option ArHdr × Members) ElfError → List ArHdr
members_in (Ok (Some header, rest)) = header ∷ rest.list
members_in (Ok (None, rest)) = []
members_in (Err e) = []

in_next : (list : List ArHdr) (bad : Option ℕ) → list ≡ members_in (next_among list bad)
in_next [] None = refl
in_next [] (Some at) = refl
in_next (header ∷ list) bad = refl

list_is : (left : Members) (answer : Result (Option ArHdr × Members) ElfError)
    → next_of left ≡ answer → left.list ≡ members_in answer
list_is left answer is = in_next left.list left.bad ∙ ap members_in is

module _ (looks : SectionLooks) (bytes : List ℕ) where
  -- they are the next one, and those after it
  left_by : (old new : Walk) (header : ArHdr)
      → next_of (members_left bytes old) ≡ Ok (Some header, members_left bytes new)
      → sum_by (member_asks looks bytes) (members_left bytes old).list
      ≡ member_asks looks bytes header + sum_by (member_asks looks bytes) (members_left bytes new).list
  left_by old new header is =
      ap (sum_by (member_asks looks bytes))
      (list_is (members_left bytes old) (Ok (Some header, members_left bytes new)) is)
      ∙ sum_by-cons (member_asks looks bytes) header (members_left bytes new).list

  -- the walk to the next member is within what is left
  next_within : (walk : Walk) → next_due bytes walk ≤ left_due bytes walk
  next_within walk = by_test walk.stopped _ _ (due_begins bytes walk.names walk.place)
    where
      by_test : (b : Bool) (x y : ℕ) → x ≤ y → cond b 0 x ≤ cond b 0 y
      by_test true x y h = omega arith
      by_test false x y h = h

-- nothing was asked for yet
pub asked_begins : (looks : SectionLooks) (holds : Option (List ℕ)) (walk : Walk) (a : ℕ)
    → IfSome holds (λ bytes. a + left_asks looks bytes walk ≤ a + left_asks looks bytes walk)
asked_begins looks holds walk a = told_by holds
    (λ bytes there. same (a + left_asks looks bytes walk))
  where
    same : (n : ℕ) → n ≤ n
    same n = omega arith

-- a step on plain numbers: `w` is the whole bound, of which the walk may still ask for `u` and then
-- `v`, and the members for `s`, of which the next one has `m`
step_within : (w b c d u v s m t : ℕ) → b + (u + s) ≤ w → s ≡ m + t → c + v ≤ b + u → d ≤ c + m
    → d + (v + t) ≤ w
step_within w b c d u v s m t whole is walked shown = omega (arith, whole, is, walked, shown)

last_within : (w b c u v s : ℕ) → b + (u + s) ≤ w → c + v ≤ b + u → c ≤ w
last_within w b c u v s whole walked = omega (arith, whole, walked)

due_within : (w b c u v s : ℕ) → b + (u + s) ≤ w → v ≤ u → c ≤ b + v → c ≤ w
due_within w b c u v s whole less walked = omega (arith, whole, less, walked)

module _ (looks : SectionLooks) (holds now : Option (List ℕ)) (same : now ≡ holds) (first old : Walk)
    (a b : ℕ) (asked : IfSome holds (λ bytes.
    b + left_asks looks bytes old ≤ a + left_asks looks bytes first)) where
  -- a member is next, and was reported on
  pub asked_goes_on : (after : Option (List ℕ)) (new : Walk) (header : ArHdr) (c d : ℕ)
      → after ≡ now
      → IfSome now (λ bytes. next_of (members_left bytes old)
      ≡ Ok (Some header, members_left bytes new))
      → IfSome now (λ bytes. c + left_due bytes new ≤ b + left_due bytes old)
      → IfSome after (λ bytes. d ≤ c + member_asks looks bytes header)
      → IfSome holds (λ bytes. d + left_asks looks bytes new ≤ a + left_asks looks bytes first)
  asked_goes_on after new header c d still next walked shown =
      let Next = λ (bytes : List ℕ). next_of (members_left bytes old)
      ≡ Ok (Some header, members_left bytes new) in
      let Walked = λ (bytes : List ℕ). c + left_due bytes new ≤ b + left_due bytes old in
      let Shown = λ (bytes : List ℕ). d ≤ c + member_asks looks bytes header in
      told_both (λ bytes. b + left_asks looks bytes old ≤ a + left_asks looks bytes first)
      (λ bytes. Next bytes × (Walked bytes × Shown bytes)) holds asked
      (told_as (λ bytes. Next bytes × (Walked bytes × Shown bytes)) holds now same
      (told_both Next (λ bytes. Walked bytes × Shown bytes) now next
      (told_both Walked Shown now walked (told_as Shown now after still shown)
      (λ bytes w s. (w, s)))
      (λ bytes n both. (n, both))))
      (λ bytes whole each.
      step_within (a + left_asks looks bytes first) b c d (left_due bytes old) (left_due bytes new)
      (sum_by (member_asks looks bytes) (members_left bytes old).list)
      (member_asks looks bytes header)
      (sum_by (member_asks looks bytes) (members_left bytes new).list)
      whole (left_by looks bytes old new header each.0) each.1.0 each.1.1)

  -- none is left
  pub asked_ends : (new : Walk) (c : ℕ)
      → IfSome now (λ bytes. c + left_due bytes new ≤ b + left_due bytes old)
      → IfSome holds (λ bytes. c ≤ a + left_asks looks bytes first)
  asked_ends new c walked =
      told_both (λ bytes. b + left_asks looks bytes old ≤ a + left_asks looks bytes first)
      (λ bytes. c + left_due bytes new ≤ b + left_due bytes old) holds asked
      (told_as (λ bytes. c + left_due bytes new ≤ b + left_due bytes old) holds now same walked)
      (λ bytes whole walked.
      last_within (a + left_asks looks bytes first) b c (left_due bytes old) (left_due bytes new)
      (sum_by (member_asks looks bytes) (members_left bytes old).list) whole walked)

  -- or the walk was refused
  pub asked_breaks : (c : ℕ) → IfSome now (λ bytes. c ≤ b + next_due bytes old)
      → IfSome holds (λ bytes. c ≤ a + left_asks looks bytes first)
  asked_breaks c walked =
      told_both (λ bytes. b + left_asks looks bytes old ≤ a + left_asks looks bytes first)
      (λ bytes. c ≤ b + next_due bytes old) holds asked
      (told_as (λ bytes. c ≤ b + next_due bytes old) holds now same walked)
      (λ bytes whole walked.
      due_within (a + left_asks looks bytes first) b c (left_due bytes old) (next_due bytes old)
      (sum_by (member_asks looks bytes) (members_left bytes old).list)
      whole (next_within looks bytes old) walked)

  pub asked_breaks_by : (r : Result Bool Stop) (c : ℕ)
      → IfSome now (λ bytes. c ≤ b + next_due bytes old)
      → OnOk r (IfSome holds (λ bytes. c ≤ a + left_asks looks bytes first))
  asked_breaks_by (Ok x) c walked = asked_breaks c walked
  asked_breaks_by (Err stop) c walked = tt

-- ---- An archive

module _ (looks : SectionLooks) (holds : Option (List ℕ)) (a b : ℕ) (line : b ≤ a + 8) where
  behind_line : (c n : ℕ) → c ≤ b + n → c ≤ a + (8 + n)
  behind_line c n h = omega (arith, line, h)

  -- its walk was begun behind its first line
  pub archive_walked : (r : Result Bool Stop) (now : Option (List ℕ)) (walk : Walk) (c : ℕ)
      → now ≡ holds → walk ≡ first_walk
      → OnOk r (IfSome now (λ bytes. c ≤ b + left_asks looks bytes walk))
      → OnOk r (IfSome holds (λ bytes. c ≤ a + archive_asks looks bytes))
  unfolding archive_asks
  archive_walked (Err stop) now walk c same begun asked = tt
  archive_walked (Ok x) now walk c same begun asked =
      told_then (λ bytes. c ≤ b + left_asks looks bytes first_walk) holds
      (told_as (λ bytes. c ≤ b + left_asks looks bytes first_walk) holds now same
      (rw begun at asked))
      (λ bytes within. behind_line c (left_asks looks bytes first_walk) within)

  -- or it was refused by then
  pub archive_unwalked : (r : Result Bool Stop)
      → OnOk r (IfSome holds (λ bytes. b ≤ a + archive_asks looks bytes))
  unfolding archive_asks
  archive_unwalked (Err stop) = tt
  archive_unwalked (Ok x) = told_by holds
      (λ bytes there. behind_line b (left_asks looks bytes first_walk) (omega arith))
