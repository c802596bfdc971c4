-- The walk to the next member, step by step.
use Rattle.std.proofs.Common.{◌≡◌, ℕ, ◌+◌, ◌-◌, ◌<◌, ◌≤◌, List, length, Option, Some, None, Ok, Err, IfSome, unwrap_or, refl, sym, ap, ◌∙◌, subst, arith}
use Rattle.elf_types.specs.declared.errors.ElfError.{ElfError}
use Rattle.elf_types.specs.declared.errors.ElfError.TheVariants.{BadMember}
use Rattle.elf_types.specs.Answers.{stated_refusal, FollowsBy}
use Rattle.elf_outside.specs.Asks.{Asks, Leaves}
use Rattle.elf_outside.specs.declared.sources.Source.{Ghosts}
use Rattle.ar_members.specs.declared.headers.ArHdr.{ArHdr}
use Rattle.ar_members.specs.declared.entries.Entry.TheVariants as seen
use Rattle.ar_members.specs.declared.entries.Step.{Step}
use Rattle.ar_members.specs.Headers.{IsBadAt}
use Rattle.ar_members.specs.Members.{Entry, Members, entry_at, members_from, next_of, due_from, due_to_end}
use Rattle.ar_members.specs.Steps.{entry_of, step_entry, step_due, asked_of, StepLies}
use Rattle.ar_members.specs.Walks.{found_left}
use Rattle.ar_members.proofs.Told.{told_by, told_at, told_as, told_then, told_both}
use Rattle.ar_members.proofs.EntryLemmas.{members_end, members_bad, members_passed, members_next, due_passed, due_after, due_step}

-- what a walk has done that began at a place and stands at another: the members from there on are those
-- from here on, what was asked for is within what was due, and nothing was done where no byte is left
pub record Walked {S : Type 0} (g : Ghosts S) (place : ℕ) (names : List ℕ) (first src : S) (met : Option (List ℕ)) (at : ℕ) : Type 0 where
  pub leaves : Leaves g first src
  pub faults : g.faults first ≤ g.faults src
  pub taken : g.taken first ≤ g.taken src
  pub ahead : place ≤ at
  pub asked : g.taken src ≤ g.taken first + (at - place)
  pub within : g.taken src ≤ g.taken first + (g.size first - place)
  pub still : g.size first ≤ place → (at ≡ place) × (met ≡ None) × (src ≡ first)
  pub members : IfSome (g.holds first) (λ image. members_from image names place ≡ members_from image (unwrap_or met names) at)
  pub due : IfSome (g.holds first) (λ image. g.taken src + due_from image (unwrap_or met names) at ≤ g.taken first + due_from image names place)
  pub left : IfSome (g.holds first)
      (λ image. g.taken src + due_to_end image (unwrap_or met names) at
      ≤ g.taken first + due_to_end image names place)

-- where no byte is left the walk ends as it began
pub walked_end : {S : Type 0} (g : Ghosts S) (place : ℕ) (names : List ℕ) (first src : S) (met : Option (List ℕ)) (at : ℕ) → Walked g place names first src met at → g.size first ≤ at
    → IfSome (g.holds first) (λ image. length image ≡ g.size first) → IfSome (g.holds first) (λ image. next_of (members_from image names place) ≡ Ok (None, members_from image (unwrap_or met names) at))
walked_end g place names first src met at so_far past sized =
    told_both (λ image. length image ≡ g.size first) (λ image. members_from image names place ≡ members_from image (unwrap_or met names) at) (g.holds first) sized so_far.members
    (λ image len members.
    let none = members_end image (unwrap_or met names) at (omega (arith, len, past)) in
    ap next_of (members ∙ none) ∙ ap (λ (m : Members). Ok (None, m)) (sym none))

-- one step of a walk, where bytes are left
module _ {S : Type 0} (g : Ghosts S) (place : ℕ) (names : List ℕ) (first src : S) (met : Option (List ℕ)) (at : ℕ) (so_far : Walked g place names first src met at)
    (before : at < g.size first) (sized : IfSome (g.holds first) (λ image. length image ≡ g.size first)) (cur : List ℕ) (known : cur ≡ unwrap_or met names) where
  -- what follows of the bytes from a clause of the step
  each : (P : List ℕ → Type 0) {Q : List ℕ → Type 0} → IfSome (g.holds src) P
      → ((image : List ℕ) → at < length image → members_from image names place ≡ members_from image cur at → g.taken src + due_from image cur at ≤ g.taken first + due_from image names place → P image → Q image)
      → IfSome (g.holds first) Q
  each P clause of_image =
      told_by (g.holds first) (λ image is.
      let long : at < length image = omega (arith, before, told_at (λ b. length b ≡ g.size first) _ image is sized) in
      let members = told_at (λ b. members_from b names place ≡ members_from b (unwrap_or met names) at) _ image is so_far.members ∙ ap (λ n. members_from image n at) (sym known) in
      let due = told_at (λ b. g.taken src + due_from b (unwrap_or met names) at ≤ g.taken first + due_from b names place) _ image is so_far.due in
      of_image image long members (omega (arith, due, ap (λ n. due_from image n at) known)) (told_at P _ image is (told_as P _ _ so_far.leaves.same_bytes clause)))

  -- a step takes what it asks for from what is left
  pub walked_left : (next : S) (step : Step) (e : Entry) → step_entry cur step ≡ e
      → asked_of step.entry ≡ e.asked
      → g.taken next ≤ g.taken src + (60 + asked_of step.entry)
      → IfSome (g.holds src) (λ image. entry_at image cur at ≡ Ok (step_entry cur step))
      → IfSome (g.holds first) (λ image. g.taken next + due_to_end image e.names e.next
      ≤ g.taken first + due_to_end image names place)
  walked_left next step e entry_is asked_is asked entry =
      told_both (λ image. g.taken src + due_to_end image (unwrap_or met names) at
      ≤ g.taken first + due_to_end image names place)
      (λ image. due_to_end image (unwrap_or met names) at
      ≡ 60 + e.asked + due_to_end image e.names e.next) (g.holds first) so_far.left
      (each (λ image. entry_at image cur at ≡ Ok (step_entry cur step)) entry
      (λ image long members due here.
      ap (λ n. due_to_end image n at) (sym known) ∙ due_after image cur at e long
      (here ∙ ap (λ (x : Entry). Ok x) entry_is)))
      (λ image left after. omega (arith, left, after, asked, asked_is))

  -- what the last step has asked for is within what was due
  pub walked_due : (next : S) → IfSome (g.holds src) (λ image. g.taken next ≤ g.taken src + step_due (entry_at image cur at)) → IfSome (g.holds first) (λ image. g.taken next ≤ g.taken first + due_from image names place)
  walked_due next stepped =
      each (λ image. g.taken next ≤ g.taken src + step_due (entry_at image cur at)) stepped
      (λ image long members due here. omega (arith, here, due, due_step image cur at long))

  -- a refused step ends the walk
  pub walked_refused : (e : ElfError) → IsBadAt at e → IfSome (g.holds src) (λ image. FollowsBy (step_entry cur) stated_refusal (Err e) (entry_at image cur at))
      → IfSome (g.holds first) (λ image. FollowsBy (found_left image names) stated_refusal (Err e) (next_of (members_from image names place)))
  walked_refused e bad refused =
      each (λ image. FollowsBy (step_entry cur) stated_refusal (Err e) (entry_at image cur at)) refused
      (λ image long members due here. told_both (λ d. d ≡ BadMember at) (λ d. entry_at image cur at ≡ Err d) (stated_refusal e) bad here
      (λ d is stated. ap next_of (members ∙ members_bad image cur at d long stated) ∙ ap (λ (d : ElfError). Err d) (sym is)))

  -- a step to a member ends it too
  pub walked_to : (step : Step) (header : ArHdr) → step.entry ≡ seen.Member header → IfSome (g.holds src) (λ image. entry_at image cur at ≡ Ok (step_entry cur step))
      → IfSome (g.holds first) (λ image. next_of (members_from image names place) ≡ Ok (Some header, members_from image (unwrap_or met names) step.next))
  walked_to step header found entry =
      each (λ image. entry_at image cur at ≡ Ok (step_entry cur step)) entry
      (λ image long members due here.
      let e = entry_of cur step.next (seen.Member header) in
      let is : entry_at image cur at ≡ Ok e = here ∙ ap (λ f. Ok (entry_of cur step.next f)) found in
      ap next_of (members ∙ members_next image cur at e header long is refl) ∙ ap (λ n. Ok (Some header, members_from image n step.next)) known)

  -- and what is left then is past it
  pub walked_past : (next : S) (step : Step) (header : ArHdr) → step.entry ≡ seen.Member header
      → g.taken next ≤ g.taken src + (60 + asked_of step.entry)
      → IfSome (g.holds src) (λ image. entry_at image cur at ≡ Ok (step_entry cur step))
      → IfSome (g.holds first) (λ image.
      g.taken next + due_to_end image (unwrap_or met names) step.next
      ≤ g.taken first + due_to_end image names place)
  walked_past next step header found asked entry =
      let e = entry_of cur step.next (seen.Member header) in
      told_then (λ image. g.taken next + due_to_end image cur step.next
      ≤ g.taken first + due_to_end image names place) (g.holds first)
      (walked_left next step e (ap (entry_of cur step.next) found) (ap asked_of found) asked entry)
      (λ image left. subst (λ n. g.taken next + due_to_end image n step.next
      ≤ g.taken first + due_to_end image names place) known left)

  -- a step past an entry that is no member
  pub walked_more : (next : S) (more : Option (List ℕ)) (step : Step) (e : Entry) → step_entry cur step ≡ e → asked_of step.entry ≡ e.asked → step.next ≡ e.next → e.member ≡ None → e.names ≡ unwrap_or more names
      → StepLies at (g.size src) step → Asks {T = Step} g (Ok step) src next (60 + asked_of step.entry) → IfSome (g.holds src) (λ image. entry_at image cur at ≡ Ok (step_entry cur step)) → Walked g place names first next more e.next
  walked_more next more step e entry_is asked_is next_is none names_is lies asks entry = record {
    leaves = record {
      same_len = asks.leaves.same_len ∙ so_far.leaves.same_len;
      same_bytes = asks.leaves.same_bytes ∙ so_far.leaves.same_bytes;
      same_rest = asks.leaves.same_rest ∙ so_far.leaves.same_rest;
    };
    faults = omega (arith, so_far.faults, asks.later);
    taken = omega (arith, so_far.taken, asks.taken.later);
    ahead = omega (arith, so_far.ahead, lies.ahead, next_is);
    asked = omega (arith, so_far.asked, asks.taken.no_more, so_far.ahead, lies.ahead, next_is);
    within = omega (arith, so_far.asked, asks.taken.no_more, so_far.ahead, lies.within, so_far.leaves.same_len);
    still = λ past. absurd (omega (arith, past, so_far.ahead, before));
    members = each (λ image. entry_at image cur at ≡ Ok (step_entry cur step)) entry
        (λ image long members due here.
        members ∙ members_passed image cur at e long (here ∙ ap (λ (x : Entry). Ok x) entry_is) none ∙ ap (λ n. members_from image n e.next) names_is);
    due = each (λ image. entry_at image cur at ≡ Ok (step_entry cur step)) entry
        (λ image long members due here.
        let passed = due_passed image cur at e long (here ∙ ap (λ (x : Entry). Ok x) entry_is) none ∙ ap (λ n. 60 + e.asked + due_from image n e.next) names_is in
        omega (arith, passed, due, asks.taken.no_more, asked_is));
    left = told_then (λ image. g.taken next + due_to_end image e.names e.next
        ≤ g.taken first + due_to_end image names place) (g.holds first)
        (walked_left next step e entry_is asked_is asks.taken.no_more entry)
        (λ image left. subst (λ n. g.taken next + due_to_end image n e.next
        ≤ g.taken first + due_to_end image names place) names_is left);
  }
