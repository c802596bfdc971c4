-- Sections that get other names, by their marks.
use Rattle.std.proofs.Common.{◌≡◌, ◌≢◌, ◌+◌, ◌-◌, ◌<◌, ◌≤◌, ℕ, zero, suc, Bool, List, ◌∷◌, length, map, drop, get_or, Option, Some, None, Result, Ok, Err, refl, sym, ap, ◌∙◌, subst, arith}
use Rattle.std.specs.Prelude.{IsTrue, slice_get, slice_set, if◌then◌else◌}
use Rattle.std.specs.List.{range_with_len}
use Rattle.std.specs.Option.{option_map}
use Rattle.std.proofs.Math.ListN.{replicate, length-set}
use Rattle.std.proofs.lemmas.Bool.{ne_eqb}
use Rattle.std.proofs.lemmas.List.{get_or-set_same, get_or-set_other}
use Rattle.std.proofs.lemmas.Option.{unwrap_or-slice_get, slice_get_read}
use Rattle.elf_types.specs.declared.errors.ElfError.{ElfError}
use Rattle.elf_types.specs.declared.errors.ElfError.TheVariants.{Memory}
use Rattle.elf_types.specs.Answers.{FollowsBy, ◌>>=◌}
use Rattle.law_rebuild.specs.elf_object.Object.{Object}
use Rattle.law_rebuild.specs.elf_object.Strings.{section_name}
use Rattle.rebuild_making.specs.elf_descriptor.State.{State}
use Rattle.law_rebuild.specs.elf_object.Sections.{in_turn}
use Rattle.rebuild_changes.specs.rebuild_model.Copied.{names_in, section_named, with_name, CopyFault as StatedFault}
use Rattle.rebuild_changes.specs.declared.changes.NameBytes.{NameBytes}
use Rattle.rebuild_changes.specs.declared.faults.CopyFault.{CopyFault}
use Rattle.rebuild_changes.specs.declared.faults.CopyFault.TheVariants as faults
use Rattle.rebuild_changes.specs.Stated.{bytes_pair, stated_copy_fault}
use Rattle.rebuild_edits.specs.Edits.Names.{mark_of, new_name, name_over, name_now, names_now}
use Rattle.rebuild_edits.specs.Edits.Steps.{IsPresentSection, Finds}
use Rattle.rebuild_edits.proofs.edits.FaultLaws.{unread_on, memory_fault_unread, memory_given}
use Rattle.rebuild_edits.proofs.edits.StepLaws.{told_on, refused_bind, same_answer_refused}
use Rattle.rebuild_edits.proofs.edits.TurnLaws.{left_more, left_none}
use Rattle.rebuild_edits.proofs.edits.FindLaws.{names_unmarked}

-- ---- One list with an item set

module _ {X : Type 0} (f g : ℕ → X) where
  pub map_same : (a m : ℕ) → ((t : ℕ) → a ≤ t → g t ≡ f t)
      → map g (range_with_len a m) ≡ map f (range_with_len a m)
  map_same a zero same = refl
  map_same a (suc m) same =
      ap (λ (x : X). x ∷ map g (range_with_len (a + 1) m)) (same a (omega arith))
      ∙ ap (λ (l : List X). f a ∷ l)
      (map_same (a + 1) m (λ t low. same t (omega (arith, low))))

  -- where two differ at one number alone
  map_set : (a m k : ℕ) (x : X) → k < m → g (a + k) ≡ x
      → ((t : ℕ) → t ≢ a + k → g t ≡ f t)
      → map g (range_with_len a m) ≡ slice_set (map f (range_with_len a m)) k x
  map_set a zero k x below here other = absurd (omega (arith, below))
  map_set a (suc m) zero x below here other =
      ap (λ (y : X). y ∷ map g (range_with_len (a + 1) m))
      (ap g (let at : a ≡ a + zero = omega arith in at) ∙ here)
      ∙ ap (λ (l : List X). x ∷ l)
      (map_same (a + 1) m (λ t low. other t (λ same. omega (arith, low, same))))
  map_set a (suc m) (suc k) x below here other =
      ap (λ (y : X). y ∷ map g (range_with_len (a + 1) m))
      (other a (λ same. omega (arith, same)))
      ∙ ap (λ (l : List X). f a ∷ l)
      (map_set (a + 1) m k x (omega (arith, below))
      (ap g (let at : a + 1 + k ≡ a + suc k = omega arith in at) ∙ here)
      (λ t differ. other t (λ same. differ (omega (arith, same)))))

-- ---- Marks

mark_set : (marks : List ℕ) (s mark : ℕ) → s < length marks
    → mark_of (slice_set marks s mark) s ≡ mark
mark_set marks s mark below =
    unwrap_or-slice_get (slice_set marks s mark) s 0 ∙ get_or-set_same marks s mark 0 below

mark_other : (marks : List ℕ) (s t mark : ℕ) → t ≢ s
    → mark_of (slice_set marks s mark) t ≡ mark_of marks t
mark_other marks s t mark other =
    unwrap_or-slice_get (slice_set marks s mark) t 0 ∙ get_or-set_other marks s t mark 0 other
    ∙ sym (unwrap_or-slice_get marks t 0)

-- ---- A section that gets a name

pub marked_names : (o : Object) (marks : List ℕ) (renames : List NameBytes) (s mark : ℕ)
    (name : List ℕ) → length marks ≡ length o.sections → IsPresentSection o s
    → new_name renames mark ≡ Some name
    → names_now o (slice_set marks s mark) renames
    ≡ slice_set (names_now o marks renames) s (Some name)
unfolding names_now name_now
marked_names o marks renames zero mark name long there is = absurd (omega (arith, there.0))
marked_names o marks renames (suc k) mark name long there is =
    let below = there.1 in
    ap (λ (l : List (Option (List ℕ))). None ∷ l)
    (map_set (name_now o marks renames) (name_now o (slice_set marks (suc k) mark) renames) 1
    (length o.sections - 1) k (Some name) (omega (arith, below))
    (at (1 + k) (omega arith)) (λ t other. ap (λ (n : ℕ).
    name_over (new_name renames n) (section_name o t))
    (mark_other marks (suc k) t mark (λ same. other (omega (arith, same))))))
  where
    at : (t : ℕ) → t ≡ suc k
        → name_over (new_name renames (mark_of (slice_set marks (suc k) mark) t))
        (section_name o t) ≡ Some name
    at t same =
        ap (λ (n : ℕ).
        name_over (new_name renames (mark_of (slice_set marks (suc k) mark) n))
        (section_name o t)) same
        ∙ ap (λ (n : ℕ). name_over (new_name renames n) (section_name o t))
        (mark_set marks (suc k) mark (let below = there.1 in omega (arith, below, long)))
        ∙ ap (λ (n : Option (List ℕ)). name_over n (section_name o t)) is

-- ---- One change

module _ {S : Type 0} (renames : List NameBytes) (change : NameBytes) (old new : State S)
    (marks : List ℕ) where
  abbrev Named : Result ℕ CopyFault → Type 0
  Named r = Finds (λ s. s) (section_named (names_now old.o marks renames) change.name) r old new

  pub renamed_at : (s mark : ℕ) (after : List ℕ) → length marks ≡ length old.o.sections
      → IsPresentSection old.o s → new_name renames mark ≡ Some change.bytes
      → after ≡ slice_set marks s mark → Named (Ok s)
      → Finds {T = Unit {0}} (λ _. names_now old.o after renames)
      (with_name (names_now old.o marks renames) (bytes_pair change)) (Ok tt) old new
  unfolding with_name
  renamed_at s mark after long there is set first = record {
    object = first.object;
    told = first.told;
    unread = tt;
    found = λ t.
        ap (λ (r : Result ℕ StatedFault).
        r >>= λ n. Ok (slice_set (names_now old.o marks renames) n (Some change.bytes)))
        (first.found t)
        ∙ ap (λ (l : List (Option (List ℕ))). Ok l)
        (sym (ap (λ (l : List ℕ). names_now old.o l renames) set
        ∙ marked_names old.o marks renames s mark change.bytes long there is));
  }

  pub renamed_end : (f : CopyFault) → Named (Err f)
      → Finds {T = Unit {0}} (λ _. names_now old.o marks renames)
      (with_name (names_now old.o marks renames) (bytes_pair change)) (Err f) old new
  unfolding with_name
  renamed_end f first = record {
    object = first.object;
    told = first.told;
    unread = unread_on ℕ (Unit {0}) f first.unread;
    found = λ t.
        refused_bind (section_named (names_now old.o marks renames) change.name)
        (λ n. Ok (slice_set (names_now old.o marks renames) n (Some change.bytes)))
        (stated_copy_fault f) (first.found t);
  }

-- ---- One after another

-- after so many changes
pub record Renamed {S : Type 0} (renames : List NameBytes) (i : ℕ) (old now : State S)
    (marks : List ℕ) : Type 0 where
  pub object : now.o ≡ old.o
  pub told : now.told ≡ old.told
  pub long : length marks ≡ length old.o.sections
  pub left : IsTrue old.told
      → in_turn with_name (names_in old.o) (map bytes_pair renames)
      ≡ in_turn with_name (names_now old.o marks renames) (map bytes_pair (drop i renames))

pub no_mark : (n t : ℕ) → mark_of (replicate n 0) t ≡ 0
no_mark zero t = refl
no_mark (suc n) zero = refl
no_mark (suc n) (suc t) = no_mark n t

no_mark_long : (n : ℕ) → length {A = ℕ} (replicate n 0) ≡ n
no_mark_long zero = refl
no_mark_long (suc n) = ap suc (no_mark_long n)

-- the name that a mark stands for
pub mark_named : (renames : List NameBytes) (i : ℕ) (change : NameBytes) → i < length renames
    → change ≡ get_or renames i change → new_name renames (i + 1) ≡ Some change.bytes
mark_named renames i change below is =
    ap (λ (b : Bool). if b then None
    else option_map (λ (n : NameBytes). n.bytes) (slice_get renames (i + 1 - 1)))
    (ne_eqb (i + 1) 0 (λ none. omega (arith, none)))
    ∙ ap (λ (k : ℕ). option_map (λ (n : NameBytes). n.bytes) (slice_get renames k))
    (let at : i + 1 - 1 ≡ i = omega arith in at)
    ∙ ap (λ (o : Option NameBytes). option_map (λ (n : NameBytes). n.bytes) o)
    (slice_get_read renames (length renames) i change refl below is)

module _ {S : Type 0} (renames : List NameBytes) where
  pub renamed_none : (s : State S) (marks : List ℕ)
      → marks ≡ replicate (length s.o.sections) 0 → Renamed renames 0 s s marks
  renamed_none s marks is = record {
    object = refl;
    told = refl;
    long = ap length is ∙ no_mark_long (length s.o.sections);
    left = λ t. sym (ap (λ (l : List (Option (List ℕ))).
        in_turn with_name l (map bytes_pair renames)) (names_unmarked s.o marks renames
        (λ k. ap (λ (l : List ℕ). mark_of l k) is ∙ no_mark (length s.o.sections) k)));
  }

  module _ (i : ℕ) (old now : State S) (marks : List ℕ) (so_far : Renamed renames i old now marks)
    where
      -- what was found of the object as it is, of the object as it was
      given_before : {U : Type 0} (after : List ℕ) (x : NameBytes) (r : Result U CopyFault)
          (next : State S)
          → Finds (λ _. names_now now.o after renames)
          (with_name (names_now now.o marks renames) (bytes_pair x)) r now next
          → IsTrue old.told
          → FollowsBy (λ _. names_now old.o after renames) stated_copy_fault r
          (with_name (names_now old.o marks renames) (bytes_pair x))
      given_before after x r next step t =
          subst (λ (o : Object). FollowsBy (λ _. names_now o after renames) stated_copy_fault r
          (with_name (names_now o marks renames) (bytes_pair x))) so_far.object
          (step.found (told_on old now so_far.told t))

      pub renamed_more : (x : NameBytes) (next : State S) (after : List ℕ) → i < length renames
          → x ≡ get_or renames i x → length after ≡ length marks
          → Finds {T = Unit {0}} (λ _. names_now now.o after renames)
          (with_name (names_now now.o marks renames) (bytes_pair x)) (Ok tt) now next
          → Renamed renames (i + 1) old next after
      renamed_more x next after below is long step = record {
        object = step.object ∙ so_far.object;
        told = step.told ∙ so_far.told;
        long = long ∙ so_far.long;
        left = λ t.
            so_far.left t
            ∙ left_more bytes_pair with_name (names_now old.o marks renames) renames i x below is
            ∙ ap (λ (r : Result (List (Option (List ℕ))) StatedFault).
            r >>= λ b. in_turn with_name b (map bytes_pair (drop (i + 1) renames)))
            (given_before after x (Ok (tt {0})) next step t);
      }

      pub renamed_stop : (x : NameBytes) (f : CopyFault) (next : State S) (after : List ℕ)
          → i < length renames → x ≡ get_or renames i x
          → Finds {T = Unit {0}} (λ _. names_now now.o after renames)
          (with_name (names_now now.o marks renames) (bytes_pair x)) (Err f) now next
          → Finds {T = Unit {0}} (λ _. names_now old.o after renames)
          (in_turn with_name (names_in old.o) (map bytes_pair renames)) (Err f) old next
      renamed_stop x f next after below is step = record {
        object = step.object ∙ so_far.object;
        told = step.told ∙ so_far.told;
        unread = step.unread;
        found = λ t.
            same_answer_refused (in_turn with_name (names_in old.o) (map bytes_pair renames))
            (with_name (names_now old.o marks renames) (bytes_pair x)
            >>= λ b. in_turn with_name b (map bytes_pair (drop (i + 1) renames)))
            (stated_copy_fault f)
            (so_far.left t
            ∙ left_more bytes_pair with_name (names_now old.o marks renames) renames i x below is)
            (refused_bind (with_name (names_now old.o marks renames) (bytes_pair x))
            (λ b. in_turn with_name b (map bytes_pair (drop (i + 1) renames))) (stated_copy_fault f)
            (given_before {U = Unit {0}} after x (Err f) next step t));
      }

      pub renamed_all : length renames ≤ i
          → Finds {T = Unit {0}} (λ _. names_now old.o marks renames)
          (in_turn with_name (names_in old.o) (map bytes_pair renames)) (Ok tt) old now
      renamed_all all = record {
        object = so_far.object;
        told = so_far.told;
        unread = tt;
        found = λ t.
            so_far.left t
            ∙ left_none bytes_pair with_name (names_now old.o marks renames) renames i all;
      }

-- ---- The marks that are given

pub marks_given : {S : Type 0} (renames : List NameBytes) (old new : State S) (marks : List ℕ)
    (answer : Result (List (Option (List ℕ))) StatedFault)
    → Finds {T = Unit {0}} (λ _. names_now old.o marks renames) answer (Ok tt) old new
    → Finds {T = List ℕ} (λ l. names_now old.o l renames) answer (Ok marks) old new
marks_given renames old new marks answer is =
    record { object = is.object; told = is.told; unread = tt; found = is.found }

pub marks_end : {S : Type 0} (renames : List NameBytes) (old new : State S) (marks : List ℕ)
    (answer : Result (List (Option (List ℕ))) StatedFault) (f : CopyFault)
    → Finds {T = Unit {0}} (λ _. names_now old.o marks renames) answer (Err f) old new
    → Finds {T = List ℕ} (λ l. names_now old.o l renames) answer (Err f) old new
marks_end renames old new marks answer f is = record {
  object = is.object;
  told = is.told;
  unread = unread_on (Unit {0}) (List ℕ) f is.unread;
  found = is.found;
}

pub marks_wanted : {S : Type 0} (renames : List NameBytes) (s : State S)
    (answer : Result (List (Option (List ℕ))) StatedFault) (e : ElfError) → e ≡ Memory
    → Finds {T = List ℕ} (λ l. names_now s.o l renames) answer (Err (faults.Strip e)) s s
marks_wanted renames s answer e is = record {
  object = refl;
  told = refl;
  unread = memory_fault_unread (List ℕ) e is;
  found = λ t. memory_given e is answer;
}

-- ---- A mark that is set

pub set_long : (marks after : List ℕ) (s mark : ℕ) → after ≡ slice_set marks s mark
    → length after ≡ length marks
set_long marks after s mark is = ap length is ∙ length-set marks s mark
