-- Changes one after the other, each on what those before it left.
use Rattle.std.proofs.Common.{◌≡◌, ℕ, ◌+◌, ◌<◌, ◌≤◌, List, ◌∷◌, length, map, drop, get_or, Result, Ok, Err, refl, sym, ap, ◌∙◌}
use Rattle.std.specs.Prelude.{IsTrue}
use Rattle.std.proofs.lemmas.List.{at_drop_more, at_drop_all}
use Rattle.elf_types.specs.Answers.{◌>>=◌}
use Rattle.law_rebuild.specs.elf_object.Object.{Object}
use Rattle.rebuild_making.specs.elf_descriptor.State.{State}
use Rattle.law_rebuild.specs.elf_object.Sections.{in_turn}
use Rattle.rebuild_changes.specs.rebuild_model.Copied.{CopyFault as StatedFault}
use Rattle.rebuild_changes.specs.declared.faults.CopyFault.{CopyFault}
use Rattle.rebuild_changes.specs.Stated.{stated_copy_fault}
use Rattle.rebuild_edits.specs.Edits.Steps.{KeepsIndex, Alters}
use Rattle.rebuild_edits.proofs.edits.StepLaws.{told_on, keeps_same, keeps_both, refused_bind, same_answer_refused}

-- ---- What is left

module _ {A B E X : Type 0} (pair : X → B) (change : A → B → Result A E) (a : A) (xs : List X)
    (i : ℕ) where
  -- the changes from a place on
  abbrev pub left_from : Result A E
  left_from = in_turn change a (map pair (drop i xs))

  pub left_more : (x : X) → i < length xs → x ≡ get_or xs i x
      → left_from
      ≡ (change a (pair x) >>= λ b. in_turn change b (map pair (drop (i + 1) xs)))
  unfolding in_turn
  left_more x below is =
      at_drop_more (λ (l : List X). in_turn change a (map pair l)) xs i x below
      ∙ ap (λ (y : X). in_turn change a (map pair (y ∷ drop (i + 1) xs))) (sym is)

  pub left_none : length xs ≤ i → left_from ≡ Ok a
  unfolding in_turn
  left_none all = at_drop_all (λ (l : List X). in_turn change a (map pair l)) xs i all

-- ---- Objects

-- an object after so many changes
pub record Turned {S B X : Type 0} (pair : X → B) (change : Object → B → Result Object StatedFault)
    (xs : List X) (i : ℕ) (old now : State S) : Type 0 where
  pub told : now.told ≡ old.told
  pub keeps : KeepsIndex old.o now.o
  pub left : IsTrue old.told
      → in_turn change old.o (map pair xs) ≡ in_turn change now.o (map pair (drop i xs))

module _ {S B X : Type 0} (pair : X → B) (change : Object → B → Result Object StatedFault)
    (xs : List X) where
  pub turned_none : (s : State S) → Turned pair change xs 0 s s
  turned_none s = record { told = refl; keeps = keeps_same s.o s.o refl; left = λ t. refl }

  module _ (i : ℕ) (old now : State S) (so_far : Turned pair change xs i old now) where
    pub turned_more : (x : X) (next : State S) → i < length xs → x ≡ get_or xs i x
        → Alters {T = Unit {0}} (change now.o (pair x)) (Ok tt) now next
        → Turned pair change xs (i + 1) old next
    turned_more x next below is step = record {
      told = step.told ∙ so_far.told;
      keeps = keeps_both old.o now.o next.o so_far.keeps step.keeps;
      left = λ t.
          so_far.left t ∙ left_more pair change now.o xs i x below is
          ∙ ap (λ (r : Result Object StatedFault).
          r >>= λ b. in_turn change b (map pair (drop (i + 1) xs)))
          (step.altered (told_on old now so_far.told t));
    }

    pub turned_stop : (x : X) (f : CopyFault) (next : State S) → i < length xs
        → x ≡ get_or xs i x
        → Alters {T = Unit {0}} (change now.o (pair x)) (Err f) now next
        → Alters {T = Unit {0}} (in_turn change old.o (map pair xs)) (Err f) old next
    turned_stop x f next below is step = record {
      told = step.told ∙ so_far.told;
      keeps = keeps_both old.o now.o next.o so_far.keeps step.keeps;
      unread = step.unread;
      altered = λ t.
          same_answer_refused (in_turn change old.o (map pair xs))
          (change now.o (pair x) >>= λ b. in_turn change b (map pair (drop (i + 1) xs)))
          (stated_copy_fault f) (so_far.left t ∙ left_more pair change now.o xs i x below is)
          (refused_bind (change now.o (pair x))
          (λ b. in_turn change b (map pair (drop (i + 1) xs))) (stated_copy_fault f)
          (step.altered (told_on old now so_far.told t)));
    }

    pub turned_all : length xs ≤ i
        → Alters {T = Unit {0}} (in_turn change old.o (map pair xs)) (Ok tt) old now
    turned_all all = record {
      told = so_far.told;
      keeps = so_far.keeps;
      unread = tt;
      altered = λ t. so_far.left t ∙ left_none pair change now.o xs i all;
    }
