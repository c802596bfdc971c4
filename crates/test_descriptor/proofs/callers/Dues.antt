-- What calls on one section's home are due at most, and what two in a row ask for.
use Rattle.std.proofs.Common.{◌≡◌, ℕ, ◌≤◌, Bool, true, false, List, [], ◌∷◌, refl, arith}
use Rattle.std.specs.Prelude.{IsTrue, is_none, if◌then◌else◌}
use Rattle.elf_types.specs.declared.records.Kind.{Kind}
use Rattle.elf_types.specs.Answers.{err_of}
use Rattle.elf_xlate.specs.declared.content.Items.{Items}
use Rattle.elf_outside.specs.Counts.{RaisedAtMost}
use Rattle.elf_object.specs.Object.{Object, piece_at}
use Rattle.elf_object.specs.Calls as calls
use Rattle.elf_object.specs.Due.{is_loaded, is_refused_unread, home_due, homes_due, when_piece_clean}
use Rattle.elf_descriptor.specs.Entries.{entry}

-- a home that is loaded is due nothing
pub loaded_home_due : (o : Object) (loaded : List Bool) (s : ℕ) → IsTrue (is_loaded loaded s)
    → home_due o loaded s ≡ 0
unfolding home_due
loaded_home_due o loaded s is = rw is refl

module _ (o : Object) (loaded : List Bool) (s : ℕ) where
  one_unless : (refused : Bool)
      → homes_due o loaded (if refused then [] else s ∷ []) ≤ home_due o loaded s
  unfolding homes_due
  one_unless true = omega arith
  one_unless false = omega arith

  one_where : (refused clean : Bool)
      → homes_due o loaded (if refused then [] else (if clean then s ∷ [] else []))
      ≤ home_due o loaded s
  unfolding homes_due
  one_where true clean = omega arith
  one_where false true = omega arith
  one_where false false = omega arith

  pub raw_due : homes_due o loaded ((calls.raw s).reads o) ≤ home_due o loaded s
  raw_due = one_unless (is_refused_unread (err_of (calls.raw_answer o s)))

  pub entry_due : {A : Type 0} (kind : Kind) (list_of : Items → List A) (p i : ℕ)
      → homes_due o loaded ((entry kind list_of s p i).reads o) ≤ home_due o loaded s
  unfolding when_piece_clean
  entry_due kind list_of p i =
      one_where (is_refused_unread (err_of ((entry kind list_of s p i).answer o)))
      (is_none (piece_at o s p).own)

-- no more than at most so many
pub raised_within : (before now n most : ℕ) → n ≤ most → RaisedAtMost before now n
    → RaisedAtMost before now most
raised_within before now n most within raised = record {
  later = raised.later;
  no_more = omega (arith, raised.no_more, within);
}

-- none at all
pub raised_none : (before now n : ℕ) → n ≡ 0 → RaisedAtMost before now n → now ≡ before
raised_none before now n none raised = omega (arith, raised.later, raised.no_more, none)

-- and nothing more after that
pub raised_on : (before now later n : ℕ) → RaisedAtMost before now n → later ≡ now
    → RaisedAtMost before later n
raised_on before now later n raised same = rw same raised
