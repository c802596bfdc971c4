-- The items of a section of which the bytes are at hand: they were read and not edited.
use Rattle.std.specs.Prelude.{◌≡◌, ◌+◌, ◌<◌, ◌≤◌, ℕ, Bool, List, [], ◌∷◌, length, drop, Option, Some, None, IsTrue, IfSome, if◌then◌else◌}
use Rattle.elf_types.specs.declared.records.Kind.{Kind}
use Rattle.gelf_view.specs.elf_xlate.declared.content.Items.{Items}
use Rattle.gelf_view.specs.elf_xlate.Translation.{is_whole}
use Rattle.gelf_view.specs.elf_object.Answers.{items_at, lend_refusal}
use Rattle.gelf_view.specs.elf_descriptor.State.{State}
use Rattle.gelf_view.specs.section_data.Held.{items_of_bytes}
use Rattle.tool_objects.specs.declared.at_hand.items.ItemBytes.{ItemBytes}
use Rattle.tool_objects.specs.declared.at_hand.items.Span.{Span}

-- ---- The items that bytes hold

-- the bytes are whole items of a kind, and those that a section has where the source tells its
-- bytes
pub record HoldsItems {A S : Type 0} (kind : Kind) (list_of : Items → List A) (state : State S)
    (s : ℕ) (bytes : List ℕ) : Type 0 where
  pub whole : IsTrue (is_whole kind state.o.header.class (length bytes))
  pub lent : lend_refusal state.o kind s 0 ≡ None
  pub items : IsTrue state.told → list_of (items_at state.o s 0)
      ≡ list_of (items_of_bytes kind state.o.header.class state.o.header.order bytes)

-- bytes with the class and the byte order by which they are read are whole items of a kind,
abbrev pub AreWhole : Kind → ItemBytes → Type 0
AreWhole kind b = IsTrue (is_whole kind b.class (length b.bytes.now))

-- and these are the items
abbrev pub held_items : {A : Type 0} → Kind → (Items → List A) → ItemBytes → List A
held_items kind list_of b = list_of (items_of_bytes kind b.class b.order b.bytes.now)

-- they are those that a section has where the source tells its bytes
pub record AreSectionItems {A S : Type 0} (kind : Kind) (list_of : Items → List A) (state : State S)
    (s : ℕ) (b : ItemBytes) : Type 0 where
  pub whole : AreWhole kind b
  pub items : IsTrue state.told
      → list_of (items_at state.o s 0) ≡ held_items kind list_of b

-- ---- Items that pass a test

-- the indexes of those that pass a test by their indexes, where the first has index i
abbrev pub passing : {X : Type 0} → (ℕ → X → Bool) → ℕ → List X → List ℕ
passing test i [] = []
passing test i (x ∷ xs) =
    if test i x then i ∷ passing test (i + 1) xs else passing test (i + 1) xs

-- of those that pass, the ones from an index on
abbrev pub passing_from : {X : Type 0} → (ℕ → X → Bool) → List X → ℕ → List ℕ
passing_from test xs i = passing test i (drop i xs)

-- the next of them from an index on is this one, behind which the others stand, or there is none
abbrev pub IsNextPassing : {X : Type 0} → (ℕ → X → Bool) → List X → ℕ → Option ℕ → Type 0
IsNextPassing test xs from None = passing_from test xs from ≡ []
IsNextPassing test xs from (Some i) = passing_from test xs from ≡ i ∷ passing_from test xs (i + 1)

-- an index is one of a span
abbrev pub IsWithinSpan : Span → ℕ → Type 0
IsWithinSpan s i = (s.from ≤ i) × IfSome s.to (λ to. i < to)
