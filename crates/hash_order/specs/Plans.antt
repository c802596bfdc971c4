-- What each section gets when a symbol table is put in another order. It is worked out before the
-- first change.
use Rattle.std.specs.Prelude.{◌≡◌, ℕ, zero, suc, ◌+◌, ◌-◌, ◌<◌, ◌==◌, ◌&&◌, not, nat_lt, Bool, IsTrue, List, length, slice_index_or, if◌then◌else◌, [], ◌∷◌, ◌++◌, Some, None}
use Rattle.elf_types.specs.declared.constants.TheConstants.{SHT_GROUP}
use Rattle.elf_types.specs.declared.records.Kind.{Kind}
use Rattle.elf_types.specs.declared.records.Shdr.{Shdr}
use Rattle.elf_types.specs.declared.records.Sym.{Sym}
use Rattle.elf_xlate.specs.declared.content.Items.{Items}
use Rattle.elf_xlate.specs.declared.content.Items.TheVariants as items
use Rattle.elf_xlate.specs.Translation.{items_kind}
use Rattle.symbol_lookup.specs.elf_object.Words.{AlikeItems}
use Rattle.symbol_lookup.specs.elf_object.Object.{Object, piece_at}
use Rattle.symbol_lookup.specs.elf_object.Answers.{items_at, lend_refusal}
use Rattle.symbol_lookup.specs.elf_object.Steps.{with_own, with_shdr}
use Rattle.symbol_lookup.specs.elf_object.Calls.{update_shdr_refusal}
use Rattle.symbol_lookup.specs.elf_object.Due.{is_loaded, holds_items}
use Rattle.symbol_lookup.specs.elf_descriptor.State.{State}
use Rattle.symbol_lookup.specs.elf_object.Sections.{header_at}
use Rattle.symbol_lookup.specs.hash_model.Reordered.{kind_by_symbols, items_by_symbols, new_index, reordered}
use Rattle.hash_order.specs.declared.nexts.Next.{Next}
use Rattle.hash_order.specs.declared.nexts.Next.TheVariants as nexts
use Rattle.hash_order.specs.Kinds.{IsByIndex}

-- ---- What a section gets

-- its header with another signature
abbrev pub signed : Object → ℕ → ℕ → Shdr
signed o n info = record (header_at o n) { info = info }

-- the signature of a group, which is a symbol
abbrev pub planned_signature : List ℕ → ℕ → Next
planned_signature order info =
    if nat_lt info (length order) then nexts.Signature (new_index order info) else nexts.Stay

unfoldable pub planned_next : Object → ℕ → List ℕ → ℕ → Next
planned_next o s order n =
    if not ((header_at o n).link == s) then nexts.Stay
    else (if (header_at o n).stype == SHT_GROUP && not (n == 0)
    then planned_signature order (header_at o n).info
    else (elim (kind_by_symbols (header_at o n).stype) [
      | None ↦ nexts.Stay
      | Some kind ↦ nexts.Items (items_by_symbols order (items_at o n 0))
    ]))

-- items, over a source that may not tell its bytes: of the stated kind, as many, and the stated
-- ones where it tells them
abbrev pub AreStatedItems : Bool → Items → Items → Type 0
AreStatedItems told l stated = AlikeItems l stated × (IsTrue told → l ≡ stated)

abbrev pub IsStatedNext : Bool → Next → Next → Type 0
IsStatedNext told nexts.Stay nexts.Stay = Unit {0}
IsStatedNext told (nexts.Items l) (nexts.Items stated) = AreStatedItems told l stated
IsStatedNext told (nexts.Signature info) (nexts.Signature stated) = info ≡ stated
IsStatedNext told _ _ = ⊥

-- ---- The plan: what each section gets, the last one first

abbrev pub given_by : List Next → ℕ → ℕ → Next
given_by plan count n = slice_index_or plan (count - 1 - n) nexts.Stay

pub record IsPlan (told : Bool) (o : Object) (s : ℕ) (order : List ℕ) (plan : List Next)
    : Type 0 where
  pub long : length plan ≡ length o.sections
  pub each : (n : ℕ) → n < length o.sections
      → IsStatedNext told (given_by plan (length o.sections) n) (planned_next o s order n)

-- ---- The object with what sections get

abbrev pub gets : Object → ℕ → Next → Object
gets o n nexts.Stay = o
gets o n (nexts.Items l) = with_own o n 0 l
gets o n (nexts.Signature info) = with_shdr o n (signed o n info)

-- so many sections from one on, by number
unfoldable pub stored : (ℕ → Next) → ℕ → ℕ → Object → Object
stored given from zero o = o
stored given from (suc count) o = stored given (from + 1) count (gets o from (given from))

-- ---- What can be stored without a read and without memory

-- the first piece of a section, by items of a kind
pub record IsAtHand {S : Type 0} (state : State S) (n : ℕ) (kind : Kind) : Type 0 where
  pub passed : lend_refusal state.o kind n 0 ≡ None
  pub holds : IsTrue (holds_items state.o state.held n 0)
  pub loaded : (piece_at state.o n 0).own ≡ None → IsTrue (is_loaded state.loaded n)

abbrev pub IsReadyNext : {S : Type 0} → State S → ℕ → Next → Type 0
IsReadyNext state n nexts.Stay = Unit {0}
IsReadyNext state n (nexts.Items l) = IsByIndex (items_kind l) × IsAtHand state n (items_kind l)
IsReadyNext state n (nexts.Signature info) =
    update_shdr_refusal state.o n (signed state.o n info) ≡ None

abbrev pub AreReady : {S : Type 0} → State S → List Next → Type 0
AreReady state plan = (n : ℕ) → n < length state.o.sections
    → IsReadyNext state n (given_by plan (length state.o.sections) n)

-- what section n gets is appended to what is planned, and can be stored
pub record AppendsNext {S : Type 0} (old new : State S) (s : ℕ) (order : List ℕ) (n : ℕ)
    (before after : List Next) : Type 0 where
  pub next : Next
  pub items : after ≡ before ++ next ∷ []
  pub is : IsStatedNext old.told next (planned_next old.o s order n)
  pub ready : IsReadyNext new n next

-- no items: so it is of the symbol table itself
abbrev pub IsNoItems : Next → Type 0
IsNoItems (nexts.Items l) = ⊥
IsNoItems _ = Unit {0}

-- ---- The object in the end

-- Over every source the symbols are as many as before, and each section gets items of the stated
-- kind, and as many, or the stated signature. Where the source tells its bytes, it is the stated
-- object.
pub record BecomesOrdered (told : Bool) (old new : Object) (s : ℕ) (order : List ℕ)
    : Type 0 where
  pub symbols : List Sym
  pub count : length symbols ≡ length order
  pub given : ℕ → Next
  pub each : (n : ℕ) → n < length old.sections → IsStatedNext told (given n)
      (planned_next old s order n)
  pub object : new
      ≡ stored given 0 (length old.sections) (with_own old s 0 (items.Sym symbols))
  pub exact : IsTrue told → new ≡ reordered old s order
