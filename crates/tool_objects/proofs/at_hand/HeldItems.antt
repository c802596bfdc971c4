-- Items at hand: what the bytes of sections hold is what the object states.
use Rattle.std.proofs.Common.{◌≡◌, ◌⊎◌, inl, inr, ℕ, ◌<◌, ◌≤◌, Bool, true, false, List, length, get_or, Option, Some, None, Result, Ok, Err, refl, sym, ap, ◌∙◌}
use Rattle.std.specs.Prelude.{slice_get, is_some, if◌then◌else◌}
use Rattle.std.proofs.lemmas.Option.{slice_get_cases}
use Rattle.elf_types.specs.declared.records.Class.{Class}
use Rattle.elf_types.specs.declared.records.Order.{Order}
use Rattle.elf_types.specs.declared.records.Kind.{Kind}
use Rattle.elf_types.specs.declared.errors.ElfError.{ElfError}
use Rattle.elf_types.specs.declared.errors.ElfError.TheVariants.{NoEntry, OutOfFile, Ragged}
use Rattle.elf_types.specs.Answers.{err_of}
use Rattle.gelf_view.specs.elf_xlate.declared.content.Items.{Items}
use Rattle.gelf_view.specs.elf_xlate.Translation.{decoded, items_kind, is_whole}
use Rattle.gelf_view.proofs.elf_xlate.Decoded.{whole_is}
use Rattle.gelf_view.specs.elf_object.Object.{Object, section_at, piece_at}
use Rattle.gelf_view.specs.elf_object.Answers as answers
use Rattle.gelf_view.specs.elf_object.Answers.{content, no_content, kind_at, items_at, lend_refusal, entry_at}
use Rattle.gelf_view.proofs.elf_object.AnswerLaws.{lend_passed}
use Rattle.gelf_view.specs.elf_descriptor.State.{State}
use Rattle.gelf_view.specs.elf_descriptor.Held.{AreHeldBytes}
use Rattle.gelf_view.specs.section_data.Held.{or_empty, items_of_bytes}
use Rattle.tool_objects.specs.declared.at_hand.items.ItemBytes.{ItemBytes}
use Rattle.tool_objects.specs.AtHand.Items.{HoldsItems, AreSectionItems}

-- ---- The items of a clean piece

module _ (o : Object) (s : ℕ) where
  abbrev content_by : Bool → Option Items → Result Items ElfError
  content_by out made =
      if out then Err (OutOfFile s) else (elim made [ None ↦ Err (Ragged s) | Some items ↦ Ok items ])

  there : (out : Bool) (made : Option Items) → err_of (content_by out made) ≡ None
      → (answers.or_empty (content_by out made) ≡ or_empty made) × (is_some made ≡ true)
  there true made h = cc
  there false None h = cc
  there false (Some items) h = (refl, refl)

  module _ (kind : Kind) (passed : lend_refusal o kind s 0 ≡ None) (clean : (piece_at o s 0).own ≡ None) where
    abbrev made_by : Kind → Option Items
    made_by k = decoded k o.header.class o.header.order (section_at o s).raw

    home_kind : (section_at o s).home.kind ≡ kind
    unfolding kind_at
    home_kind =
        sym (ap (λ (own : Option Items). elim own [ None ↦ (section_at o s).home.kind | Some items ↦ items_kind items ]) clean)
        ∙ (lend_passed o kind s 0 passed).2

    content_there : err_of (content_by (section_at o s).home.out (made_by (section_at o s).home.kind)) ≡ None
    unfolding no_content content
    content_there =
        sym (ap (λ (own : Option Items). elim own [ None ↦ err_of (content o s) | Some items ↦ None ]) clean)
        ∙ (lend_passed o kind s 0 passed).3

    pub clean_items : items_at o s 0 ≡ items_of_bytes kind o.header.class o.header.order (section_at o s).raw
    unfolding items_at content
    clean_items =
        ap (λ (own : Option Items). elim own [ None ↦ answers.or_empty (content o s) | Some items ↦ items ]) clean
        ∙ (there (section_at o s).home.out (made_by (section_at o s).home.kind) content_there).0
        ∙ ap (λ (k : Kind). or_empty (made_by k)) home_kind

    pub raw_whole : is_whole kind o.header.class (length (section_at o s).raw) ≡ true
    raw_whole =
        sym (whole_is kind o.header.class o.header.order (section_at o s).raw)
        ∙ ap (λ (k : Kind). is_some (made_by k)) (sym home_kind)
        ∙ (there (section_at o s).home.out (made_by (section_at o s).home.kind) content_there).1

pub held_bytes_hold_items : {A S : Type 0} (kind : Kind) (list_of : Items → List A) (state : State S) (s : ℕ) (bytes : List ℕ)
    → lend_refusal state.o kind s 0 ≡ None → AreHeldBytes state s 0 bytes → HoldsItems kind list_of state s bytes
held_bytes_hold_items {A} {S} kind list_of state s bytes passed held = record {
  whole = ap (is_whole kind state.o.header.class) held.alike ∙ raw_whole state.o s kind passed held.clean;
  lent = passed;
  items = λ told.
      ap list_of (clean_items state.o s kind passed held.clean)
      ∙ ap (λ (b : List ℕ). list_of (items_of_bytes kind state.o.header.class state.o.header.order b)) (sym (held.exact told));
}

-- with the class and the byte order of the object
pub are_items : {A S : Type 0} (kind : Kind) (list_of : Items → List A) (state : State S) (s : ℕ) (b : ItemBytes)
    → b.class ≡ state.o.header.class → b.order ≡ state.o.header.order
    → HoldsItems kind list_of state s b.bytes.now → AreSectionItems kind list_of state s b
are_items {A} {S} kind list_of state s b class order holds = record {
  whole = ap (λ (c : Class). is_whole kind c (length b.bytes.now)) class ∙ holds.whole;
  items = λ told.
      holds.items told
      ∙ ap (λ (c : Class). list_of (items_of_bytes kind c state.o.header.order b.bytes.now)) (sym class)
      ∙ ap (λ (r : Order). list_of (items_of_bytes kind b.class r b.bytes.now)) (sym order);
}

-- ---- An entry that is not there

none_there : {A : Type 0} (g : Option A) (i n : ℕ) (e : ElfError) → ◌≡◌ {A = Result A ElfError} (elim g [ None ↦ Err (NoEntry i n) | Some x ↦ Ok x ]) (Err e) → g ≡ None
none_there None i n e h = refl
none_there (Some x) i n e h = cc

pub no_entry_at : {A : Type 0} (l : List A) (i : ℕ) (e : ElfError) → entry_at l i ≡ Err e → slice_get l i ≡ None
no_entry_at l i e h = none_there (slice_get l i) i (length l) e h

-- an item that is not there is past the end
pub all_before : {A : Type 0} (l : List A) (i : ℕ) → slice_get l i ≡ None → length l ≤ i
all_before {A} l i none = by_case (slice_get_cases l i).1
  where
    by_case : ((x : A) × (i < length l) × (slice_get l i ≡ Some x) × (get_or l i x ≡ x)) ⊎ ((length l ≤ i) × (slice_get l i ≡ None)) → length l ≤ i
    by_case (inl there) = let some = there.2 in cc
    by_case (inr past) = past.0
