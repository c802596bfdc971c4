-- Items that are read from whole bytes.
use Rattle.std.proofs.Common.{◌≡◌, ◌%◌, ◌/◌, ◌==◌, ℕ, Bool, true, false, List, length, Option, Some, None, Result, Ok, Err, if◌then◌else◌, refl, sym, ap, ◌∙◌, subst}
use Rattle.std.specs.Prelude.{IfOk, IfErr}
use Rattle.std.specs.Option.{option_map}
use Rattle.elf_types.specs.Answers.{or_refused, FollowsBy}
use Rattle.elf_types.specs.declared.records.Class.{Class}
use Rattle.elf_types.specs.declared.records.Order.{Order}
use Rattle.elf_types.specs.declared.records.Kind.{Kind}
use Rattle.elf_types.specs.declared.records.Kind.TheVariants as kinds
use Rattle.elf_types.specs.declared.records.Shdr.{Shdr}
use Rattle.elf_types.specs.declared.errors.ElfError.{ElfError}
use Rattle.elf_xlate.specs.declared.content.Items.{Items}
use Rattle.elf_xlate.specs.declared.content.Items.TheVariants as items
use Rattle.elf_xlate.specs.declared.failure.XlateError.{XlateError}
use Rattle.elf_xlate.specs.declared.failure.XlateError.TheVariants as failures
use Rattle.elf_xlate.specs.Items.{item_size, half_of, word_of, addr_of, sym_of, rel_of, rela_of, dyn_of}
use Rattle.elf_xlate.specs.Translation.{decoded, listed, items_of, is_whole, first_unfit, xlate_refusal, to_memory_answer}
use Rattle.elf_object.specs.Object.{occupies_file}
use Rattle.rebuild_plan.specs.rebuild_image.declared.ranges.ranges.ByteRange.{ByteRange}
use Rattle.rebuild_plan.specs.rebuild_image.Ranges.Ranges.{range_bytes}
use Rattle.rebuild_plan.specs.rebuild_keep.Homes.{decoded_items}
use Rattle.rebuild_plan.specs.rebuild_keep.Makes.{FitsAs}
use Rattle.rebuild_plan.proofs.rebuild_keep.DecodeLaws.{decodes_value}
use Rattle.elf_types.specs.declared.errors.ElfError.TheVariants.{Memory}
use Rattle.elf_outside.specs.Asks.{ReadRose}
use Rattle.elf_outside.specs.declared.sources.Source.{Ghosts}
use Rattle.rebuild_plan.specs.elf_descriptor.State.{State}
use Rattle.rebuild_plan.specs.rebuild_keep.Makes.{AsksFor}
use Rattle.rebuild_plan.proofs.rebuild_keep.AskLaws.{asks_as}
use Rattle.rebuild_plan.specs.rebuild_image.Ranges.Ranges.{range_due}
use Rattle.rebuild_object.specs.Objects.{range_items, due_of}

-- ---- Bytes, and nothing

pub bytes_whole : (class : Class) (order : Order) (bytes : List ℕ)
    → decoded_items kinds.Bytes class order bytes ≡ items.Bytes bytes
unfolding decoded_items decoded
bytes_whole class order bytes = refl

pub bytes_fit : (class : Class) (bytes : List ℕ) → FitsAs class (items.Bytes bytes)
unfolding first_unfit
bytes_fit class bytes = refl

pub nothing_fits : (class : Class) → FitsAs class items.Empty
unfolding first_unfit
nothing_fits class = refl

-- ---- Whole items

ragged : (d : Option Items) (e : XlateError)
    → ◌≡◌ {A = Result Items XlateError} (or_refused d failures.Ragged) (Err e) → d ≡ None
ragged None e is = refl
ragged (Some y) e is = cc

listed_whole : {X : Type 0} (variant : List X → Items) (item : List ℕ → X) (size : ℕ)
    (bytes : List ℕ) → (length bytes % size == 0) ≡ true
    → option_map variant (listed item size bytes) ≡ None → ⊥
unfolding listed
listed_whole variant item size bytes whole none =
    let is : option_map variant (listed item size bytes)
    ≡ Some (variant (items_of item size (length bytes / size) bytes)) =
    ap (λ (b : Bool). option_map variant
    (if b then Some (items_of item size (length bytes / size) bytes) else None)) whole in
    let clash = sym is ∙ none in cc

pub whole_decoded : (kind : Kind) (class : Class) (order : Order) (bytes : List ℕ)
    → is_whole kind class (length bytes) ≡ true → decoded kind class order bytes ≡ None → ⊥
unfolding decoded
whole_decoded kinds.Empty class order bytes whole none = cc
whole_decoded kinds.Bytes class order bytes whole none = cc
whole_decoded kinds.Half class order bytes whole none =
    listed_whole items.Half (half_of class order) (item_size kinds.Half class) bytes whole none
whole_decoded kinds.Word class order bytes whole none =
    listed_whole items.Word (word_of class order) (item_size kinds.Word class) bytes whole none
whole_decoded kinds.Addr class order bytes whole none =
    listed_whole items.Addr (addr_of class order) (item_size kinds.Addr class) bytes whole none
whole_decoded kinds.Sym class order bytes whole none =
    listed_whole items.Sym (sym_of class order) (item_size kinds.Sym class) bytes whole none
whole_decoded kinds.Rel class order bytes whole none =
    listed_whole items.Rel (rel_of class order) (item_size kinds.Rel class) bytes whole none
whole_decoded kinds.Rela class order bytes whole none =
    listed_whole items.Rela (rela_of class order) (item_size kinds.Rela class) bytes whole none
whole_decoded kinds.Dyn class order bytes whole none =
    listed_whole items.Dyn (dyn_of class order) (item_size kinds.Dyn class) bytes whole none

module _ (kind : Kind) (class : Class) (order : Order) (bytes : List ℕ) where
  pub whole_value : (x : Items)
      → ◌≡◌ {A = Result Items XlateError} (to_memory_answer kind class order bytes) (Ok x)
      → first_unfit class x ≡ None → x ≡ decoded_items kind class order bytes
  whole_value x came fits =
      (decodes_value 0 kind class order bytes x came fits).items_are

  pub never_ragged : (e : XlateError) → e ≡ failures.Ragged
      → is_whole kind class (length bytes) ≡ true
      → FollowsBy {X = Items} {Y = Items} (λ x. x) xlate_refusal (Err e)
      (to_memory_answer kind class order bytes) → ⊥
  never_ragged failures.Memory is whole came = cc
  never_ragged failures.Ragged is whole came =
      whole_decoded kind class order bytes whole
      (ragged (decoded kind class order bytes) failures.Ragged came)
  never_ragged (failures.Unfit i) is whole came = cc

-- ---- A section

module _ (class : Class) (order : Order) (held base : List ℕ) (h : Shdr) (range : ByteRange)
    (kind : Kind) where
  pub nothing_over : occupies_file h ≡ false
      → range_items class order held base h range kind ≡ items.Empty
  unfolding range_items
  nothing_over is =
      ap (λ (b : Bool). if b then decoded_items kind class order (range_bytes held base range)
      else items.Empty) is

  pub something_over : occupies_file h ≡ true
      → range_items class order held base h range kind
      ≡ decoded_items kind class order (range_bytes held base range)
  unfolding range_items
  something_over is =
      ap (λ (b : Bool). if b then decoded_items kind class order (range_bytes held base range)
      else items.Empty) is

  pub items_told : (r : Result Items ElfError) (c : Class) (o : Order) (bytes : List ℕ)
      → occupies_file h ≡ true → c ≡ class → o ≡ order → bytes ≡ range_bytes held base range
      → IfOk r (λ x. x ≡ decoded_items kind c o bytes)
      → IfOk r (λ x. x ≡ range_items class order held base h range kind)
  items_told (Ok x) c o bytes there same_class same_order same is =
      is
      ∙ ap (λ (k : Class). decoded_items kind k o bytes) same_class
      ∙ ap (λ (k : Order). decoded_items kind class k bytes) same_order
      ∙ ap (decoded_items kind class order) same
      ∙ sym (something_over there)
  items_told (Err e) c o bytes there same_class same_order same is = tt

pub fits_as : (r : Result Items ElfError) (c class : Class) → c ≡ class → IfOk r (FitsAs c)
    → IfOk r (FitsAs class)
fits_as r c class same is = subst (λ (k : Class). IfOk r (FitsAs k)) same is

-- ---- What is asked for

memory_quiet : {A : Type 0} (r : Result A ElfError) (a b : ℕ) → IfErr r (λ e. e ≡ Memory)
    → ReadRose r a b
memory_quiet (Ok x) a b only = tt
memory_quiet {A} (Err e) a b only =
    subst (λ (d : ElfError). ReadRose {T = A} (Err d) a b) (sym only) tt

pub asks_items : {S T U : Type 0} (g : Ghosts S) (r : Result T ElfError) (q : Result U ElfError)
    (old new : State S) (h : Shdr) (range : ByteRange) → occupies_file h ≡ true
    → IfErr q (λ e. e ≡ Memory) → AsksFor g r old new (range_due range)
    → AsksFor g q old new (due_of h range)
asks_items {S} {T} {U} g r q old new h range there only is =
    subst (λ (n : ℕ). AsksFor g q old new n)
    (sym (ap (λ (b : Bool). if b then range_due range else 0) there))
    (asks_as g r q old new (range_due range)
    (memory_quiet q (g.faults old.source) (g.faults new.source) only) is)
