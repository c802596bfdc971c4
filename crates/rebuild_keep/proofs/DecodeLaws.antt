-- Bytes that are decoded: what they hold, and that their number tells whether they hold items.
use Rattle.std.proofs.Common.{◌≡◌, ◌%◌, ◌/◌, ◌==◌, ℕ, Bool, true, false, List, length, Option, Some, None, Result, Ok, Err, if◌then◌else◌, refl, sym, ap, subst}
use Rattle.std.specs.Prelude.{is_none}
use Rattle.std.specs.Option.{option_map}
use Rattle.elf_types.specs.Answers.{or_refused, refused_if, FollowsBy}
use Rattle.elf_types.specs.declared.records.Class.{Class}
use Rattle.elf_types.specs.declared.records.Order.{Order}
use Rattle.elf_types.specs.declared.records.Kind.{Kind}
use Rattle.elf_types.specs.declared.records.Kind.TheVariants as kinds
use Rattle.elf_types.specs.declared.errors.ElfError.{ElfError}
use Rattle.elf_types.specs.declared.errors.ElfError.TheVariants.{Ragged}
use Rattle.rebuild_names.specs.elf_xlate.declared.content.Items.{Items}
use Rattle.rebuild_names.specs.elf_xlate.declared.content.Items.TheVariants.{Half, Word, Addr, Sym, Rel, Rela, Dyn}
use Rattle.rebuild_names.specs.elf_xlate.declared.failure.XlateError.{XlateError}
use Rattle.rebuild_names.specs.elf_xlate.declared.failure.XlateError.TheVariants as failures
use Rattle.rebuild_names.specs.elf_xlate.Items.{item_size, half_of, word_of, addr_of, sym_of, rel_of, rela_of, dyn_of}
use Rattle.rebuild_names.specs.elf_xlate.Translation.{decoded, listed, items_of, first_unfit, xlate_refusal, to_memory_answer}
use Rattle.rebuild_keep.specs.Homes.{or_empty_items, decoded_items, decoded_refusal, section_refusal, Decodes}

-- ---- What a translation answers

held : (d : Option Items) (x : Items)
    → ◌≡◌ {A = Result Items XlateError} (or_refused d failures.Ragged) (Ok x) → d ≡ Some x
held None x is = cc
held (Some y) x is = let same : y ≡ x = cc in ap (λ (z : Items). Some z) same

ragged : (d : Option Items) (e : XlateError)
    → ◌≡◌ {A = Result Items XlateError} (or_refused d failures.Ragged) (Err e) → d ≡ None
ragged None e is = refl
ragged (Some y) e is = cc

module _ (s : ℕ) (kind : Kind) (class : Class) (order : Order) (bytes : List ℕ) where
  refused_none : decoded kind class order bytes ≡ None
      → decoded_refusal s kind class order bytes ≡ Some (Ragged s)
  unfolding decoded_refusal
  refused_none is = ap (λ (d : Option Items). refused_if (is_none d) (Ragged s)) is

  pub decodes_value : (x : Items)
      → ◌≡◌ {A = Result Items XlateError} (to_memory_answer kind class order bytes) (Ok x)
      → first_unfit class x ≡ None → Decodes s kind class order bytes (Ok x)
  unfolding decoded_items decoded_refusal
  decodes_value x came fits =
      let is = held (decoded kind class order bytes) x came in
      record {
        items_are = sym (ap or_empty_items is);
        fits = fits;
        passed = ap (λ (d : Option Items). refused_if (is_none d) (Ragged s)) is;
        err = tt;
      }

  pub decodes_error : (e : XlateError) (r : ElfError)
      → FollowsBy {X = Items} {Y = Items} (λ x. x) xlate_refusal (Err e)
      (to_memory_answer kind class order bytes)
      → r ≡ section_refusal s e → Decodes s kind class order bytes (Err r)
  decodes_error failures.Memory r came is =
      subst (λ (x : ElfError). Decodes s kind class order bytes (Err x)) (sym is)
      (record { items_are = tt; fits = tt; passed = tt; err = tt })
  decodes_error failures.Ragged r came is =
      subst (λ (x : ElfError). Decodes s kind class order bytes (Err x)) (sym is)
      (record {
        items_are = tt;
        fits = tt;
        passed = tt;
        err = refused_none (ragged (decoded kind class order bytes) failures.Ragged came);
      })
  decodes_error (failures.Unfit i) r came is =
      subst (λ (x : ElfError). Decodes s kind class order bytes (Err x)) (sym is)
      (record {
        items_are = tt;
        fits = tt;
        passed = tt;
        err = refused_none (ragged (decoded kind class order bytes) (failures.Unfit i) came);
      })

-- ---- As many bytes

listed_alike : {X : Type 0} (variant : List X → Items) (item : List ℕ → X) (size : ℕ)
    (a b : List ℕ) → length a ≡ length b
    → is_none (option_map variant (listed item size a))
    ≡ is_none (option_map variant (listed item size b))
unfolding listed
listed_alike variant item size a b same =
    by_tests (length a % size == 0) (length b % size == 0) (ap (λ (n : ℕ). n % size == 0) same)
  where
    by_tests : (p q : Bool) → p ≡ q
        → is_none (option_map variant
        (if p then Some (items_of item size (length a / size) a) else None))
        ≡ is_none (option_map variant
        (if q then Some (items_of item size (length b / size) b) else None))
    by_tests true true is = refl
    by_tests true false is = cc
    by_tests false true is = cc
    by_tests false false is = refl

pub decoded_alike : (kind : Kind) (class : Class) (order : Order) (a b : List ℕ)
    → length a ≡ length b
    → is_none (decoded kind class order a) ≡ is_none (decoded kind class order b)
unfolding decoded
decoded_alike kinds.Empty class order a b same = refl
decoded_alike kinds.Bytes class order a b same = refl
decoded_alike kinds.Half class order a b same =
    listed_alike Half (half_of class order) (item_size kinds.Half class) a b same
decoded_alike kinds.Word class order a b same =
    listed_alike Word (word_of class order) (item_size kinds.Word class) a b same
decoded_alike kinds.Addr class order a b same =
    listed_alike Addr (addr_of class order) (item_size kinds.Addr class) a b same
decoded_alike kinds.Sym class order a b same =
    listed_alike Sym (sym_of class order) (item_size kinds.Sym class) a b same
decoded_alike kinds.Rel class order a b same =
    listed_alike Rel (rel_of class order) (item_size kinds.Rel class) a b same
decoded_alike kinds.Rela class order a b same =
    listed_alike Rela (rela_of class order) (item_size kinds.Rela class) a b same
decoded_alike kinds.Dyn class order a b same =
    listed_alike Dyn (dyn_of class order) (item_size kinds.Dyn class) a b same

pub refusal_alike : (s : ℕ) (kind : Kind) (class : Class) (order : Order) (a b : List ℕ)
    → length a ≡ length b
    → decoded_refusal s kind class order a ≡ decoded_refusal s kind class order b
unfolding decoded_refusal
refusal_alike s kind class order a b same =
    ap (λ (none : Bool). refused_if none (Ragged s)) (decoded_alike kind class order a b same)
