-- The first pieces of a section: one, and those behind it.
use Rattle.std.proofs.Common.{◌≡◌, ℕ, suc, ◌+◌, ◌<◌, ◌≤◌, Bool, true, false, ◌&&◌, List, [], ◌∷◌, length, take, drop, Option, Some, None, refl, sym, ap, ◌∙◌, subst, zero-add, arith}
use Rattle.std.specs.Prelude.{IfSome}
use Rattle.std.specs.List.{list_all}
use Rattle.std.proofs.lemmas.Bool.{and_from}
use Rattle.std.proofs.lemmas.List.{take-append-drop}
use Rattle.elf_types.specs.declared.records.Class.{Class}
use Rattle.elf_types.specs.declared.records.Kind.{Kind}
use Rattle.elf_types.specs.declared.records.Kind.TheVariants as kinds
use Rattle.elf_types.specs.declared.constants.TheConstants.{MAX_PIECES}
use Rattle.elf_object.specs.elf_xlate.declared.content.Items.{Items}
use Rattle.elf_object.specs.elf_xlate.Translation.{items_kind, items_count, file_size}
use Rattle.elf_object.specs.Object.{Home, Piece}
use Rattle.elf_object.specs.Answers.{same_kind}
use Rattle.elf_object.proofs.RunningEnds.{first_place}
use Rattle.section_data.specs.Views.{CellView, pieces_view}
use Rattle.section_data.specs.declared.used.Used.{Used}
use Rattle.section_data.specs.Kept.{UsedView, used_view, kept_view, IsKept}
use Rattle.section_data.specs.Sizes.{piece_size, piece_end, stacked_end, home_size, data_size}
use Rattle.section_data.specs.Spans.{holds_bytes, AreFirstIn, owns_bytes, OwnsBytes, IsRun}
use Rattle.section_data.proofs.Runs.{own_size, stacked_end_append, stacked_end_none}

-- ---- No piece, and the first one

pub first_none : (c : CellView) (count end : ℕ) → count ≡ 0 → end ≡ 0 → AreFirstIn c count end
first_none c count end none start =
    subst (λ (n : ℕ). AreFirstIn c n end) (sym none)
    (subst (λ (n : ℕ). AreFirstIn c 0 n) (sym start) (record {
      few = omega arith;
      bytes = refl;
      ends = λ class. stacked_end_none class (home_size c) 0;
    }))

module _ (c : CellView) (first : Piece) (others : List Piece) (is : c.pieces ≡ first ∷ others) where
  alone : (class : Class)
      → stacked_end class (home_size c) 0 (take 1 c.pieces) ≡ piece_end class (home_size c) 0 first
  unfolding stacked_end
  alone class = ap (λ (l : List Piece). stacked_end class (home_size c) 0 (take 1 l)) is

  alone_size : (class : Class)
      → piece_end class (home_size c) 0 first ≡ piece_size class (home_size c) first
  unfolding piece_end
  alone_size class =
      ap (λ (n : ℕ). n + piece_size class (home_size c) first) (first_place first.align)
      ∙ zero-add (piece_size class (home_size c) first)

  pub first_is : (len : ℕ) → holds_bytes c.home.kind first ≡ true
      → ((class : Class) → piece_size class (home_size c) first ≡ len) → AreFirstIn c 1 len
  first_is len bytes size = record {
    few = let count = ap (λ (l : List Piece). length l) is in omega (arith, count);
    bytes =
        ap (λ (l : List Piece). list_all (holds_bytes c.home.kind) (take 1 l)) is
        ∙ and_from (holds_bytes c.home.kind first) true bytes refl;
    ends = λ class. alone class ∙ alone_size class ∙ size class;
  }

  -- it has bytes of its own
  pub first_own : (len : ℕ) → OwnsBytes first len → AreFirstIn c 1 len
  first_own len owns =
      first_is len
      (ap (λ (own : Option Items).
      same_kind (elim own [ None ↦ c.home.kind | Some items ↦ items_kind items ]) kinds.Bytes)
      owns.own
      ∙ ap (λ (k : Kind). same_kind k kinds.Bytes) owns.of_bytes)
      (λ class. own_size class (home_size c) first len owns)

  -- it is the clean home piece
  pub first_clean : (len : ℕ) → first.own ≡ None → c.home.kind ≡ kinds.Bytes → len ≡ home_size c
      → AreFirstIn c 1 len
  unfolding piece_size
  first_clean len clean kind size =
      first_is len
      (ap (λ (own : Option Items).
      same_kind (elim own [ None ↦ c.home.kind | Some items ↦ items_kind items ]) kinds.Bytes)
      clean
      ∙ ap (λ (k : Kind). same_kind k kinds.Bytes) kind)
      (λ class.
      ap (λ (own : Option Items). elim own [
        | None ↦ home_size c
        | Some items ↦ file_size (items_kind items) class (items_count items)
      ]) clean
      ∙ sym size)

  -- ---- Those behind it

  one_holds : (kind : Kind) (p : Piece) → owns_bytes p ≡ true → holds_bytes kind p ≡ true
  one_holds kind p owns = by_own p.own owns
    where
      by_own : (own : Option Items)
          → (elim own [ None ↦ false | Some items ↦ same_kind (items_kind items) kinds.Bytes ])
          ≡ true
          → same_kind (elim own [ None ↦ kind | Some items ↦ items_kind items ]) kinds.Bytes ≡ true
      by_own None h = cc
      by_own (Some items) h = h

  next_holds : (kind : Kind) (p : Piece) (l : List Piece)
      → (list_all owns_bytes l ≡ true → list_all (holds_bytes kind) l ≡ true)
      → (b : Bool) → owns_bytes p ≡ b → (b && list_all owns_bytes l) ≡ true
      → (holds_bytes kind p && list_all (holds_bytes kind) l) ≡ true
  next_holds kind p l rest true e owns =
      and_from (holds_bytes kind p) (list_all (holds_bytes kind) l) (one_holds kind p e) (rest owns)
  next_holds kind p l rest false e owns = cc

  all_hold : (kind : Kind) (l : List Piece) → list_all owns_bytes l ≡ true
      → list_all (holds_bytes kind) l ≡ true
  all_hold kind [] owns = refl
  all_hold kind (p ∷ l) owns = next_holds kind p l (all_hold kind l) (owns_bytes p) refl owns

  pub first_more : (before count end : ℕ) → AreFirstIn c 1 before → IsRun before others count end
      → AreFirstIn c (count + 1) end
  unfolding stacked_end
  first_more before count end start run =
      let few = run.few in
      let long = ap (λ (l : List Piece). length l) is in
      record {
        few = omega (arith, few, long);
        bytes =
            ap (λ (l : List Piece). list_all (holds_bytes c.home.kind) (take (count + 1) l)) is
            ∙ ap (λ (n : ℕ). list_all (holds_bytes c.home.kind) (take n (first ∷ others)))
            (next count)
            ∙ and_from (holds_bytes c.home.kind first)
            (list_all (holds_bytes c.home.kind) (take count others))
            (first_holds (holds_bytes c.home.kind first)
            (sym (ap (λ (l : List Piece). list_all (holds_bytes c.home.kind) (take 1 l)) is)
            ∙ start.bytes))
            (all_hold c.home.kind (take count others) run.bytes);
        ends = λ class.
            ap (λ (l : List Piece). stacked_end class (home_size c) 0 (take (count + 1) l)) is
            ∙ ap (λ (n : ℕ). stacked_end class (home_size c) 0 (take n (first ∷ others)))
            (next count)
            ∙ ap (λ (n : ℕ). stacked_end class (home_size c) n (take count others))
            (sym (alone class) ∙ start.ends class)
            ∙ run.ends class (home_size c);
      }
    where
      next : (n : ℕ) → n + 1 ≡ suc n
      next n = omega arith

      first_holds : (b : Bool) → (b && true) ≡ true → b ≡ true
      first_holds true h = refl
      first_holds false h = cc

-- ---- What is kept

behind : (len : ℕ) (has_first : Bool) (first : Piece) (slot : Option Used)
    → IsKept len has_first first slot
    → 1 ≤ length (pieces_view has_first first (used_view slot).others)
    → pieces_view has_first first (used_view slot).others ≡ first ∷ (used_view slot).others
behind len true first slot kept few = refl
behind len false first slot kept few =
    let none = ap (λ (l : List Piece). length l) (kept.none refl) in
    absurd (omega (arith, few, none))

pub run_behind : (c : CellView) (section len : ℕ) (home : Home) (empty_read has_first : Bool)
    (first : Piece) (slot : Option Used) → IsKept len has_first first slot
    → kept_view section home empty_read has_first first (used_view slot) ≡ c
    → (before count end : ℕ) → AreFirstIn c 1 before
    → IsRun before (used_view slot).others count end → AreFirstIn c (count + 1) end
run_behind c section len home empty_read has_first first slot kept is before count end start run =
    first_more c first (used_view slot).others
    (sym (ap (λ (v : CellView). v.pieces) is)
    ∙ behind len has_first first slot kept
    (subst (λ (v : CellView). 1 ≤ length v.pieces) (sym is) start.few))
    before count end start run

-- there are not more of them than pieces of a section
pub run_fits : (section len : ℕ) (home : Home) (empty_read has_first : Bool) (first : Piece)
    (slot : Option Used) (c : CellView) → IsKept len has_first first slot
    → kept_view section home empty_read has_first first (used_view slot) ≡ c
    → (before count end : ℕ) → AreFirstIn c 1 before
    → IsRun before (used_view slot).others count end → count < MAX_PIECES
run_fits section len home empty_read has_first first slot c kept is before count end start run =
    let few = kept.few in
    let some = subst (λ (v : CellView). 1 ≤ length v.pieces) (sym is) start.few in
    let long = ap (λ (l : List Piece). length l) (behind len has_first first slot kept some) in
    let within = run.few in
    omega (arith, few, long, within)

module _ (c : CellView) (section : ℕ) (home : Home) (empty_read has_first : Bool) (first : Piece)
    (used : UsedView) (there : has_first ≡ true)
    (is : kept_view section home empty_read has_first first used ≡ c) where
  kept_pieces : c.pieces ≡ first ∷ used.others
  kept_pieces =
      sym (ap (λ (v : CellView). v.pieces) is)
      ∙ ap (λ (b : Bool). pieces_view b first used.others) there

  pub kept_own : (end : Option ℕ) → IfSome end (OwnsBytes first) → IfSome end (AreFirstIn c 1)
  kept_own None owns = tt
  kept_own (Some end) owns = first_own c first used.others kept_pieces end owns

  pub kept_clean : (end : ℕ) → first.own ≡ None → home.kind ≡ kinds.Bytes → end ≡ home_size c
      → AreFirstIn c 1 end
  kept_clean end clean kind size =
      first_clean c first used.others kept_pieces end clean
      (sym (ap (λ (v : CellView). v.home.kind) is) ∙ kind) size

-- ---- The size of the data

pub size_from : (class : Class) (c : CellView) (count end : ℕ) → AreFirstIn c count end
    → data_size class c ≡ stacked_end class (home_size c) end (drop count c.pieces)
unfolding data_size
size_from class c count end first =
    ap (λ (l : List Piece). stacked_end class (home_size c) 0 l)
    (sym (take-append-drop count c.pieces))
    ∙ stacked_end_append class (home_size c) 0 (take count c.pieces) (drop count c.pieces)
    ∙ ap (λ (n : ℕ). stacked_end class (home_size c) n (drop count c.pieces)) (first.ends class)
