-- Pieces that hold bytes, and where they end: the first of a section, and what a run of them does
-- to the end before it (gABI chapter 4, "Sections"; elf_newdata).
use Rattle.std.specs.Prelude.{◌≡◌, ℕ, ◌+◌, ◌*◌, ◌≤◌, Bool, true, false, List, length, take, drop, slice_index_or, Option, Some, None}
use Rattle.std.specs.List.{list_all}
use Rattle.elf_types.specs.declared.records.Class.{Class}
use Rattle.elf_types.specs.declared.records.Kind.{Kind}
use Rattle.elf_types.specs.declared.records.Kind.TheVariants as kinds
use Rattle.elf_object.specs.elf_xlate.declared.content.Items.{Items}
use Rattle.elf_object.specs.elf_xlate.Translation.{items_kind, items_count}
use Rattle.elf_object.specs.elf_layout.Layout.{rounded_up}
use Rattle.elf_object.specs.Object.{Piece}
use Rattle.elf_object.specs.Answers.{same_kind}
use Rattle.section_data.specs.declared.spans.Span.{Span}
use Rattle.section_data.specs.Views.{CellView}
use Rattle.section_data.specs.Sizes.{stacked_end, home_size}

-- ---- The first pieces of a section

-- a piece holds bytes, in a section whose home has items of a kind
abbrev pub holds_bytes : Kind → Piece → Bool
holds_bytes kind p =
    same_kind (elim (p.own) [ None ↦ kind | Some items ↦ items_kind items ]) kinds.Bytes

-- Each of so many pieces, the first of a section, holds bytes, and the last of them ends there. How
-- long bytes are does not rest on the class.
pub record AreFirstIn (c : CellView) (count end : ℕ) : Type 0 where
  pub few : count ≤ length c.pieces
  pub bytes : list_all (holds_bytes c.home.kind) (take count c.pieces) ≡ true
  pub ends : (class : Class) → stacked_end class (home_size c) 0 (take count c.pieces) ≡ end

-- ---- Pieces with bytes of their own

abbrev pub owns_bytes : Piece → Bool
owns_bytes p =
    elim (p.own) [ None ↦ false | Some items ↦ same_kind (items_kind items) kinds.Bytes ]

-- so many
pub record OwnsBytes (p : Piece) (len : ℕ) : Type 0 where
  pub items : Items
  pub own : p.own ≡ Some items
  pub of_bytes : items_kind items ≡ kinds.Bytes
  pub count : items_count items ≡ len

-- so many of the pieces that come first have bytes of their own, and after an end the last of them
-- ends there
pub record IsRun (before : ℕ) (pieces : List Piece) (count end : ℕ) : Type 0 where
  pub few : count ≤ length pieces
  pub bytes : list_all owns_bytes (take count pieces) ≡ true
  pub ends : (class : Class) (home_len : ℕ)
      → stacked_end class home_len before (take count pieces) ≡ end

-- ---- What they do to the end before them

-- where a run ends that stands after an end
abbrev pub span_end : Span → ℕ → ℕ
span_end s end = rounded_up (end + s.before) s.align + s.len

-- it is what these pieces do
pub record IsSpan (s : Span) (pieces : List Piece) : Type 0 where
  pub bytes : list_all owns_bytes pieces ≡ true
  pub ends : (class : Class) (home_len end : ℕ)
      → stacked_end class home_len end pieces ≡ span_end s end

-- what is noted of a block of so many pieces
pub record IsNoted (size block : ℕ) (s : Span) (pieces : List Piece) : Type 0 where
  pub there : size * block + size ≤ length pieces
  pub span : IsSpan s (take size (drop (size * block) pieces))

-- of some of the blocks
abbrev pub AreNoted : ℕ → List (Option Span) → List Piece → Type 0
AreNoted size spans pieces =
    (i : ℕ) (s : Span) → slice_index_or spans i None ≡ Some s → IsNoted size i s pieces

-- of blocks of three lengths
pub record AreAllNoted (short middle long : List (Option Span)) (pieces : List Piece) : Type 0 where
  pub shorts : AreNoted 16 short pieces
  pub middles : AreNoted 512 middle pieces
  pub longs : AreNoted 16384 long pieces
