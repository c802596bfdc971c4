-- The names of sections are bytes.
use Rattle.std.proofs.Common.{◌<◌, ◌-◌, ◌+◌, ◌==◌, ◌^◌, ℕ, Bool, true, false, not, List, [], ◌∷◌, length, map, drop, Option, None, Some, if◌then◌else◌, arith}
use Rattle.std.specs.Prelude.{All, filter, slice_get}
use Rattle.std.specs.List.{prefix_len}
use Rattle.std.proofs.lemmas.List.Elements.{All-cons, All-drop, All-filter, All-nil, All-take}
use Rattle.elf_types.specs.Answers.{answered}
use Rattle.elf_types.specs.Lists.{AreBytes}
use Rattle.elf_types.specs.declared.records.Class.{Class}
use Rattle.elf_types.specs.declared.records.Order.{Order}
use Rattle.elf_types.specs.declared.errors.ElfError.{ElfError}
use Rattle.elf_xlate.specs.declared.content.Items.{Items}
use Rattle.elf_xlate.specs.Translation.{encoded}
use Rattle.elf_xlate.proofs.ByteRanges.{encoded_are}
use Rattle.elf_object.specs.elf_layout.Layout.{rounded_up}
use Rattle.elf_object.specs.Blocks.{Block, block_covers, stacked}
use Rattle.elf_object.specs.Joined.{aligned_pieces, piece_blocks, piece_bytes}
use Rattle.elf_object.specs.Object.{Object, Piece, section_at}
use Rattle.elf_object.specs.Strings.{or_empty_name, piece_over, readable, section_name, string_answer, string_in, string_refusal}
use Rattle.elf_object.specs.strtab_build.Table.{string_at}
use Rattle.elf_object.specs.Valid.{IsObject}
use Rattle.law_rebuild.proofs.law_object.KeepLaws.{section_at_is}

-- ---- The blocks of a section

abbrev HasBytes : Block → Type 0
HasBytes b = AreBytes b.bytes

piece_ranged : (class : Class) (order : Order) (raw : List ℕ) (p : Piece) → AreBytes raw
    → AreBytes (piece_bytes class order raw p)
unfolding piece_bytes
piece_ranged class order raw p are = by_own p.own
  where
    by_own : (own : Option Items)
        → AreBytes (elim own [ None ↦ raw | Some items ↦ encoded class order items ])
    by_own None = are
    by_own (Some items) = encoded_are class order items

stacked_ranged : (class : Class) (order : Order) (raw : List ℕ) (end : ℕ) (l : List Piece)
    → AreBytes raw
    → All HasBytes (stacked end (map (λ p. (p.align, piece_bytes class order raw p)) l))
unfolding stacked
stacked_ranged class order raw end [] are = All-nil HasBytes
stacked_ranged class order raw end (p ∷ l) are =
    let bytes = piece_bytes class order raw p in
    All-cons HasBytes (record { at = rounded_up end p.align; bytes = bytes })
    (stacked (rounded_up end p.align + length bytes)
    (map (λ q. (q.align, piece_bytes class order raw q)) l))
    (piece_ranged class order raw p are)
    (stacked_ranged class order raw (rounded_up end p.align + length bytes) l are)

blocks_ranged : (o : Object) (s : ℕ) → IsObject o → All HasBytes (piece_blocks o s)
unfolding piece_blocks aligned_pieces
blocks_ranged o s is =
    stacked_ranged o.header.class o.header.order (section_at o s).raw 0 (section_at o s).pieces
    (section_at_is o s is).home.bytes

-- ---- Strings

string_ranged : (bytes : List ℕ) (offset : ℕ) → AreBytes bytes
    → AreBytes (string_at bytes offset)
unfolding string_at
string_ranged bytes offset are =
    All-take (λ n. n < 2 ^ 8) (prefix_len (λ b. not (b == 0)) (drop offset bytes))
    (drop offset bytes) (All-drop (λ n. n < 2 ^ 8) offset bytes are)

over_ranged : (offset : ℕ) (l : List Block) → All HasBytes l
    → AreBytes (elim (slice_get l 0) [
      | None ↦ []
      | Some b ↦ string_at b.bytes (offset - b.at)
    ])
over_ranged offset [] each = All-nil (λ n. n < 2 ^ 8)
over_ranged offset (b ∷ l) each =
    string_ranged b.bytes (offset - b.at) (each 0 b (omega arith))

in_ranged : (o : Object) (t offset : ℕ) → IsObject o → AreBytes (string_in o t offset)
unfolding piece_over
in_ranged o t offset is =
    over_ranged offset (filter (λ b. block_covers b offset) (piece_blocks o t))
    (All-filter (λ b. block_covers b offset) HasBytes (piece_blocks o t) (blocks_ranged o t is))

-- a name that can be read, or the empty one
pub name_is_bytes : (o : Object) (s : ℕ) → IsObject o
    → AreBytes (or_empty_name (section_name o s))
unfolding section_name string_answer
name_is_bytes o s is = by_index (o.header.shstrndx == 0)
  where
    by_refusal : (refusal : Option ElfError) (offset : ℕ) → AreBytes (or_empty_name
        (readable (answered refusal (string_in o o.header.shstrndx offset))))
    by_refusal None offset = in_ranged o o.header.shstrndx offset is
    by_refusal (Some e) offset = All-nil (λ n. n < 2 ^ 8)

    by_index : (b : Bool) → AreBytes (or_empty_name (if b then None
        else readable (string_answer o o.header.shstrndx (section_at o s).header.name)))
    by_index true = All-nil (λ n. n < 2 ^ 8)
    by_index false =
        by_refusal (string_refusal o o.header.shstrndx (section_at o s).header.name)
        (section_at o s).header.name
