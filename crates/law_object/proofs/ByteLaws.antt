-- Each number of an image is a byte: what is encoded is, and what is spread from bytes.
use Rattle.std.proofs.Common.{◌≡◌, ℕ, ◌+◌, ◌-◌, ◌^◌, ◌<◌, Bool, true, false, ◌&&◌, List, [], ◌∷◌, ◌++◌, length, replicate, Option, Some, None, refl, lit<}
use Rattle.std.specs.Prelude.{All, nat_lt, if◌then◌else◌, map, slice_index}
use Rattle.std.specs.List.{range_with_len, list_all}
use Rattle.std.proofs.lemmas.Bool.{ltb-true}
use Rattle.std.proofs.lemmas.List.Elements.{All-nil, All-cons, All-head, All-tail, All-append, All-replicate}
use Rattle.elf_types.specs.declared.records.Class.{Class}
use Rattle.elf_types.specs.declared.records.Class.TheVariants.{C32, C64}
use Rattle.elf_types.specs.declared.records.Order.{Order}
use Rattle.elf_types.specs.declared.records.Order.TheVariants.{Least, Greatest}
use Rattle.elf_types.specs.declared.records.Ehdr.{Ehdr}
use Rattle.elf_types.specs.declared.records.Phdr.{Phdr}
use Rattle.elf_types.specs.declared.records.Shdr.{Shdr}
use Rattle.elf_object.specs.elf_xlate.declared.content.Items.{Items}
use Rattle.elf_object.specs.elf_xlate.Headers.{ehdr_size, ehdr_fields, ehdr_numbers, class_code, order_code, ident, ehdr_bytes, phdr_bytes, shdr_bytes}
use Rattle.elf_object.specs.elf_xlate.Translation.{encoded}
use Rattle.elf_object.proofs.elf_xlate.ByteRanges.{laid_are, phdr_are, shdr_are, each_are, encoded_are}
use Rattle.elf_object.specs.elf_layout.Layout.{rounded_up}
use Rattle.elf_object.specs.Blocks.{Block, block_covers, byte_over, spread, stacked}
use Rattle.elf_object.specs.Object.{Object, Piece, section_at, has_file_bytes, is_dirty}
use Rattle.elf_object.specs.Open.{front_in_image, phdrs_bytes, shdrs_bytes}
use Rattle.elf_object.specs.Joined.{piece_bytes, aligned_pieces, piece_blocks, pieces_end, file_bytes}
use Rattle.elf_object.specs.Derived.{written_header}
use Rattle.elf_object.specs.Layout.{section_numbers, placed}
use Rattle.elf_object.specs.Image.{front_blocks, section_block, part_blocks, kept_base, uncovered_byte, image_length, image}
use Rattle.elf_object.specs.Refusal.{refusal}
use Rattle.elf_types.specs.Lists.{AreBytes}
use Rattle.elf_object.specs.Valid.{IsSection, IsObject}
use Rattle.law_object.proofs.RangeLaws.{each_made}
use Rattle.law_object.proofs.KeepLaws.{at_or, section_at_is}
use Rattle.law_object.proofs.PlacedLaws.{placed_is}

abbrev IsByte : ℕ → Type 0
IsByte n = n < 2 ^ 8

-- ---- What is encoded

each_small : (l : List ℕ) → list_all (λ n. nat_lt n (2 ^ 8)) l ≡ true → AreBytes l
each_small [] h = All-nil IsByte
each_small (x ∷ l) h =
    let both = both_true (nat_lt x (2 ^ 8)) (list_all (λ n. nat_lt n (2 ^ 8)) l) h in
    All-cons IsByte x l (ltb-true x (2 ^ 8) both.0) (each_small l both.1)
  where
    both_true : (a b : Bool) → (a && b) ≡ true → (a ≡ true) × (b ≡ true)
    both_true true b h = (refl, h)
    both_true false b h = cc

abbrev ident_start : Class → Order → List ℕ
ident_start class order = 0x7f ∷ 0x45 ∷ 0x4c ∷ 0x46 ∷ class_code class ∷ order_code order ∷ 1 ∷ 0 ∷ 0 ∷ []

ident_are : (class : Class) (order : Order) (pad : List ℕ) → AreBytes pad → AreBytes (ident class order pad)
unfolding ident
ident_are class order pad are =
    All-append IsByte (ident_start class order) pad (each_small (ident_start class order) (start_small class order)) are
  where
    start_small : (class : Class) (order : Order) → list_all (λ n. nat_lt n (2 ^ 8)) (ident_start class order) ≡ true
    start_small C32 Least = refl
    start_small C32 Greatest = refl
    start_small C64 Least = refl
    start_small C64 Greatest = refl

ehdr_are : (h : Ehdr) (pad : List ℕ) → AreBytes pad → AreBytes (ehdr_bytes h pad)
unfolding ehdr_bytes
ehdr_are h pad are =
    laid_are h.class h.order ehdr_fields (ehdr_numbers h) (ident h.class h.order pad ++ replicate (ehdr_size h.class - 16) 0)
    (All-append IsByte (ident h.class h.order pad) (replicate (ehdr_size h.class - 16) 0) (ident_are h.class h.order pad are) (All-replicate IsByte (ehdr_size h.class - 16) 0 (lit< tt)))

segments_are : (class : Class) (order : Order) (phdrs : List Phdr) → AreBytes (phdrs_bytes class order phdrs)
unfolding phdrs_bytes
segments_are class order phdrs = each_are (phdr_bytes class order) (phdr_are class order) phdrs

table_are : (class : Class) (order : Order) (shdrs : List Shdr) → AreBytes (shdrs_bytes class order shdrs)
unfolding shdrs_bytes
table_are class order shdrs = each_are (shdr_bytes class order) (shdr_are class order) shdrs

-- ---- What is spread

abbrev HasBytes : Block → Type 0
HasBytes b = AreBytes b.bytes

byte_at : (l : List ℕ) (i : ℕ) → AreBytes l → slice_index l i < 2 ^ 8
byte_at l i are = at_or IsByte l i 0 are (lit< tt)

byte_over_is : (otherwise : ℕ → ℕ) (blocks : List Block) (k : ℕ) → ((i : ℕ) → otherwise i < 2 ^ 8) → All HasBytes blocks → byte_over otherwise blocks k < 2 ^ 8
unfolding byte_over
byte_over_is otherwise [] k other each = other k
byte_over_is otherwise (b ∷ bs) k other each =
    by_test (block_covers b k) (byte_at b.bytes (k - b.at) (All-head HasBytes b bs each)) (byte_over_is otherwise bs k other (All-tail HasBytes b bs each))
  where
    by_test : (t : Bool) {m n : ℕ} → m < 2 ^ 8 → n < 2 ^ 8 → (if t then m else n) < 2 ^ 8
    by_test true x y = x
    by_test false x y = y

spread_are : (n : ℕ) (otherwise : ℕ → ℕ) (blocks : List Block) → ((i : ℕ) → otherwise i < 2 ^ 8) → All HasBytes blocks → AreBytes (spread n otherwise blocks)
unfolding spread
spread_are n otherwise blocks other each =
    each_made IsByte (byte_over otherwise blocks) (range_with_len 0 n) (λ k. byte_over_is otherwise blocks k other each)

-- ---- The bytes of a section

piece_are : (class : Class) (order : Order) (raw : List ℕ) (p : Piece) → AreBytes raw → AreBytes (piece_bytes class order raw p)
unfolding piece_bytes
piece_are class order raw p are = by_own p.own
  where
    by_own : (own : Option Items) → AreBytes (elim own [ None ↦ raw | Some items ↦ encoded class order items ])
    by_own None = are
    by_own (Some items) = encoded_are class order items

stacked_are : (class : Class) (order : Order) (raw : List ℕ) (end : ℕ) (l : List Piece) → AreBytes raw → All HasBytes (stacked end (map (λ p. (p.align, piece_bytes class order raw p)) l))
unfolding stacked
stacked_are class order raw end [] are = All-nil HasBytes
stacked_are class order raw end (p ∷ l) are =
    let bytes = piece_bytes class order raw p in
    All-cons HasBytes (record { at = rounded_up end p.align; bytes = bytes }) (stacked (rounded_up end p.align + length bytes) (map (λ q. (q.align, piece_bytes class order raw q)) l))
    (piece_are class order raw p are)
    (stacked_are class order raw (rounded_up end p.align + length bytes) l are)

joined_are : (o : Object) (s : ℕ) → IsObject o → AreBytes (file_bytes o s)
unfolding file_bytes piece_blocks aligned_pieces
joined_are o s ok = by_test (has_file_bytes s (section_at o s))
  where
    is : IsSection o.header.class (section_at o s)
    is = section_at_is o s ok

    by_test : (b : Bool) → AreBytes (if b then spread (pieces_end o s) (λ _. o.fill) (stacked 0 (map (λ p. (p.align, piece_bytes o.header.class o.header.order (section_at o s).raw p)) (section_at o s).pieces)) else [])
    by_test true = spread_are (pieces_end o s) (λ _. o.fill) (stacked 0 (map (λ p. (p.align, piece_bytes o.header.class o.header.order (section_at o s).raw p)) (section_at o s).pieces)) (λ _. ok.fill)
        (stacked_are o.header.class o.header.order (section_at o s).raw 0 (section_at o s).pieces is.home.bytes)
    by_test false = All-nil IsByte

-- ---- The image

front_are : (q : Object) → IsObject q → HasBytes (front_blocks q).header × HasBytes (front_blocks q).segments × HasBytes (front_blocks q).table
unfolding front_blocks front_in_image
front_are q ok =
    (ehdr_are (written_header q.header) q.pad ok.pad_bytes, segments_are (written_header q.header).class (written_header q.header).order q.phdrs, table_are (written_header q.header).class (written_header q.header).order (map (λ s. s.header) q.sections))

parts_are : (q : Object) → IsObject q → All HasBytes (part_blocks q)
unfolding part_blocks section_block
parts_are q ok =
    let front = front_are q ok in
    let sections = each_made HasBytes (section_block q) (section_numbers q) (λ s. joined_are q s ok) in
    let last = All-cons HasBytes (front_blocks q).table [] front.2 (All-nil HasBytes) in
    All-cons HasBytes (front_blocks q).header ((front_blocks q).segments ∷ map (section_block q) (section_numbers q) ++ (front_blocks q).table ∷ []) front.0
    (All-cons HasBytes (front_blocks q).segments (map (section_block q) (section_numbers q) ++ (front_blocks q).table ∷ []) front.1
    (All-append HasBytes (map (section_block q) (section_numbers q)) ((front_blocks q).table ∷ []) sections last))

uncovered_is : (o : Object) (k : ℕ) → IsObject o → uncovered_byte o k < 2 ^ 8
unfolding uncovered_byte
uncovered_is o k ok = by_test (nat_lt k (kept_base o))
  where
    by_test : (b : Bool) → (if b then slice_index o.base k else o.fill) < 2 ^ 8
    by_test true = byte_at o.base k ok.base
    by_test false = ok.fill

-- the image of an object, where an update is not refused
pub image_are : (o : Object) → IsObject o → refusal o ≡ None → AreBytes (image o)
unfolding image
image_are o ok passed = by_test (is_dirty o)
  where
    by_test : (b : Bool) → AreBytes (if b then spread (image_length o) (uncovered_byte o) (part_blocks (placed o)) else o.base)
    by_test true = spread_are (image_length o) (uncovered_byte o) (part_blocks (placed o)) (λ k. uncovered_is o k ok) (parts_are (placed o) (placed_is o ok passed))
    by_test false = ok.base
