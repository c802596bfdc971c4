-- Ranges of items in their file form, one after the other.
use Rattle.std.proofs.Common.{◌≡◌, ℕ, ◌+◌, ◌-◌, ◌≤◌, ◌%◌, List, ◌++◌, length, take, drop, map, refl, sym, ap, ◌∙◌, arith}
use Rattle.std.specs.List.{flat_map}
use Rattle.std.proofs.lemmas.List.{drop-drop, map-append, take_all}
use Rattle.std.proofs.lemmas.Grind.{flat_map-append}
use Rattle.std.proofs.Math.Seq.{take-add}
use Rattle.elf_types.specs.declared.records.Class.{Class}
use Rattle.elf_types.specs.declared.records.Order.{Order}
use Rattle.elf_xlate.specs.declared.content.Items.{Items}
use Rattle.elf_xlate.specs.declared.content.Items.TheVariants.{Empty, Bytes, Half, Word, Addr, Sym, Rel, Rela, Dyn}
use Rattle.elf_xlate.specs.Items.{half_bytes, word_bytes, addr_bytes, sym_bytes, rel_bytes, rela_bytes, dyn_bytes}
use Rattle.elf_xlate.specs.Translation.{encoded, between, items_between, items_count}

-- two ranges of a list, one after the other, are one
pub joined : {X : Type 0} (a b c : ℕ) (l : List X) → a ≤ b → b ≤ c → between a b l ++ between b c l ≡ between a c l
joined {X} a b c l low high =
    let place : a + (b - a) ≡ b = omega arith in
    let count : b - a + (c - b) ≡ c - a = omega arith in
    ap (λ (m : List X). take (b - a) (drop a l) ++ take (c - b) m) (ap (λ (k : ℕ). drop k l) (sym place) ∙ sym (drop-drop (b - a) a l))
    ∙ sym (take-add (b - a) (c - b) (drop a l))
    ∙ ap (λ (n : ℕ). take n (drop a l)) count

joined_each : {X : Type 0} (bytes_of : X → List ℕ) (a b c : ℕ) (l : List X) → a ≤ b → b ≤ c
    → flat_map bytes_of (between a b l) ++ flat_map bytes_of (between b c l) ≡ flat_map bytes_of (between a c l)
joined_each bytes_of a b c l low high =
    sym (flat_map-append bytes_of (between a b l) (between b c l)) ∙ ap (flat_map bytes_of) (joined a b c l low high)

-- The file forms of two ranges, one after the other, are that of the whole range.
pub encoded_ranges : (class : Class) (order : Order) (a b c : ℕ) (items : Items) → a ≤ b → b ≤ c
    → encoded class order (items_between a b items) ++ encoded class order (items_between b c items) ≡ encoded class order (items_between a c items)
unfolding encoded
encoded_ranges class order a b c Empty low high = refl
encoded_ranges class order a b c (Bytes l) low high =
    sym (map-append (λ n. n % 256) (between a b l) (between b c l)) ∙ ap (map (λ n. n % 256)) (joined a b c l low high)
encoded_ranges class order a b c (Half l) low high = joined_each (half_bytes class order) a b c l low high
encoded_ranges class order a b c (Word l) low high = joined_each (word_bytes class order) a b c l low high
encoded_ranges class order a b c (Addr l) low high = joined_each (addr_bytes class order) a b c l low high
encoded_ranges class order a b c (Sym l) low high = joined_each (sym_bytes class order) a b c l low high
encoded_ranges class order a b c (Rel l) low high = joined_each (rel_bytes class order) a b c l low high
encoded_ranges class order a b c (Rela l) low high = joined_each (rela_bytes class order) a b c l low high
encoded_ranges class order a b c (Dyn l) low high = joined_each (dyn_bytes class order) a b c l low high

all_of : {X : Type 0} (l : List X) → between 0 (length l) l ≡ l
all_of l = take_all (length l - 0) l (omega arith)

-- The range of all items is the items.
pub whole_range : (items : Items) → items_between 0 (items_count items) items ≡ items
whole_range Empty = refl
whole_range (Bytes l) = ap Bytes (all_of l)
whole_range (Half l) = ap Half (all_of l)
whole_range (Word l) = ap Word (all_of l)
whole_range (Addr l) = ap Addr (all_of l)
whole_range (Sym l) = ap Sym (all_of l)
whole_range (Rel l) = ap Rel (all_of l)
whole_range (Rela l) = ap Rela (all_of l)
whole_range (Dyn l) = ap Dyn (all_of l)
