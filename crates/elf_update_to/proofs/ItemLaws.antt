-- Items in their file form, by ranges.
use Rattle.std.proofs.Common.{◌≡◌, ℕ, ◌+◌, ◌-◌, ◌*◌, ◌≤◌, max, List, ◌++◌, length, take, drop, refl, sym, ap, ◌∙◌, append_assoc, arith, length-take, length-drop}
use Rattle.std.proofs.lemmas.List.{take_at, drop_at}
use Rattle.elf_types.specs.declared.records.Class.{Class}
use Rattle.elf_types.specs.declared.records.Class.TheVariants.{C32, C64}
use Rattle.elf_types.specs.declared.records.Order.{Order}
use Rattle.elf_update_plan.specs.elf_xlate.declared.content.Items.{Items}
use Rattle.elf_update_plan.specs.elf_xlate.declared.content.Items.TheVariants.{Empty, Bytes, Half, Word, Addr, Sym, Rel, Rela, Dyn}
use Rattle.elf_update_plan.specs.elf_xlate.Items.{item_size}
use Rattle.elf_update_plan.specs.elf_xlate.Translation.{encoded, between, items_between, items_kind, items_count}
use Rattle.elf_update_plan.proofs.elf_xlate.Ranges.{encoded_ranges, whole_range}
use Rattle.elf_update_plan.proofs.elf_xlate.Lengths.{length_encoded}

between_length : {X : Type 0} (a b : ℕ) (l : List X) → a ≤ b → b ≤ length l → length (between a b l) ≡ b - a
between_length a b l low high =
    let part = length-take (b - a) (drop a l) in
    let rest = length-drop a l in
    omega (arith, part, rest, low, high)

count_between : (a b : ℕ) (items : Items) → a ≤ b → b ≤ items_count items
    → items_count (items_between a b items) ≡ b - a
count_between a b Empty low high = omega (arith, low, high)
count_between a b (Bytes l) low high = between_length a b l low high
count_between a b (Half l) low high = between_length a b l low high
count_between a b (Word l) low high = between_length a b l low high
count_between a b (Addr l) low high = between_length a b l low high
count_between a b (Sym l) low high = between_length a b l low high
count_between a b (Rel l) low high = between_length a b l low high
count_between a b (Rela l) low high = between_length a b l low high
count_between a b (Dyn l) low high = between_length a b l low high

length_between : (class : Class) (order : Order) (a b : ℕ) (items : Items) → a ≤ b → b ≤ items_count items
    → length (encoded class order (items_between a b items)) ≡ item_size (items_kind items) class * (b - a)
length_between class order a b items low high =
    length_encoded class order (items_between a b items)
    ∙ by_items items
    ∙ ap (λ (n : ℕ). item_size (items_kind items) class * n) (count_between a b items low high)
  where
    by_items : (it : Items) → item_size (items_kind (items_between a b it)) class * items_count (items_between a b it)
        ≡ item_size (items_kind it) class * items_count (items_between a b it)
    by_items Empty = refl
    by_items (Bytes l) = refl
    by_items (Half l) = refl
    by_items (Word l) = refl
    by_items (Addr l) = refl
    by_items (Sym l) = refl
    by_items (Rel l) = refl
    by_items (Rela l) = refl
    by_items (Dyn l) = refl

-- a range of items is a range of their bytes
pub items_range : (class : Class) (order : Order) (items : Items) (from some : ℕ) → from + some ≤ items_count items
    → encoded class order (items_between from (from + some) items)
    ≡ take (item_size (items_kind items) class * some)
    (drop (item_size (items_kind items) class * from) (encoded class order items))
items_range class order items from some there =
    let z : ℕ = item_size (items_kind items) class in
    let n : ℕ = items_count items in
    let first : List ℕ = encoded class order (items_between 0 from items) in
    let middle : List ℕ = encoded class order (items_between from (from + some) items) in
    let last : List ℕ = encoded class order (items_between (from + some) (items_count items) items) in
    let whole : encoded class order items ≡ encoded class order (items_between 0 from items)
    ++ (encoded class order (items_between from (from + some) items) ++ encoded class order
    (items_between (from + some) (items_count items) items)) =
    ap (encoded class order) (sym (whole_range items))
    ∙ sym (encoded_ranges class order 0 (from + some) (items_count items) items (omega arith) there)
    ∙ ap (λ (l : List ℕ). l ++ encoded class order
    (items_between (from + some) (items_count items) items))
    (sym (encoded_ranges class order 0 from (from + some) items (omega arith) (omega arith)))
    ∙ append_assoc (encoded class order (items_between 0 from items))
    (encoded class order (items_between from (from + some) items))
    (encoded class order (items_between (from + some) (items_count items) items)) in
    let front = length_between class order 0 from items (omega arith) (omega (arith, there)) in
    let part = length_between class order from (from + some) items (omega arith) there in
    let begins : length (encoded class order (items_between 0 from items)) ≡ item_size (items_kind items) class * from =
    front ∙ ap (λ (k : ℕ). item_size (items_kind items) class * k) (omega arith) in
    let long : length (encoded class order (items_between from (from + some) items))
    ≡ item_size (items_kind items) class * some =
    part ∙ ap (λ (k : ℕ). item_size (items_kind items) class * k) (omega arith) in
    sym (ap (λ (l : List ℕ). take (item_size (items_kind items) class * some)
    (drop (item_size (items_kind items) class * from) l)) whole
    ∙ ap (take (item_size (items_kind items) class * some)) (drop_at (encoded class order (items_between 0 from items))
    (encoded class order (items_between from (from + some) items) ++ encoded class order
    (items_between (from + some) (items_count items) items))
    (item_size (items_kind items) class * from) begins)
    ∙ take_at (encoded class order (items_between from (from + some) items))
    (encoded class order (items_between (from + some) (items_count items) items))
    (item_size (items_kind items) class * some) long)

-- ---- Sizes

-- an item of a kind has a byte; there is no item of none
pub some_size : (items : Items) (class : Class) (n : ℕ) → n ≤ items_count items
    → max (item_size (items_kind items) class) 1 * n ≡ item_size (items_kind items) class * n
some_size Empty class n h = let none : n ≡ 0 = omega (arith, h) in by_none n none
  where
    by_none : (m : ℕ) → m ≡ 0 → max 0 1 * m ≡ 0 * m
    by_none m e = omega (arith, e)
some_size (Bytes l) class n h = refl
some_size (Half l) class n h = refl
some_size (Word l) class n h = refl
some_size (Addr l) C32 n h = refl
some_size (Addr l) C64 n h = refl
some_size (Sym l) C32 n h = refl
some_size (Sym l) C64 n h = refl
some_size (Rel l) C32 n h = refl
some_size (Rel l) C64 n h = refl
some_size (Rela l) C32 n h = refl
some_size (Rela l) C64 n h = refl
some_size (Dyn l) C32 n h = refl
some_size (Dyn l) C64 n h = refl

pub few_bytes : (items : Items) (class : Class) → max (item_size (items_kind items) class) 1 ≤ 64
few_bytes Empty class = omega arith
few_bytes (Bytes l) class = omega arith
few_bytes (Half l) class = omega arith
few_bytes (Word l) class = omega arith
few_bytes (Addr l) C32 = omega arith
few_bytes (Addr l) C64 = omega arith
few_bytes (Sym l) C32 = omega arith
few_bytes (Sym l) C64 = omega arith
few_bytes (Rel l) C32 = omega arith
few_bytes (Rel l) C64 = omega arith
few_bytes (Rela l) C32 = omega arith
few_bytes (Rela l) C64 = omega arith
few_bytes (Dyn l) C32 = omega arith
few_bytes (Dyn l) C64 = omega arith

-- ---- Entries of that size

pub items_all : (class : Class) (order : Order) (items : Items)
    → length (encoded class order items) ≡ max (item_size (items_kind items) class) 1 * items_count items
items_all class order items =
    length_encoded class order items ∙ sym (some_size items class (items_count items) (omega arith))

pub items_put : (class : Class) (order : Order) (items : Items) (from some : ℕ) (out : List ℕ)
    → from + some ≤ items_count items
    → out ≡ encoded class order (items_between from (from + some) items)
    → out ≡ take (max (item_size (items_kind items) class) 1 * some)
    (drop (max (item_size (items_kind items) class) 1 * from) (encoded class order items))
items_put class order items from some out there put =
    put ∙ items_range class order items from some there
    ∙ ap (λ (n : ℕ). take n (drop (item_size (items_kind items) class * from)
    (encoded class order items))) (sym (some_size items class some (omega (arith, there))))
    ∙ ap (λ (n : ℕ). take (max (item_size (items_kind items) class) 1 * some)
    (drop n (encoded class order items))) (sym (some_size items class from (omega (arith, there))))

pub items_room : (items : Items) (class : Class) (some n : ℕ) → some ≤ items_count items
    → n ≡ max (item_size (items_kind items) class) 1 * some
    → n ≡ item_size (items_kind items) class * some
items_room items class some n there is = is ∙ some_size items class some there
