-- What bytes hold is in the range of its type.
use Rattle.std.proofs.Common.{◌≡◌, ℕ, ◌-◌, ◌*◌, ◌^◌, ◌<◌, ◌≤◌, List, [], ◌∷◌, length, take, drop, subst, arith, lit<}
use Rattle.std.specs.Prelude.{All, reverse, map}
use Rattle.std.specs.List.{range_with_len}
use Rattle.std.proofs.lemmas.List.{length-take, length-reverse, get_or-reverse}
use Rattle.std.proofs.lemmas.List.Elements.{All-head, All-tail, All-take, All-drop, All-nil, All-cons}
use Rattle.std.proofs.Math.Nat.{pow-le-pow_right, pow-succ'}
use Rattle.elf_types.specs.declared.records.Class.{Class}
use Rattle.elf_types.specs.declared.records.Class.TheVariants.{C32, C64}
use Rattle.elf_types.specs.declared.records.Order.{Order}
use Rattle.elf_types.specs.declared.records.Order.TheVariants.{Least, Greatest}
use Rattle.elf_object.specs.elf_xlate.Numbers.{by_weight, weighed, number_of, number_at}
use Rattle.elf_object.specs.elf_xlate.Orders.{weighed-suc}
use Rattle.elf_object.specs.elf_xlate.Fields.{Field, place_in, number_in}
use Rattle.elf_object.specs.elf_xlate.Translation.{items_of}
use Rattle.elf_types.specs.Lists.{AreBytes}

-- ---- Numbers

weighed_below : (bytes : List ℕ) → AreBytes bytes → weighed 0 bytes < 256 ^ length bytes
unfolding weighed
weighed_below [] are = lit< tt
weighed_below (b ∷ bytes) are =
    let here : b < 2 ^ 8 = All-head (λ n. n < 2 ^ 8) b bytes are in
    let rest = weighed_below bytes (All-tail (λ n. n < 2 ^ 8) b bytes are) in
    let further = weighed-suc 0 bytes in
    let power = pow-succ' 256 (length bytes) in
    rw (further, power) (omega arith)

pub bytes_reverse : (bytes : List ℕ) → AreBytes bytes → AreBytes (reverse bytes)
bytes_reverse bytes are k d h =
    let len = length-reverse bytes in
    let inside : k < length bytes = omega (arith, h, len) in
    let place : length bytes - 1 - k < length bytes = omega arith in
    rw (get_or-reverse bytes k d inside) (are (length bytes - 1 - k) d place)

number_below : (order : Order) (bytes : List ℕ) → AreBytes bytes → number_of order bytes < 256 ^ length bytes
unfolding number_of by_weight
number_below Least bytes are = weighed_below bytes are
number_below Greatest bytes are =
    let len = length-reverse bytes in
    let P : ℕ → Type 0 = λ n. weighed 0 (reverse bytes) < 256 ^ n in
    subst P len (weighed_below (reverse bytes) (bytes_reverse bytes are))

number_at_below : (order : Order) (bytes : List ℕ) (place width : ℕ) → AreBytes bytes → number_at order bytes place width < 256 ^ width
unfolding number_at
number_at_below order bytes place width are =
    let part = take width (drop place bytes) in
    let small = number_below order part (All-take (λ n. n < 2 ^ 8) width (drop place bytes) (All-drop (λ n. n < 2 ^ 8) place bytes are)) in
    let len : length part ≤ width = rw length-take (omega arith) in
    let power = pow-le-pow_right {n = 256} (lit< tt) len in
    omega arith

-- a field's number
pub number_in_below : (class : Class) (order : Order) (bytes : List ℕ) (f : Field) → AreBytes bytes → number_in class order bytes f < 256 ^ (place_in class f).1
unfolding number_in
number_in_below class order bytes f are = number_at_below order bytes (place_in class f).0 (place_in class f).1 are

-- ---- Fields

pub no_field : Field
no_field = record { narrow = (0, 0); broad = (0, 0) }

pub native_range : (class : Class) (order : Order) (bytes : List ℕ) (f : Field) → f.narrow.1 ≡ 4 → f.broad.1 ≡ 8 → AreBytes bytes → number_in class order bytes f < 2 ^ 64
native_range C32 order bytes f four eight are =
    let small = number_in_below C32 order bytes f are in
    let P : ℕ → Type 0 = λ w. number_in C32 order bytes f < 256 ^ w in
    let narrow : number_in C32 order bytes f < 2 ^ 32 = subst P four small in
    omega arith
native_range C64 order bytes f four eight are =
    let P : ℕ → Type 0 = λ w. number_in C64 order bytes f < 256 ^ w in
    subst P eight (number_in_below C64 order bytes f are)

-- a field of one width in both classes
pub field_range : (class : Class) (order : Order) (bytes : List ℕ) (f : Field) (width : ℕ) → f.narrow.1 ≡ width → f.broad.1 ≡ width → AreBytes bytes → number_in class order bytes f < 256 ^ width
field_range C32 order bytes f width narrow broad are =
    let P : ℕ → Type 0 = λ w. number_in C32 order bytes f < 256 ^ w in
    subst P narrow (number_in_below C32 order bytes f are)
field_range C64 order bytes f width narrow broad are =
    let P : ℕ → Type 0 = λ w. number_in C64 order bytes f < 256 ^ w in
    subst P broad (number_in_below C64 order bytes f are)

-- ---- Lists of items

pub each_made : {X : Type 0} (P : X → Type 0) (f : ℕ → X) (l : List ℕ) → ((i : ℕ) → P (f i)) → All P (map f l)
each_made P f [] holds = All-nil P
each_made P f (i ∷ l) holds = All-cons P (f i) (map f l) (holds i) (each_made P f l holds)

pub items_range : {X : Type 0} (P : X → Type 0) (item : List ℕ → X) (size count : ℕ) (bytes : List ℕ) → ((part : List ℕ) → AreBytes part → P (item part)) → AreBytes bytes → All P (items_of item size count bytes)
unfolding items_of
items_range P item size count bytes holds are =
    each_made P (λ i. item (take size (drop (i * size) bytes))) (range_with_len 0 count)
    (λ i. holds (take size (drop (i * size) bytes)) (All-take (λ n. n < 2 ^ 8) size (drop (i * size) bytes) (All-drop (λ n. n < 2 ^ 8) (i * size) bytes are)))
