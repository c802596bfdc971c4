-- The identification and the header, from the bytes that were read.
use Rattle.std.proofs.Common.{◌≡◌, ◌+◌, ◌-◌, ◌<◌, ◌≤◌, ◌++◌, ◌==◌, ℕ, subst, List, length, take, drop, Option, Some, None, Result, Ok, Err, IfSome, refl, sym, ap, ◌∙◌, arith, lit≤, lit<}
use Rattle.std.specs.Prelude.{slice_index, not}
use Rattle.std.proofs.lemmas.Bool.{lt-ltb, le-ltb}
use Rattle.std.proofs.lemmas.List.{take-take, get_or-take, length-take-le, take-append-drop, drop-take, take_at, drop_at}
use Rattle.elf_types.specs.declared.records.Class.{Class}
use Rattle.elf_types.specs.declared.records.Class.TheVariants.{C32, C64}
use Rattle.elf_types.specs.declared.records.Order.{Order}
use Rattle.elf_types.specs.declared.errors.ElfError.{ElfError}
use Rattle.elf_types.specs.declared.errors.ElfError.TheVariants.{Memory, Read, Short, Version}
use Rattle.elf_types.specs.declared.errors.ElfError.TheVariants.{Class as Class_error, Order as Order_error}
use Rattle.elf_types.specs.Answers.{refused_if, answered, or_refused, ◌>>=◌, Follows}
use Rattle.elf_types.proofs.AnswerLemmas.{follows_same}
use Rattle.elf_xlate.specs.Headers.{ehdr_size, ehdr_of}
use Rattle.elf_types.specs.declared.constants.TheConstants.{EI_CLASS, EI_DATA, EI_VERSION, EV_CURRENT}
use Rattle.elf_ident.specs.Front.{class_named, order_named, no_ident, ident_in, header_in, header_at, class_or_longer, header_bytes}
use Rattle.elf_ident.specs.Reading.{HasStart, HasHeader, HasRest}
use Rattle.elf_ident.proofs.Refusals.{answered_ok, answered_then, bind_ok, or_refused_ok}

-- an image shorter than its identification
pub short_ident : (holds : Option (List ℕ)) (len : ℕ) → IfSome holds (λ image. length image ≡ len) → len < 16
    → IfSome holds (λ image. ident_in image ≡ Err Short)
unfolding ident_in no_ident
short_ident None len sized small = tt
short_ident (Some image) len sized small = rw (lt-ltb (length image) 16 (rw sized small)) refl

-- the class and the order that three bytes name
abbrev versioned : ℕ → Class → Order → Result (Class × Order) ElfError
versioned version class order = answered (refused_if (not (version == EV_CURRENT)) Version) (class, order)

abbrev ordered : ℕ → ℕ → Class → Result (Class × Order) ElfError
ordered byte_order version class = or_refused (order_named byte_order) Order_error >>= versioned version class

abbrev named : ℕ → ℕ → ℕ → Result (Class × Order) ElfError
named class byte_order version = or_refused (class_named class) Class_error >>= ordered byte_order version

abbrev classed : List ℕ → Result (Class × Order) ElfError
classed ident = named (slice_index ident EI_CLASS) (slice_index ident EI_DATA) (slice_index ident EI_VERSION)

-- the identification is that of the first sixteen bytes
no_ident-take : (image : List ℕ) → 16 ≤ length image → no_ident (take 16 image) ≡ no_ident image
unfolding no_ident
no_ident-take image long =
    rw (length-take-le 16 image long, le-ltb (length image) 16 long, take-take 4 16 image (lit≤ tt)) refl

classed-take : (image : List ℕ) → classed (take 16 image) ≡ classed image
classed-take image =
    ap (λ (c : ℕ). named c (slice_index (take 16 image) EI_DATA) (slice_index (take 16 image) EI_VERSION)) (get_or-take 16 image 4 0 (lit< tt))
    ∙ ap (λ (d : ℕ). named (slice_index image EI_CLASS) d (slice_index (take 16 image) EI_VERSION)) (get_or-take 16 image 5 0 (lit< tt))
    ∙ ap (named (slice_index image EI_CLASS) (slice_index image EI_DATA)) (get_or-take 16 image 6 0 (lit< tt))

ident_in-take : (image : List ℕ) → 16 ≤ length image → ident_in (take 16 image) ≡ ident_in image
unfolding ident_in
ident_in-take image long =
    ap (λ (r : Option ElfError). answered r (take 16 image) >>= classed) (no_ident-take image long)
    ∙ answered_then (no_ident image) (take 16 image) image classed (classed-take image)

pub ident_of_start : (holds : Option (List ℕ)) (start : List ℕ) (n len : ℕ) (r : Result (Class × Order) ElfError)
    → IfSome holds (λ image. length image ≡ len) → 16 ≤ len → n ≡ 16
    → IfSome holds (λ image. start ≡ take n (drop 0 image)) → r ≡ ident_in start
    → IfSome holds (λ image. Follows r (ident_in image))
ident_of_start None start n len r sized long sixteen bytes is = tt
ident_of_start (Some image) start n len r sized long sixteen bytes is =
    follows_same r (ident_in image) (sym (is ∙ ap ident_in (bytes ∙ ap (λ (k : ℕ). take k image) sixteen) ∙ ident_in-take image (rw sized long)))

-- a refusal of the identification is one of the header
refused_ident : (image : List ℕ) (e : ElfError) → Follows {T = Class × Order} (Err e) (ident_in image) → Follows (Err e) (header_in image)
unfolding header_in
refused_ident image Memory h = tt
refused_ident image Read h = tt
refused_ident image e h = rw h refl

pub header_refused_ident : (holds : Option (List ℕ)) (e : ElfError)
    → IfSome holds (λ image. Follows {T = Class × Order} (Err e) (ident_in image))
    → IfSome holds (λ image. Follows (Err e) (header_in image))
header_refused_ident None e h = tt
header_refused_ident (Some image) e h = refused_ident image e h

-- an image shorter than its header
refused_rest : (image rest : List ℕ) (class : Class) (order : Order) (e : ElfError) → ident_in image ≡ Ok (class, order)
    → HasRest image class (Err e) rest → Follows (Err e) (header_in image)
unfolding header_in
refused_rest image rest class order Short is h = rw is (rw (lt-ltb (length image) (ehdr_size class) h) refl)
refused_rest image rest class order Read is h = tt
refused_rest image rest class order e is h = absurd h

pub header_refused_rest : (holds left : Option (List ℕ)) (rest : List ℕ) (class : Class) (order : Order) (e : ElfError) → left ≡ holds
    → IfSome holds (λ image. ident_in image ≡ Ok (class, order)) → IfSome left (λ image. HasRest image class (Err e) rest)
    → IfSome holds (λ image. Follows (Err e) (header_in image))
header_refused_rest None left rest class order e same is h = tt
header_refused_rest (Some image) left rest class order e same is h =
    refused_rest image rest class order e is (subst (λ (o : Option (List ℕ)). IfSome o (λ i. HasRest i class (Err e) rest)) same h)

-- a front of a list in two parts
take_two : (a b : ℕ) (xs : List ℕ) → take (a + b) xs ≡ take a xs ++ take b (drop a xs)
take_two a b xs =
    sym (take-append-drop a (take (a + b) xs))
    ∙ ap (λ (f : List ℕ). f ++ drop a (take (a + b) xs)) (take-take a (a + b) xs (omega arith))
    ∙ ap (λ (r : List ℕ). take a xs ++ r) (drop-take a b xs)

same_front : (a b : ℕ) (xs ys : List ℕ) → take a xs ≡ take a ys → take b (drop a xs) ≡ take b (drop a ys) → take (a + b) xs ≡ take (a + b) ys
same_front a b xs ys p q =
    take_two a b xs ∙ ap (λ (f : List ℕ). f ++ take b (drop a xs)) p ∙ ap (λ (r : List ℕ). take a ys ++ r) q ∙ sym (take_two a b ys)

same_middle : (n a b : ℕ) (xs ys : List ℕ) → a + b ≡ n → take n xs ≡ take n ys → take b (drop a xs) ≡ take b (drop a ys)
same_middle n a b xs ys e p =
    sym (drop-take a b xs) ∙ ap (λ (k : ℕ). drop a (take k xs)) e ∙ ap (drop a) p ∙ sym (ap (λ (k : ℕ). drop a (take k ys)) e) ∙ drop-take a b ys

-- the header's bytes stand in the two lists that were read
length_start : (image start : List ℕ) → HasStart image start → length start ≡ 16
length_start image start s = ap length s.bytes ∙ length-take-le 16 image s.long

start_joined : (image start rest : List ℕ) → HasStart image start → take 16 (start ++ rest) ≡ take 16 image
start_joined image start rest s = take_at start rest 16 (length_start image start s) ∙ s.bytes

header_joined : (image start rest : List ℕ) (size : ℕ) → 16 ≤ size → HasStart image start → HasHeader image size rest
    → take size (start ++ rest) ≡ take size image
header_joined image start rest size big s h =
    let whole : 16 + (size - 16) ≡ size = omega arith in
    sym (ap (λ (k : ℕ). take k (start ++ rest)) whole)
    ∙ same_front 16 (size - 16) (start ++ rest) image (start_joined image start rest s)
    (ap (take (size - 16)) (drop_at start rest 16 (length_start image start s)) ∙ h.bytes)
    ∙ ap (λ (k : ℕ). take k image) whole

size_big : (class : Class) → 16 ≤ ehdr_size class
size_big C32 = lit≤ tt
size_big C64 = lit≤ tt

done_by : (image start rest : List ℕ) (class : Class) (order : Order) → ident_in image ≡ Ok (class, order) → HasStart image start
    → HasHeader image (ehdr_size class) rest
    → header_in image ≡ Ok (ehdr_of class order (take (ehdr_size class) (start ++ rest)), take 7 (drop 9 (start ++ rest)))
unfolding header_in header_at
done_by image start rest class order is s h =
    rw is (rw (le-ltb (length image) (ehdr_size class) h.long)
    (rw (header_joined image start rest (ehdr_size class) (size_big class) s h, same_middle 16 9 7 (start ++ rest) image refl (start_joined image start rest s)) refl))

pub header_done : (holds left : Option (List ℕ)) (start rest : List ℕ) (class : Class) (order : Order) → left ≡ holds
    → IfSome holds (λ image. ident_in image ≡ Ok (class, order)) → IfSome holds (λ image. HasStart image start)
    → IfSome left (λ image. HasHeader image (ehdr_size class) rest)
    → IfSome holds (λ image. header_in image ≡ Ok (ehdr_of class order (take (ehdr_size class) (start ++ rest)), take 7 (drop 9 (start ++ rest))))
header_done None left start rest class order same is s h = tt
header_done (Some image) left start rest class order same is s h =
    done_by image start rest class order is s (subst (λ (o : Option (List ℕ)). IfSome o (λ i. HasHeader i (ehdr_size class) rest)) same h)

ok_first : {A B : Type 0} (a c : A) (b d : B) → ◌≡◌ {A = Result (A × B) ElfError} (Ok (a, b)) (Ok (c, d)) → a ≡ c
ok_first {A} {B} a c b d h =
    ap (λ (r : Result (A × B) ElfError). elim r as (λ _. A) [ Ok p ↦ p.0 | Err _ ↦ a ]) h

class_of_named : (code byte_order version : ℕ) (class : Class) (order : Order) → named code byte_order version ≡ Ok (class, order) → class_named code ≡ Some class
class_of_named code byte_order version class order h =
    let one = bind_ok (or_refused (class_named code) Class_error) (ordered byte_order version) (class, order) h in
    let two = bind_ok (or_refused (order_named byte_order) Order_error) (versioned version one.0) (class, order) one.2 in
    let three = answered_ok (refused_if (not (version == EV_CURRENT)) Version) (one.0, two.0) (class, order) two.2 in
    let same : one.0 ≡ class = ap (λ (p : Class × Order). p.0) three.1 in
    or_refused_ok (class_named code) Class_error one.0 one.1 ∙ ap Some same

-- the class is that of the identification
pub class_is : (image : List ℕ) (class : Class) (order : Order) → ident_in image ≡ Ok (class, order) → class_named (slice_index image EI_CLASS) ≡ Some class
unfolding ident_in
class_is image class order h =
    let start = bind_ok (answered (no_ident image) image) classed (class, order) h in
    let same = (answered_ok (no_ident image) image start.0 start.1).1 in
    class_of_named (slice_index image EI_CLASS) (slice_index image EI_DATA) (slice_index image EI_VERSION) class order
    (ap classed same ∙ start.2)

-- the header has as many bytes as its class says
header_bytes_class : (image : List ℕ) (class : Class) (order : Order) → ident_in image ≡ Ok (class, order) → header_bytes image ≡ ehdr_size class
unfolding header_bytes
header_bytes_class image class order h = ap (λ (o : Option Class). ehdr_size (class_or_longer o)) (class_is image class order h)

header_bytes_least : (image : List ℕ) → 16 ≤ header_bytes image
unfolding header_bytes
header_bytes_least image = size_big (class_or_longer (class_named (slice_index image EI_CLASS)))

-- what was asked for is at most one header
pub bound_ident : (holds : Option (List ℕ)) (old new : ℕ) → new ≤ old + 16 → IfSome holds (λ image. new ≤ old + header_bytes image)
bound_ident None old new h = tt
bound_ident (Some image) old new h = let least = header_bytes_least image in omega (arith, h)

pub bound_header : (holds : Option (List ℕ)) (class : Class) (order : Order) (old new : ℕ)
    → IfSome holds (λ image. ident_in image ≡ Ok (class, order)) → new ≤ old + (16 + (ehdr_size class - 16))
    → IfSome holds (λ image. new ≤ old + header_bytes image)
bound_header None class order old new is h = tt
bound_header (Some image) class order old new is h =
    let size = header_bytes_class image class order is in let big = size_big class in omega (arith, h)
