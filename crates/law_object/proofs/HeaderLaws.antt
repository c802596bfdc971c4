-- The identification and the header of an image in which they stand are what was written.
use Rattle.std.proofs.Common.{◌≡◌, ℕ, suc, ◌+◌, ◌-◌, ◌≤◌, Bool, false, List, [], ◌∷◌, ◌++◌, length, take, drop, Result, Ok, refl, sym, ap, ◌∙◌, arith}
use Rattle.std.specs.Prelude.{IsTrue, nat_lt}
use Rattle.std.proofs.lemmas.Bool.{le-ltb}
use Rattle.std.proofs.lemmas.List.{length-drop, take-append-drop, take-take, drop-take}
use Rattle.elf_types.specs.declared.records.Class.{Class}
use Rattle.elf_types.specs.declared.records.Class.TheVariants.{C32, C64}
use Rattle.elf_types.specs.declared.records.Order.{Order}
use Rattle.elf_types.specs.declared.records.Order.TheVariants.{Least, Greatest}
use Rattle.elf_types.specs.declared.records.Ehdr.{Ehdr}
use Rattle.elf_types.specs.declared.errors.ElfError.{ElfError}
use Rattle.elf_types.specs.declared.errors.ElfError.TheVariants as error
use Rattle.elf_object.specs.elf_xlate.Headers.{class_code, order_code, ident, ehdr_size, ehdr_of, ehdr_bytes, ehdr_fits, IsEhdr, HasNarrowCounts}
use Rattle.elf_types.specs.Answers.{refused_if, answered, ◌>>=◌}
use Rattle.elf_object.specs.elf_ident.Front.{no_ident, ident_in, header_at, header_in}
use Rattle.elf_object.specs.Object.{Object}
use Rattle.elf_object.specs.Derived.{written_header}
use Rattle.law_object.proofs.ReopenLaws.{ReadsBack, StandsIn}
use Rattle.law_object.proofs.LengthLaws.{size_long}

-- ---- The identification

-- an image that begins with an identification
ident_read : (class : Class) (order : Order) (rest : List ℕ) → 9 ≤ length rest → ident_in (0x7f ∷ 0x45 ∷ 0x4c ∷ 0x46 ∷ class_code class ∷ order_code order ∷ 1 ∷ rest) ≡ Ok (class, order)
unfolding ident_in no_ident
ident_read C32 Least rest long = let short : nat_lt (suc (suc (suc (suc (suc (suc (suc (length rest)))))))) 16 ≡ false = le-ltb (suc (suc (suc (suc (suc (suc (suc (length rest)))))))) 16 (omega arith) in rw short refl
ident_read C32 Greatest rest long = let short : nat_lt (suc (suc (suc (suc (suc (suc (suc (length rest)))))))) 16 ≡ false = le-ltb (suc (suc (suc (suc (suc (suc (suc (length rest)))))))) 16 (omega arith) in rw short refl
ident_read C64 Least rest long = let short : nat_lt (suc (suc (suc (suc (suc (suc (suc (length rest)))))))) 16 ≡ false = le-ltb (suc (suc (suc (suc (suc (suc (suc (length rest)))))))) 16 (omega arith) in rw short refl
ident_read C64 Greatest rest long = let short : nat_lt (suc (suc (suc (suc (suc (suc (suc (length rest)))))))) 16 ≡ false = le-ltb (suc (suc (suc (suc (suc (suc (suc (length rest)))))))) 16 (omega arith) in rw short refl

ident_start : (class : Class) (order : Order) (pad : List ℕ) → take 7 (ident class order pad) ≡ 0x7f ∷ 0x45 ∷ 0x4c ∷ 0x46 ∷ class_code class ∷ order_code order ∷ 1 ∷ []
unfolding ident
ident_start class order pad = refl

pub ident_found : (image : List ℕ) (class : Class) (order : Order) (pad : List ℕ) → 16 ≤ length image → take 7 image ≡ take 7 (ident class order pad) → ident_in image ≡ Ok (class, order)
ident_found image class order pad long start =
    let split : image ≡ 0x7f ∷ 0x45 ∷ 0x4c ∷ 0x46 ∷ class_code class ∷ order_code order ∷ 1 ∷ drop 7 image =
    sym (take-append-drop 7 image) ∙ ap (λ (l : List ℕ). l ++ drop 7 image) (start ∙ ident_start class order pad) in
    let rest = length-drop 7 image in
    ap ident_in split ∙ ident_read class order (drop 7 image) (omega arith)

-- ---- The header

pub written_kept : (h : Ehdr) → ((written_header h).class ≡ h.class) × ((written_header h).order ≡ h.order)
unfolding written_header
written_kept h = (refl, refl)

-- what is known of the header as it is written
pub record IsWritten (q : Object) : Type 0 where
  pub is : IsEhdr (written_header q.header)
  pub narrow : HasNarrowCounts (written_header q.header)
  pub fitting : IsTrue (ehdr_fits (written_header q.header))
  pub pad : length q.pad ≡ 7

header_at_is : (image : List ℕ) (class : Class) (order : Order) (h : Ehdr) (pad : List ℕ) → ehdr_of class order (take (ehdr_size class) image) ≡ h → take 7 (drop 9 (take (ehdr_size class) image)) ≡ pad → header_at class order image ≡ (h, pad)
unfolding header_at
header_at_is image class order h pad value rest =
    let long = size_long class in
    let part : ehdr_size class ≡ 9 + (ehdr_size class - 9) = omega arith in
    let inner : take 7 (drop 9 (take (ehdr_size class) image)) ≡ take 7 (drop 9 image) =
    ap (λ (n : ℕ). take 7 (drop 9 (take n image))) part ∙ ap (take 7) (drop-take 9 (ehdr_size class - 9) image) ∙ take-take 7 (ehdr_size class - 9) (drop 9 image) (omega arith) in
    let seven = sym inner ∙ rest in
    ap (λ (x : Ehdr). (x, take 7 (drop 9 image))) value ∙ ap (λ (l : List ℕ). (h, l)) seven

pub header_read : (reads : ReadsBack) (image : List ℕ) (q : Object) → StandsIn image q → IsWritten q → header_in image ≡ Ok (written_header q.header, q.pad)
unfolding header_in
header_read reads image q stands is =
    let holds = reads.ehdr (written_header q.header) q.pad is.is is.narrow is.fitting is.pad in
    let kept = written_kept q.header in
    let long = stands.long in
    let sixteen = size_long q.header.class in
    let start : take 7 image ≡ take 7 (ident q.header.class q.header.order q.pad) =
    sym (take-take 7 (ehdr_size q.header.class) image (omega arith)) ∙ ap (take 7) stands.header ∙ holds.start
    ∙ ap (λ (c : Class). take 7 (ident c (written_header q.header).order q.pad)) kept.0 ∙ ap (λ (r : Order). take 7 (ident q.header.class r q.pad)) kept.1 in
    let found = ident_found image q.header.class q.header.order q.pad (omega arith) start in
    let value : ehdr_of q.header.class q.header.order (take (ehdr_size q.header.class) image) ≡ written_header q.header =
    ap (ehdr_of q.header.class q.header.order) stands.header
    ∙ sym (ap (λ (c : Class). ehdr_of c q.header.order (ehdr_bytes (written_header q.header) q.pad)) kept.0)
    ∙ sym (ap (λ (r : Order). ehdr_of (written_header q.header).class r (ehdr_bytes (written_header q.header) q.pad)) kept.1)
    ∙ holds.value in
    let rest : take 7 (drop 9 (take (ehdr_size q.header.class) image)) ≡ q.pad = ap (λ (l : List ℕ). take 7 (drop 9 l)) stands.header ∙ holds.pad_is in
    ap (λ (r : Result (Class × Order) ElfError). r >>= λ id. answered (refused_if (nat_lt (length image) (ehdr_size id.0)) error.Short) (header_at id.0 id.1 image)) found
    ∙ ap (λ (b : Bool). answered (refused_if b error.Short) (header_at q.header.class q.header.order image)) (le-ltb (length image) (ehdr_size q.header.class) long)
    ∙ ap Ok (header_at_is image q.header.class q.header.order (written_header q.header) q.pad value rest)
