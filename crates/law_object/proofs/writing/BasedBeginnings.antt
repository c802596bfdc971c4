-- An image that is opened stands in itself: its header and tables are those that are written for what was read of them
-- (`IsBased`).
use Rattle.std.proofs.Common.{◌≡◌, ℕ, ◌+◌, ◌-◌, ◌*◌, ◌/◌, ◌%◌, ◌^◌, ◌<◌, ◌≤◌, Bool, true, false, not, ◌&&◌, List, [], ◌∷◌, ◌++◌, length, take, drop, get_or, Option, Some, None, Result, Ok, Err, refl, sym, ap, ◌∙◌, subst, arith, lit<, lit≤, ⊎_elim}
use Rattle.std.specs.Prelude.{if◌then◌else◌, ◌==◌, nat_eq, nat_lt, nat_le, flat_map}
use Rattle.std.specs.List.{starts_with}
use Rattle.std.specs.Cmp.Lexicographic.{same_text}
use Rattle.std.proofs.lemmas.Bool.{cases_lt, eqb-true, eq-eqb, ltb-false, leb-true}
use Rattle.std.proofs.lemmas.List.{length-drop, length-take-le, take-take, drop-take}
use Rattle.std.proofs.lemmas.List.Elements.{All-nil, All-map, All-take, All-drop, All-from_get_or}
use Rattle.std.proofs.Math.Nat.{mul-mod_left, mul-div_cancel}
use Rattle.elf_types.specs.declared.records.Class.{Class}
use Rattle.elf_types.specs.declared.records.Class.TheVariants.{C32, C64}
use Rattle.elf_types.specs.declared.records.Order.{Order}
use Rattle.elf_types.specs.declared.records.Order.TheVariants.{Least, Greatest}
use Rattle.elf_types.specs.declared.records.Ehdr.{Ehdr}
use Rattle.elf_types.specs.declared.records.Shdr.{Shdr}
use Rattle.elf_types.specs.declared.errors.ElfError.{ElfError}
use Rattle.elf_types.specs.declared.errors.ElfError.TheVariants as error
use Rattle.elf_object.specs.elf_xlate.Headers.{class_code, order_code, ident, ident as ident_bytes, ehdr_size, ehdr_of, ehdr_bytes, HoldsEhdr, phdr_size, phdr_of, phdr_bytes, shdr_size, shdr_of, shdr_bytes}
use Rattle.elf_object.specs.elf_xlate.Translation.{items_of, listed}
use Rattle.elf_object.proofs.elf_xlate.Digits.{AreBytes as AreDigits, are_bytes}
use Rattle.elf_object.proofs.elf_xlate.BothWays.{written_all}
use Rattle.elf_types.specs.Answers.{refused_if, answered, or_refused}
use Rattle.elf_types.specs.declared.constants.TheConstants.{ELFMAG, PN_XNUM}
use Rattle.elf_object.specs.elf_ident.declared.counts.Counts.{Counts}
use Rattle.elf_object.specs.elf_ident.declared.fronts.Head.{Head}
use Rattle.elf_object.specs.elf_ident.declared.fronts.Front.{Front}
use Rattle.elf_object.specs.elf_ident.Front.{class_named, order_named, no_ident, ident_in, first_section, true_counts, true_phnum, count_refusal, lies_in, phdrs_at, shdrs_at, front_at, front}
use Rattle.elf_object.specs.Object.{Object}
use Rattle.elf_object.specs.Open.{home_of, home_bytes, opened_section, front_in_image, phdrs_bytes, shdrs_bytes, standing_header, begun, begun_or_refused, opened, created_over}
use Rattle.elf_types.specs.Lists.{AreBytes}
use Rattle.elf_object.proofs.PassedLaws.{not_refused, not_not, passed_one, passed_two}
use Rattle.elf_object.proofs.elf_ident.Refusals.{answered_ok, bind_ok}
use Rattle.law_object.proofs.OpenLaws.{IsFrontOf, front_known}
use Rattle.law_object.specs.Writing.Lines.{StandsAt}
use Rattle.law_object.specs.Writing.Based.{HomeStands, IsBased, BeginningsAreBased}

-- ---- What is taken of the translation of headers

-- headers are written as they were read
pub record WritesBack : Type 0 where
  pub ehdr : (h : Ehdr) (pad bytes : List ℕ) → AreBytes bytes → length pad ≡ 7 → HoldsEhdr h pad bytes → ehdr_bytes h pad ≡ bytes
  pub phdr : (class : Class) (order : Order) (bytes : List ℕ) → AreBytes bytes → length bytes ≡ phdr_size class → phdr_bytes class order (phdr_of class order bytes) ≡ bytes
  pub shdr : (class : Class) (order : Order) (bytes : List ℕ) → AreBytes bytes → length bytes ≡ shdr_size class → shdr_bytes class order (shdr_of class order bytes) ≡ bytes

-- ---- The identification

class_is : (n : ℕ) (class : Class) → class_named n ≡ Some class → n ≡ class_code class
class_is n class h = by_test (n == 1) (n == 2) refl refl h
  where
    by_test : (a b : Bool) → (n == 1) ≡ a → (n == 2) ≡ b → (if a then Some C32 else (if b then Some C64 else None)) ≡ Some class → n ≡ class_code class
    by_test true b e f g = let same : C32 ≡ class = cc in eqb-true n 1 e ∙ ap class_code same
    by_test false true e f g = let same : C64 ≡ class = cc in eqb-true n 2 f ∙ ap class_code same
    by_test false false e f g = cc

order_is : (n : ℕ) (order : Order) → order_named n ≡ Some order → n ≡ order_code order
order_is n order h = by_test (n == 1) (n == 2) refl refl h
  where
    by_test : (a b : Bool) → (n == 1) ≡ a → (n == 2) ≡ b → (if a then Some Least else (if b then Some Greatest else None)) ≡ Some order → n ≡ order_code order
    by_test true b e f g = let same : Least ≡ order = cc in eqb-true n 1 e ∙ ap order_code same
    by_test false true e f g = let same : Greatest ≡ order = cc in eqb-true n 2 f ∙ ap order_code same
    by_test false false e f g = cc

-- what the identification of an image says
record IsIdent (image : List ℕ) (class : Class) (order : Order) : Type 0 where
  long : 16 ≤ length image
  magic : take 4 image ≡ 0x7f ∷ 0x45 ∷ 0x4c ∷ 0x46 ∷ []
  class_at : get_or image 4 0 ≡ class_code class
  order_at : get_or image 5 0 ≡ order_code order
  version : get_or image 6 0 ≡ 1

not_false : (b : Bool) → not b ≡ false → b ≡ true
not_false true h = refl
not_false false h = cc

abbrev ok : {A : Type 0} → A → Result A ElfError
ok x = Ok x

pair_is : {A B : Type 0} (a c : A) (b d : B) → ok {A = A × B} (a, b) ≡ Ok (c, d) → (a ≡ c) × (b ≡ d)
pair_is {A} {B} a c b d h = let same : (a, b) ≡ (c, d) = same_ok h in (ap (λ (p : A × B). p.0) same, ap (λ (p : A × B). p.1) same)
  where
    same_ok : {X : Type 0} {x y : X} → ok x ≡ ok y → x ≡ y
    same_ok e = cc

ident_is : (image : List ℕ) (class : Class) (order : Order) → ident_in image ≡ Ok (class, order) → IsIdent image class order
unfolding ident_in no_ident
ident_is image class order h =
    let magic = bind_ok (answered (no_ident image) image) _ (class, order) h in
    let start = answered_ok (no_ident image) image magic.0 magic.1 in
    let passed = passed_two (nat_lt (length image) 16) (not (starts_with nat_eq image ELFMAG)) error.Short error.Magic start.0 in
    let classed = bind_ok (or_refused (class_named (get_or magic.0 4 0)) error.Class) _ (class, order) magic.2 in
    let ordered = bind_ok (or_refused (order_named (get_or magic.0 5 0)) error.Order) _ (class, order) classed.2 in
    let current = answered_ok (refused_if (not (get_or magic.0 6 0 == 1)) error.Version) (classed.0, ordered.0) (class, order) ordered.2 in
    let version = not_refused (not (get_or magic.0 6 0 == 1)) error.Version current.0 in
    let same = pair_is classed.0 class ordered.0 order (ap ok current.1) in
    let image_same : magic.0 ≡ image = sym start.1 in
    record {
      long = ltb-false (length image) 16 passed.0;
      magic = sym (same_text (0x7f ∷ 0x45 ∷ 0x4c ∷ 0x46 ∷ []) (take 4 image) (sym (not_not (starts_with nat_eq image ELFMAG) passed.1)));
      class_at = ap (λ (l : List ℕ). get_or l 4 0) (sym image_same) ∙ class_is (get_or magic.0 4 0) classed.0 (named (class_named (get_or magic.0 4 0)) error.Class classed.0 classed.1) ∙ ap class_code same.0;
      order_at = ap (λ (l : List ℕ). get_or l 5 0) (sym image_same) ∙ order_is (get_or magic.0 5 0) ordered.0 (named (order_named (get_or magic.0 5 0)) error.Order ordered.0 ordered.1) ∙ ap order_code same.1;
      version = ap (λ (l : List ℕ). get_or l 6 0) (sym image_same) ∙ eqb-true (get_or magic.0 6 0) 1 (not_not (get_or magic.0 6 0 == 1) version);
    }
  where
    named : {T : Type 0} (o : Option T) (e : ElfError) (x : T) → or_refused o e ≡ Ok x → o ≡ Some x
    named (Some y) e x h = let same : y ≡ x = cc in ap Some same
    named None e x h = cc

-- so the first seven bytes are those of an identification
start_is : (image : List ℕ) (class : Class) (order : Order) (pad : List ℕ) → IsIdent image class order → take 7 image ≡ take 7 (ident class order pad)
unfolding ident
start_is [] class order pad is = let long = is.long in absurd (omega arith)
start_is (a ∷ []) class order pad is = let long = is.long in absurd (omega arith)
start_is (a ∷ b ∷ []) class order pad is = let long = is.long in absurd (omega arith)
start_is (a ∷ b ∷ c ∷ []) class order pad is = let long = is.long in absurd (omega arith)
start_is (a ∷ b ∷ c ∷ d ∷ []) class order pad is = let long = is.long in absurd (omega arith)
start_is (a ∷ b ∷ c ∷ d ∷ e ∷ []) class order pad is = let long = is.long in absurd (omega arith)
start_is (a ∷ b ∷ c ∷ d ∷ e ∷ f ∷ []) class order pad is = let long = is.long in absurd (omega arith)
start_is (a ∷ b ∷ c ∷ d ∷ e ∷ f ∷ g ∷ l) class order pad is =
    let magic : a ∷ b ∷ c ∷ d ∷ [] ≡ 0x7f ∷ 0x45 ∷ 0x4c ∷ 0x46 ∷ [] = is.magic in
    let fifth : e ≡ class_code class = is.class_at in
    let sixth : f ≡ order_code order = is.order_at in
    let seventh : g ≡ 1 = is.version in
    ap (λ (l : List ℕ). l ++ e ∷ f ∷ g ∷ []) magic
    ∙ ap (λ (n : ℕ). 0x7f ∷ 0x45 ∷ 0x4c ∷ 0x46 ∷ n ∷ f ∷ g ∷ []) fifth
    ∙ ap (λ (n : ℕ). 0x7f ∷ 0x45 ∷ 0x4c ∷ 0x46 ∷ class_code class ∷ n ∷ g ∷ []) sixth
    ∙ ap (λ (n : ℕ). 0x7f ∷ 0x45 ∷ 0x4c ∷ 0x46 ∷ class_code class ∷ order_code order ∷ n ∷ []) seventh

-- ---- Tables

-- a table is written as it was read
table_again : {X : Type 0} (item : List ℕ → X) (enc : X → List ℕ) (size count : ℕ) (bytes : List ℕ) → ((piece : List ℕ) → AreBytes piece → length piece ≡ size → enc (item piece) ≡ piece) → 0 < size → AreBytes bytes → length bytes ≡ count * size → flat_map enc (items_of item size count bytes) ≡ bytes
unfolding listed AreDigits
table_again {X} item enc size count bytes back some are len =
    let whole : length bytes % size ≡ 0 = ap (λ (k : ℕ). k % size) len ∙ mul-mod_left count size in
    let number : length bytes / size ≡ count = ap (λ (k : ℕ). k / size) len ∙ mul-div_cancel count some in
    let test : (length bytes % size == 0) ≡ true = eq-eqb (length bytes % size) 0 whole in
    let given : listed item size bytes ≡ Some (items_of item size count bytes) =
    ap (λ (b : Bool). if b then Some (items_of item size (length bytes / size) bytes) else None) test
    ∙ ap (λ (n : ℕ). Some (items_of item size n bytes)) number in
    written_all item enc size bytes (items_of item size count bytes) (λ piece digits fits. back piece (bytes_from piece digits) fits) (are_bytes bytes are) given
  where
    bytes_from : (piece : List ℕ) → AreDigits piece → AreBytes piece
    bytes_from piece digits = All-from_get_or (λ b. b < 2 ^ 8) piece 0 (λ i h. digits i)

-- ---- The object of a front

-- bytes of a length from a place on, where the image has so many, stand there
taken_stands : (image piece : List ℕ) (at n : ℕ) → piece ≡ take n (drop at image) → length piece ≡ n → StandsAt image at piece
taken_stands image piece at n same len = ap (λ (m : ℕ). take m (drop at image)) len ∙ sym same

sizes : (class : Class) → (16 ≤ ehdr_size class) × (0 < phdr_size class) × (0 < shdr_size class)
sizes C32 = (lit≤ tt, lit< tt, lit< tt)
sizes C64 = (lit≤ tt, lit< tt, lit< tt)

part_are : (image : List ℕ) (at n : ℕ) → AreBytes image → AreBytes (take n (drop at image))
part_are image at n are = All-take (λ b. b < 2 ^ 8) n (drop at image) (All-drop (λ b. b < 2 ^ 8) at image are)

-- the header that was read is written back
header_back : (writes : WritesBack) (image : List ℕ) (f : Front) → AreBytes image → (is : IsFrontOf image f) → ehdr_bytes is.head.header is.head.pad ≡ take (ehdr_size is.class) image
unfolding ehdr_of
header_back writes image f are is =
    let long = is.long in
    let size = sizes is.class in
    let class : is.head.header.class ≡ is.class = ap (λ (h : Ehdr). h.class) is.header in
    let order : is.head.header.order ≡ is.order = ap (λ (h : Ehdr). h.order) is.header in
    let bytes : List ℕ = take (ehdr_size is.class) image in
    let len : length (take (ehdr_size is.class) image) ≡ ehdr_size is.class = length-take-le (ehdr_size is.class) image long in
    let rest = length-drop 9 image in
    let ident = ident_is image is.class is.order is.ident in
    let sixteen = ident.long in
    let seven : length is.head.pad ≡ 7 = ap length is.pad ∙ length-take-le 7 (drop 9 image) (omega arith) in
    let start : take 7 (take (ehdr_size is.class) image) ≡ take 7 (ident_bytes is.head.header.class is.head.header.order is.head.pad) =
    take-take 7 (ehdr_size is.class) image (omega arith) ∙ start_is image is.class is.order is.head.pad ident
    ∙ ap (λ (c : Class). take 7 (ident_bytes c is.order is.head.pad)) (sym class) ∙ ap (λ (o : Order). take 7 (ident_bytes is.head.header.class o is.head.pad)) (sym order) in
    let value : ehdr_of is.head.header.class is.head.header.order (take (ehdr_size is.class) image) ≡ is.head.header =
    ap (λ (c : Class). ehdr_of c is.head.header.order (take (ehdr_size is.class) image)) class ∙ ap (λ (o : Order). ehdr_of is.class o (take (ehdr_size is.class) image)) order ∙ sym is.header in
    writes.ehdr is.head.header is.head.pad (take (ehdr_size is.class) image) (All-take (λ b. b < 2 ^ 8) (ehdr_size is.class) image are) seven (record {
      size = len ∙ ap ehdr_size (sym class);
      start = start;
      pad_is = take_drop_take (ehdr_size is.class) image (omega arith) ∙ sym is.pad;
      value = value;
    })
  where
    take_drop_take : (n : ℕ) (l : List ℕ) → 16 ≤ n → take 7 (drop 9 (take n l)) ≡ take 7 (drop 9 l)
    take_drop_take n l long =
        let split : n ≡ 9 + (n - 9) = omega arith in
        ap (λ (m : ℕ). take 7 (drop 9 (take m l))) split ∙ ap (take 7) (drop-take 9 (n - 9) l) ∙ take-take 7 (n - 9) (drop 9 l) (omega arith)

-- a table lies in the image where it has entries
lies_from : (len at count size : ℕ) → not (lies_in len at count size) ≡ false → at + count * size ≤ len
lies_from len at count size h = leb-true (at + count * size) len (not_not (nat_le (at + count * size) len) h)

-- a table that was read is written back
table_back : {X : Type 0} (item : List ℕ → X) (enc : X → List ℕ) (size at count : ℕ) (image : List ℕ) → ((piece : List ℕ) → AreBytes piece → length piece ≡ size → enc (item piece) ≡ piece) → 0 < size → AreBytes image → (0 < count → at + count * size ≤ length image) → StandsAt image at (flat_map enc (items_of item size count (take (count * size) (drop at image))))
table_back item enc size at count image back some are lies =
    let rest = length-drop at image in
    let len : length (take (count * size) (drop at image)) ≡ count * size = ⊎_elim
    (λ any. let fits = lies any in length-take-le (count * size) (drop at image) (omega arith))
    (λ none. let zero_count : count ≡ 0 = omega arith in let no_bytes : count * size ≡ 0 = ap (λ (n : ℕ). n * size) zero_count ∙ omega arith in ap (λ (n : ℕ). length (take n (drop at image))) no_bytes ∙ sym no_bytes)
    (cases_lt 0 count) in
    let same = table_again item enc size count (take (count * size) (drop at image)) back some (part_are image at (count * size) are) len in
    taken_stands image (flat_map enc (items_of item size count (take (count * size) (drop at image)))) at (count * size) same (ap length same ∙ len)

-- where there are program headers they lie in the image, and so do the section headers
record TablesLie (image : List ℕ) (head : Head) : Type 0 where
  segments : 0 < head.counts.phnum → head.header.phoff + head.counts.phnum * phdr_size head.header.class ≤ length image
  table : head.header.shoff + head.counts.shnum * shdr_size head.header.class ≤ length image

no_segments : (h : Ehdr) (first : Shdr) → h.phnum ≡ 0 → true_phnum h first ≡ 0
unfolding true_phnum
no_segments h first none = rw none refl

tables_lie : (image : List ℕ) (head : Head) → head.counts ≡ true_counts head.header (first_section head.header image) → count_refusal head.header head.counts (length image) ≡ None → TablesLie image head
unfolding count_refusal
tables_lie image head counts late =
    let first = passed_one (not (lies_in (length image) head.header.shoff head.counts.shnum (shdr_size head.header.class))) error.ShTable _ late in
    let second = passed_one (not (head.header.phnum == 0) && not (head.header.phentsize == phdr_size head.header.class)) error.PhTable _ first.1 in
    let third = passed_one (head.header.phnum == PN_XNUM && head.header.shoff == 0) error.PhTable _ second.1 in
    let fourth = passed_one (not (head.header.phnum == 0) && not (lies_in (length image) head.header.phoff head.counts.phnum (phdr_size head.header.class))) error.PhTable _ third.1 in
    record {
      segments = λ some. by_test (head.header.phnum == 0) refl some fourth.0;
      table = lies_from (length image) head.header.shoff head.counts.shnum (shdr_size head.header.class) first.0;
    }
  where
    by_test : (b : Bool) → (head.header.phnum == 0) ≡ b → 0 < head.counts.phnum → (not b && not (lies_in (length image) head.header.phoff head.counts.phnum (phdr_size head.header.class))) ≡ false → head.header.phoff + head.counts.phnum * phdr_size head.header.class ≤ length image
    by_test true e some h =
        let none = no_segments head.header (first_section head.header image) (eqb-true head.header.phnum 0 e) in
        let zero_count : head.counts.phnum ≡ 0 = ap (λ (c : Counts). c.phnum) counts ∙ none in
        absurd (omega arith)
    by_test false e some h = lies_from (length image) head.header.phoff head.counts.phnum (phdr_size head.header.class) h

-- ---- Homes

home_stands : (image : List ℕ) (h : Shdr) → HomeStands image (opened_section image h)
unfolding opened_section home_bytes
home_stands image h some inside =
    by_test (home_of (length image) h).out inside
  where
    by_test : (b : Bool) → b ≡ false → take (home_of (length image) h).len (drop (home_of (length image) h).at image) ≡ (if b then [] else take (home_of (length image) h).len (drop (home_of (length image) h).at image))
    by_test true e = cc
    by_test false e = refl

-- ---- The laws

made_based : (writes : WritesBack) (image : List ℕ) (f : Front) → AreBytes image → (is : IsFrontOf image f) → IsBased (begun (front_at is.head image) image)
unfolding begun front_in_image standing_header front_at phdrs_at shdrs_at phdrs_bytes shdrs_bytes
made_based writes image f are is =
    let h = is.head.header in
    let size = sizes is.head.header.class in
    let long = is.long in
    let lies = tables_lie image is.head is.counts is.late in
    let back = header_back writes image f are is in
    let header = taken_stands image (ehdr_bytes is.head.header is.head.pad) 0 (ehdr_size is.class) back (ap length back ∙ length-take-le (ehdr_size is.class) image long) in
    let segments = table_back (phdr_of is.head.header.class is.head.header.order) (phdr_bytes is.head.header.class is.head.header.order) (phdr_size is.head.header.class) is.head.header.phoff is.head.counts.phnum image (writes.phdr is.head.header.class is.head.header.order) size.1 are lies.segments in
    let table = table_back (shdr_of is.head.header.class is.head.header.order) (shdr_bytes is.head.header.class is.head.header.order) (shdr_size is.head.header.class) is.head.header.shoff is.head.counts.shnum image (writes.shdr is.head.header.class is.head.header.order) size.2 are (λ some. lies.table) in
    record {
      header = λ clean. header;
      segments = λ clean. segments;
      table = λ clean. table;
      homes = All-map (HomeStands image) (opened_section image) (items_of (shdr_of is.head.header.class is.head.header.order) (shdr_size is.head.header.class) is.head.counts.shnum (take (is.head.counts.shnum * shdr_size is.head.header.class) (drop is.head.header.shoff image)))
          (λ i d inside. home_stands image (get_or (items_of (shdr_of is.head.header.class is.head.header.order) (shdr_size is.head.header.class) is.head.counts.shnum (take (is.head.counts.shnum * shdr_size is.head.header.class) (drop is.head.header.shoff image))) i d));
    }

begun_based : (writes : WritesBack) (image : List ℕ) (f : Front) → AreBytes image → front image ≡ Ok f → IsBased (begun f image)
begun_based writes image f are h =
    let is = front_known image f h in
    let P : Front → Type 0 = λ x. IsBased (begun x image) in
    subst P (sym is.whole) (made_based writes image f are is)

opened_based : (writes : WritesBack) (image : List ℕ) (o : Object) → AreBytes image → opened image ≡ Ok o → IsBased o
unfolding opened
opened_based writes image o are made = by_front (front image) refl made
  where
    by_front : (r : Result Front ElfError) → front image ≡ r → begun_or_refused r image ≡ Ok o → IsBased o
    by_front (Ok f) front e = let same : begun f image ≡ o = cc in subst IsBased same (begun_based writes image f are front)
    by_front (Err x) front e = cc

created_based : (class : Class) (order : Order) (base : List ℕ) → IsBased (created_over class order base)
unfolding created_over
created_based class order base = record {
  header = λ clean. refl;
  segments = λ clean. refl;
  table = λ clean. refl;
  homes = All-nil (HomeStands base);
}

pub beginnings_are_based : WritesBack → BeginningsAreBased
beginnings_are_based writes = record { from_image = opened_based writes; from_nothing = created_based }
