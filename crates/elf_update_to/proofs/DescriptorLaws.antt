-- The parts of a descriptor, one by one.
use Rattle.std.proofs.Common.{◌≡◌, ℕ, zero, suc, ◌+◌, ◌*◌, ◌<◌, ◌≤◌, List, [], ◌∷◌, length, take, drop, get_or, refl, sym, ap, ◌∙◌, subst, arith}
use Rattle.elf_types.specs.declared.records.Ehdr.{Ehdr}
use Rattle.elf_types.specs.declared.records.Part.{Part}
use Rattle.elf_update_plan.specs.elf_xlate.Headers.{ehdr_size, phdr_size, shdr_size}
use Rattle.elf_update_plan.specs.elf_object.Object.{Object, header_of}
use Rattle.elf_update_plan.specs.elf_object.Image.{front_blocks}
use Rattle.elf_update_plan.specs.elf_object.Valid.{IsObject}
use Rattle.elf_update_to.specs.declared.parts.PieceExtent.{PieceExtent}
use Rattle.elf_update_to.specs.declared.parts.Origin.{Origin}
use Rattle.elf_update_to.specs.declared.parts.Origin.TheVariants.{Piece, Base}
use Rattle.elf_update_to.specs.Origins.{absent_piece, origin_bytes, ReadyFor, IsExtent}
use Rattle.elf_update_to.specs.Descriptors.{stored_pieces, HasStoredPlaces}
use Rattle.elf_update_to.proofs.FrontLaws.{sized_back, header_long, segments_long, table_long}

-- ---- Lengths of the ELF header and the tables

pub header_len : (q : Object) (h : Ehdr) (n : ℕ) → IsObject q → h ≡ header_of q
    → n ≡ ehdr_size h.class → n ≡ length (front_blocks q).header.bytes
header_len q h n object is long =
    let size = sized_back ehdr_size q h n is long in
    let all = header_long q object in
    omega (arith, size, all)

pub segments_len : (q : Object) (h : Ehdr) (count size : ℕ) → h ≡ header_of q
    → count ≡ length q.phdrs → size ≡ phdr_size h.class
    → count * size ≡ length (front_blocks q).segments.bytes
segments_len q h count size is all long =
    let each = sized_back phdr_size q h size is long in
    let same : count * size ≡ length q.phdrs * phdr_size q.header.class = ap (λ (n : ℕ). n * size)
    all ∙ ap (λ (n : ℕ). length q.phdrs * n) each in
    let bytes = segments_long q in
    omega (arith, same, bytes)

pub table_len : (q : Object) (h : Ehdr) (count size : ℕ) → h ≡ header_of q
    → count ≡ length q.sections → size ≡ shdr_size h.class
    → count * size ≡ length (front_blocks q).table.bytes
table_len q h count size is all long =
    let each = sized_back shdr_size q h size is long in
    let same : count * size ≡ length q.sections * shdr_size q.header.class =
    ap (λ (n : ℕ). n * size) all ∙ ap (λ (n : ℕ). length q.sections * n) each in
    let bytes = table_long q in
    omega (arith, same, bytes)

-- ---- By what a part is

pub count_as : (o : Object) (a b : Part) (n : ℕ) → a ≡ b → n ≡ length (stored_pieces o b)
    → n ≡ length (stored_pieces o a)
count_as o a b n is count = count ∙ sym (ap (λ (p : Part). length (stored_pieces o p)) is)

pub there_as : (o : Object) (a b : Part) (i : ℕ) → a ≡ b → i < length (stored_pieces o a)
    → i < length (stored_pieces o b)
there_as o a b i is there = subst (λ (p : Part). i < length (stored_pieces o p)) is there

pub extent_as : (o : Object) (a b : Part) (i : ℕ) (extent : PieceExtent) → a ≡ b
    → IsExtent extent (get_or (stored_pieces o b) i absent_piece)
    → IsExtent extent (get_or (stored_pieces o a) i absent_piece)
extent_as o a b i extent is there =
    subst (λ (p : Part). IsExtent extent (get_or (stored_pieces o p) i absent_piece)) (sym is) there

pub within_as : (o : Object) (a b : Part) (p n : ℕ) → a ≡ b → n ≤ length (get_or (stored_pieces o a) p absent_piece).1
    → n ≤ length (get_or (stored_pieces o b) p absent_piece).1
within_as o a b p n is there = subst (λ (x : Part). n ≤ length (get_or (stored_pieces o x) p absent_piece).1) is there

pub copied_as : (o : Object) (a b : Part) (p from n : ℕ) (out : List ℕ) → a ≡ b
    → out ≡ take n (drop from (get_or (stored_pieces o b) p absent_piece).1)
    → out ≡ take n (drop from (get_or (stored_pieces o a) p absent_piece).1)
copied_as o a b p from n out is put =
    subst (λ (x : Part). out ≡ take n (drop from (get_or (stored_pieces o x) p absent_piece).1))
    (sym is) put

-- ---- Of one piece

pub one_extent : (bytes : List ℕ) (i : ℕ) (extent : PieceExtent) → i < 1 → extent.align ≡ 1 → extent.len ≡ length bytes
    → IsExtent extent (get_or ((1, bytes) ∷ []) i absent_piece)
one_extent bytes zero extent there align len = record { align = align; len = len }
one_extent bytes (suc i) extent there align len = absurd (omega (arith, there))

one_is : (bytes : List ℕ) (p from n : ℕ) → 0 < n → from + n ≤ length (get_or ((1, bytes) ∷ []) p absent_piece).1
    → (get_or ((1, bytes) ∷ []) p absent_piece).1 ≡ bytes
one_is bytes zero from n some there = refl
one_is bytes (suc p) from n some there = absurd (omega (arith, some, there))

pub one_within : (bytes : List ℕ) (p from n : ℕ) → 0 < n
    → from + n ≤ length (get_or ((1, bytes) ∷ []) p absent_piece).1 → from + n ≤ length bytes
one_within bytes p from n some there =
    let long = ap (λ (l : List ℕ). length l) (one_is bytes p from n some there) in omega (arith, long, there)

pub one_copied : (bytes : List ℕ) (p from n : ℕ) (out : List ℕ) → 0 < n
    → from + n ≤ length (get_or ((1, bytes) ∷ []) p absent_piece).1
    → out ≡ take n (drop from bytes) → out ≡ take n (drop from (get_or ((1, bytes) ∷ []) p absent_piece).1)
one_copied bytes p from n out some there put =
    put ∙ ap (λ (l : List ℕ). take n (drop from l)) (sym (one_is bytes p from n some there))

-- a part that has one piece
pub front_piece_within : (o : Object) (of front : Part) (bytes : List ℕ) (p from n : ℕ) → of ≡ front
    → stored_pieces o front ≡ (1, bytes) ∷ [] → 0 < n
    → from + n ≤ length (get_or (stored_pieces o of) p absent_piece).1 → from + n ≤ length bytes
front_piece_within o of front bytes p from n is one some there =
    one_within bytes p from n some
    (subst (λ (l : List (ℕ × List ℕ)). from + n ≤ length (get_or l p absent_piece).1) one
    (within_as o of front p (from + n) is there))

pub front_piece_copied : (o : Object) (of front : Part) (bytes : List ℕ) (p from n : ℕ) (out : List ℕ)
    → of ≡ front → stored_pieces o front ≡ (1, bytes) ∷ [] → 0 < n
    → from + n ≤ length (get_or (stored_pieces o of) p absent_piece).1
    → out ≡ take n (drop from bytes)
    → out ≡ take n (drop from (get_or (stored_pieces o of) p absent_piece).1)
front_piece_copied o of front bytes p from n out is one some there put =
    copied_as o of front p from n out is
    (subst (λ (l : List (ℕ × List ℕ)). out ≡ take n (drop from (get_or l p absent_piece).1)) (sym one)
    (one_copied bytes p from n out some
    (subst (λ (l : List (ℕ × List ℕ)). from + n ≤ length (get_or l p absent_piece).1) one
    (within_as o of front p (from + n) is there)) put))

-- of a part without pieces no byte is copied
pub none_within : (p from n : ℕ) → 0 < n → from + n ≤ length (get_or [] p absent_piece).1 → ⊥
none_within p from n some there = absurd (omega (arith, some, there))

-- a copy of no bytes
pub empty_copied : (out bytes : List ℕ) (from : ℕ) → length out ≡ 0 → out ≡ take (length out) (drop from bytes)
empty_copied [] bytes from none = refl
empty_copied (x ∷ l) bytes from none = absurd (omega (arith, none))

-- ---- By where bytes come from

pub origin_ready : (o : Object) (of : Origin) (part : Part) (p : ℕ) → of ≡ Piece part p
    → ReadyFor (HasStoredPlaces o) of → HasStoredPlaces o
origin_ready o of part p is ready = subst (λ (x : Origin). ReadyFor (HasStoredPlaces o) x) is ready

pub origin_within : (o : Object) (of : Origin) (part : Part) (p n : ℕ) → of ≡ Piece part p
    → n ≤ length (origin_bytes (stored_pieces o) o.base of)
    → n ≤ length (get_or (stored_pieces o part) p absent_piece).1
origin_within o of part p n is there =
    subst (λ (x : Origin). n ≤ length (origin_bytes (stored_pieces o) o.base x)) is there

pub base_within : (o : Object) (of : Origin) (n : ℕ) → of ≡ Base
    → n ≤ length (origin_bytes (stored_pieces o) o.base of) → n ≤ length o.base
base_within o of n is there = subst (λ (x : Origin). n ≤ length (origin_bytes (stored_pieces o) o.base x)) is there
