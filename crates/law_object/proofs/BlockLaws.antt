-- What is known of blocks and of the bytes that are spread from them.
use Rattle.std.proofs.Common.{◌≡◌, ℕ, zero, suc, ◌+◌, ◌-◌, ◌<◌, ◌≤◌, Bool, true, false, ◌||◌, List, [], ◌∷◌, length, take, drop, get_or, refl, sym, ap, ◌∙◌, subst, arith}
use Rattle.std.specs.Prelude.{nat_le, nat_lt, if◌then◌else◌, slice_get, Some}
use Rattle.std.specs.List.{AllByRecursion}
use Rattle.std.proofs.lemmas.List.{length-drop, get_or-take, get_or-drop, length-take-le, ext_get_or}
use Rattle.std.proofs.lemmas.Bool.{le-leb, lt-ltb}
use Rattle.std.proofs.lemmas.List.FromFn.{length-map-range_with_len, get_or-map-range_with_len, take-map-range_with_len}
use Rattle.elf_object.specs.Blocks.{Block, block_end, block_covers, is_covered, byte_over, spread}

-- so many bytes
pub length-spread : (n : ℕ) (otherwise : ℕ → ℕ) (blocks : List Block) → length (spread n otherwise blocks) ≡ n
unfolding spread
length-spread n otherwise blocks = length-map-range_with_len (byte_over otherwise blocks) 0 n

-- each of them
pub get_or-spread : (n : ℕ) (otherwise : ℕ → ℕ) (blocks : List Block) (k : ℕ) → k < n → get_or (spread n otherwise blocks) k 0 ≡ byte_over otherwise blocks k
unfolding spread
get_or-spread n otherwise blocks k h = get_or-map-range_with_len (byte_over otherwise blocks) 0 n k k 0 h (omega arith)

-- a front of them
pub take-spread : (n : ℕ) (otherwise : ℕ → ℕ) (blocks : List Block) (k : ℕ) → k ≤ n → take k (spread n otherwise blocks) ≡ spread k otherwise blocks
unfolding spread
take-spread n otherwise blocks k h = take-map-range_with_len (byte_over otherwise blocks) 0 n k h

-- no place is covered by both
abbrev pub AreApart : Block → Block → Type 0
AreApart a b = (k : ℕ) → block_covers a k ≡ true → block_covers b k ≡ true → ⊥

-- of any two blocks
abbrev pub AllApart : List Block → Type 0
AllApart [] = Unit {0}
AllApart (b ∷ bs) = AllByRecursion (AreApart b) bs × AllApart bs

not_both : (c : Bool) → (c ≡ true → ⊥) → c ≡ false
not_both true h = absurd (h refl)
not_both false h = refl

-- blocks of which none block_covers the place
uncovered : (otherwise : ℕ → ℕ) (b : Block) (bs : List Block) (k : ℕ) → block_covers b k ≡ true → (i : ℕ) (c : Block) → slice_get bs i ≡ Some c → AllByRecursion (AreApart b) bs → block_covers c k ≡ false
uncovered otherwise b [] k here i c at apart = cc
uncovered otherwise b (d ∷ bs) k here zero c at apart =
    let same : d ≡ c = cc in
    let R : Block → Type 0 = λ x. block_covers x k ≡ false in
    subst R same (not_both (block_covers d k) (λ h. apart.0 k here h))
uncovered otherwise b (d ∷ bs) k here (suc i) c at apart = uncovered otherwise b bs k here i c at apart.1

not_first : (b : Bool) (x y : ℕ) → b ≡ false → (if b then x else y) ≡ y
not_first true x y h = cc
not_first false x y h = refl

first : (b : Bool) (x y : ℕ) → b ≡ true → (if b then x else y) ≡ x
first true x y h = refl
first false x y h = cc

-- a block block_covers the places from its own on
pub covers_at : (b : Block) (j : ℕ) → j < length b.bytes → block_covers b (b.at + j) ≡ true
unfolding block_end block_covers
covers_at b j h =
    let from : nat_le b.at (b.at + j) ≡ true = le-leb (b.at) (b.at + j) (omega arith) in
    let below : nat_lt (b.at + j) (b.at + length b.bytes) ≡ true = lt-ltb (b.at + j) (b.at + length b.bytes) (omega arith) in
    rw (from, below) refl

-- where blocks are apart, a place that one block_covers has its byte
pub byte_over_at : (otherwise : ℕ → ℕ) (bs : List Block) (i : ℕ) (b : Block) (k : ℕ) → AllApart bs → slice_get bs i ≡ Some b → block_covers b k ≡ true → byte_over otherwise bs k ≡ get_or b.bytes (k - b.at) 0
unfolding byte_over
byte_over_at otherwise [] i b k apart at here = cc
byte_over_at otherwise (d ∷ bs) zero b k apart at here =
    let same : d ≡ b = cc in
    let R : Block → Type 0 = λ x. block_covers x k ≡ true → (if block_covers x k then get_or x.bytes (k - x.at) 0 else byte_over otherwise bs k) ≡ get_or b.bytes (k - b.at) 0 in
    subst R (sym same) (λ h. first (block_covers b k) (get_or b.bytes (k - b.at) 0) (byte_over otherwise bs k) h) (subst (λ (x : Block). block_covers x k ≡ true) (sym same) here)
byte_over_at otherwise (d ∷ bs) (suc i) b k apart at here =
    let no : block_covers d k ≡ false = not_both (block_covers d k) (λ h. let clash : false ≡ true = sym (uncovered otherwise d bs k h i b at apart.0) ∙ here in cc) in
    not_first (block_covers d k) (get_or d.bytes (k - d.at) 0) (byte_over otherwise bs k) no ∙ byte_over_at otherwise bs i b k apart.1 at here

-- where a block is covered by no other, a run of places that it block_covers has its bytes
pub take-drop-spread : (n : ℕ) (otherwise : ℕ → ℕ) (bs : List Block) (i : ℕ) (b : Block) → AllApart bs → slice_get bs i ≡ Some b → block_end b ≤ n → take (length b.bytes) (drop b.at (spread n otherwise bs)) ≡ b.bytes
unfolding block_end block_covers
take-drop-spread n otherwise bs i b apart at fits =
    let whole = length-spread n otherwise bs in
    let rest : length (drop b.at (spread n otherwise bs)) ≡ n - b.at = length-drop b.at (spread n otherwise bs) ∙ ap (λ (m : ℕ). m - b.at) whole in
    let len : length (take (length b.bytes) (drop b.at (spread n otherwise bs))) ≡ length b.bytes = length-take-le (length b.bytes) (drop b.at (spread n otherwise bs)) (omega arith) in
    ext_get_or 0 (take (length b.bytes) (drop b.at (spread n otherwise bs))) b.bytes len (λ j h.
    let below : j < length b.bytes = omega (arith, h, len) in
    let inside : b.at + j < n = omega arith in
    get_or-take (length b.bytes) (drop b.at (spread n otherwise bs)) j 0 below
    ∙ get_or-drop b.at (spread n otherwise bs) j 0
    ∙ get_or-spread n otherwise bs (b.at + j) inside
    ∙ byte_over_at otherwise bs i b (b.at + j) apart at (covers_at b j below)
    ∙ ap (λ (m : ℕ). get_or b.bytes m 0) (omega arith))

-- what stands elsewhere counts only where no block block_covers the place
pub byte_over-otherwise : (f g : ℕ → ℕ) (bs : List Block) (k : ℕ) → (is_covered bs k ≡ false → f k ≡ g k) → byte_over f bs k ≡ byte_over g bs k
unfolding byte_over is_covered
byte_over-otherwise f g [] k same = same refl
byte_over-otherwise f g (b ∷ bs) k same = by_test (block_covers b k) refl (byte_over-otherwise f g bs k)
  where
    both_out : block_covers b k ≡ false → is_covered bs k ≡ false → is_covered (b ∷ bs) k ≡ false
    both_out here rest = rw here rest

    by_test : (c : Bool) → block_covers b k ≡ c → ((is_covered bs k ≡ false → f k ≡ g k) → byte_over f bs k ≡ byte_over g bs k) → (if c then get_or b.bytes (k - b.at) 0 else byte_over f bs k) ≡ (if c then get_or b.bytes (k - b.at) 0 else byte_over g bs k)
    by_test true e rest = refl
    by_test false e rest = rest (λ none. same (both_out e none))

-- a place that no block block_covers has the other byte
pub byte_over-uncovered : (otherwise : ℕ → ℕ) (bs : List Block) (k : ℕ) → is_covered bs k ≡ false → byte_over otherwise bs k ≡ otherwise k
unfolding byte_over is_covered
byte_over-uncovered otherwise [] k none = refl
byte_over-uncovered otherwise (b ∷ bs) k none =
    let both = neither (block_covers b k) (is_covered bs k) none in
    not_first (block_covers b k) (get_or b.bytes (k - b.at) 0) (byte_over otherwise bs k) both.0 ∙ byte_over-uncovered otherwise bs k both.1
  where
    neither : (x y : Bool) → (x || y) ≡ false → (x ≡ false) × (y ≡ false)
    neither true y h = cc
    neither false y h = (refl, h)

-- bytes that are spread alike
pub spread-same : (n : ℕ) (f g : ℕ → ℕ) (bs : List Block) → ((k : ℕ) → k < n → is_covered bs k ≡ false → f k ≡ g k) → spread n f bs ≡ spread n g bs
spread-same n f g bs same =
    let left = length-spread n f bs in
    let right = length-spread n g bs in
    ext_get_or 0 (spread n f bs) (spread n g bs) (left ∙ sym right) (λ k h.
    get_or-spread n f bs k (omega arith) ∙ byte_over-otherwise f g bs k (same k (omega arith)) ∙ sym (get_or-spread n g bs k (omega arith)))
