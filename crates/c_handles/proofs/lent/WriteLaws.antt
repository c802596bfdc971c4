-- What kept writes make of bytes.
use Rattle.std.proofs.Common.{◌≡◌, ◌+◌, ◌-◌, ◌^◌, ◌<◌, ◌≤◌, ℕ, List, [], ◌∷◌, ◌++◌, Some, None, inl, inr, length, take, drop, replicate, slice_index_or, refl, sym, ap, ◌∙◌, arith}
use Rattle.std.specs.List.{slice_get}
use Rattle.std.proofs.lemmas.Bool.{cases_lt}
use Rattle.std.proofs.lemmas.Grind.{common_steps}
use Rattle.std.proofs.lemmas.Option.{slice_get_cases}
use Rattle.std.proofs.lemmas.List.{take_more, take_all, append-nil, length-append, length-take, length-drop, length-replicate}
use Rattle.std.proofs.lemmas.List.Elements.{All-append, All-take, All-drop, All-replicate, All-push}
use Rattle.std.proofs.lemmas.List.Sums.{fold_push, sum_by_push}
use Rattle.elf_types.specs.Lists.{AreBytes}
use Rattle.elf_outside.specs.Writes.{written_over, resized}
use Rattle.c_handles.specs.declared.lent.writes.KeptWrite.{KeptWrite}
use Rattle.c_handles.specs.Lent.Writes.{with_write, with_writes, bytes_put, IsSoundWrite, AreSound}

-- ---- Lengths

pub length_resized : (n : ℕ) (bytes : List ℕ) → length (resized n bytes) ≡ n
length_resized n bytes =
    let none : ℕ = 0 in
    omega (
      arith,
      length-append (take n bytes) (replicate (n - length bytes) 0),
      length-take n bytes,
      length-replicate (n - length bytes) none,
    )

pub resized_same : (n : ℕ) (bytes : List ℕ) → n ≡ length bytes → resized n bytes ≡ bytes
resized_same n bytes same =
    let none : n - length bytes ≡ 0 = omega arith in
    ap (λ (l : List ℕ). l ++ replicate (n - length bytes) 0) (take_all n bytes (omega arith))
    ∙ ap (λ (k : ℕ). bytes ++ replicate k 0) none ∙ append-nil bytes

pub resized_longer : (n more : ℕ) (bytes : List ℕ) → n ≡ length bytes + more
    → resized n bytes ≡ bytes ++ replicate more 0
resized_longer n more bytes same =
    let left : n - length bytes ≡ more = omega arith in
    ap (λ (l : List ℕ). l ++ replicate (n - length bytes) 0) (take_all n bytes (omega arith))
    ∙ ap (λ (k : ℕ). bytes ++ replicate k 0) left

length_over : (bytes : List ℕ) (at : ℕ) (piece : List ℕ) → at + length piece ≤ length bytes
    → length (written_over bytes at piece) ≡ length bytes
length_over bytes at piece within =
    omega (
      arith,
      length-append (take at bytes ++ piece) (drop (at + length piece) bytes),
      length-append (take at bytes) piece,
      length-take at bytes,
      length-drop (at + length piece) bytes,
    )

pub length_with_write : (bytes : List ℕ) (w : KeptWrite) → IsSoundWrite w
    → length (with_write bytes w) ≡ w.size
unfolding with_write
length_with_write bytes w sound =
    length_over (resized w.size bytes) w.at w.bytes
    (omega (arith, length_resized w.size bytes, sound.lies))
    ∙ length_resized w.size bytes

-- ---- Bytes at places

resized_at : (n : ℕ) (bytes : List ℕ) (k : ℕ) → k < n
    → slice_index_or (resized n bytes) k 0 ≡ slice_index_or bytes k 0
resized_at n bytes k below = grind (arith, common_steps)

over_before : (bytes : List ℕ) (at : ℕ) (piece : List ℕ) (k : ℕ)
    → at + length piece ≤ length bytes → k < at
    → slice_index_or (written_over bytes at piece) k 0 ≡ slice_index_or bytes k 0
over_before bytes at piece k within before = grind (arith, common_steps)

over_inside : (bytes : List ℕ) (at : ℕ) (piece : List ℕ) (k : ℕ)
    → at + length piece ≤ length bytes → at ≤ k → k < at + length piece
    → slice_index_or (written_over bytes at piece) k 0 ≡ slice_index_or piece (k - at) 0
over_inside bytes at piece k within from to = grind (arith, common_steps)

over_behind : (bytes : List ℕ) (at : ℕ) (piece : List ℕ) (k : ℕ)
    → at + length piece ≤ length bytes → at + length piece ≤ k
    → slice_index_or (written_over bytes at piece) k 0 ≡ slice_index_or bytes k 0
over_behind bytes at piece k within behind = grind (arith, common_steps)

-- where a list has no item, it has ended
pub slice_get_missed : {X : Type 0} (xs : List X) (i : ℕ) → slice_get xs i ≡ None → length xs ≤ i
slice_get_missed xs i missed =
    elim (cases_lt i (length xs)) [
      | inl below ↦ elim (slice_get_cases xs i).1 [
        | inl found ↦ let none : None ≡ Some found.0 = sym missed ∙ found.2 in cc
        | inr past ↦ past.0
      ]
      | inr past ↦ past
    ]

module _ (bytes : List ℕ) (w : KeptWrite) (sound : IsSoundWrite w) (k : ℕ) where
  fits : w.at + length w.bytes ≤ length (resized w.size bytes)
  fits = omega (arith, length_resized w.size bytes, sound.lies)

  pub past_write : w.size ≤ k → 0 ≡ slice_index_or (with_write bytes w) k 0
  past_write past =
      sym (grind (arith, common_steps, length_with_write bytes w sound, past))

  pub before_write : (byte : ℕ) → k < w.size → k < w.at → byte ≡ slice_index_or bytes k 0
      → byte ≡ slice_index_or (with_write bytes w) k 0
  unfolding with_write
  before_write byte below before is =
      is ∙ sym (over_before (resized w.size bytes) w.at w.bytes k fits before
      ∙ resized_at w.size bytes k below)

  pub inside_write : (byte : ℕ) → w.at ≤ k → k < w.at + length w.bytes
      → byte ≡ slice_index_or w.bytes (k - w.at) 0
      → byte ≡ slice_index_or (with_write bytes w) k 0
  unfolding with_write
  inside_write byte from to is =
      is ∙ sym (over_inside (resized w.size bytes) w.at w.bytes k fits from to)

  pub behind_write : (byte : ℕ) → k < w.size → w.at + length w.bytes ≤ k
      → byte ≡ slice_index_or bytes k 0 → byte ≡ slice_index_or (with_write bytes w) k 0
  unfolding with_write
  behind_write byte below behind is =
      is ∙ sym (over_behind (resized w.size bytes) w.at w.bytes k fits behind
      ∙ resized_at w.size bytes k below)

-- ---- One more write

pub with_no_writes : (bytes : List ℕ) → with_writes [] bytes ≡ bytes
unfolding with_writes
with_no_writes bytes = refl

pub with_no_more : (ws : List KeptWrite) (bytes : List ℕ) → length ws ≡ 0
    → with_writes ws bytes ≡ bytes
with_no_more [] bytes none = with_no_writes bytes
with_no_more (w ∷ ws) bytes none = absurd (omega (arith, none))

pub with_pushed : (ws : List KeptWrite) (w : KeptWrite) (bytes : List ℕ)
    → with_writes (ws ++ w ∷ []) bytes ≡ with_write (with_writes ws bytes) w
unfolding with_writes
with_pushed ws w bytes = fold_push with_write bytes ws w

pub with_one_more : (ws : List KeptWrite) (i : ℕ) (d : KeptWrite) (bytes : List ℕ)
    → i < length ws
    → with_writes (take (i + 1) ws) bytes
    ≡ with_write (with_writes (take i ws) bytes) (slice_index_or ws i d)
with_one_more ws i d bytes below =
    ap (λ (l : List KeptWrite). with_writes l bytes) (take_more ws i d below)
    ∙ with_pushed (take i ws) (slice_index_or ws i d) bytes

pub no_writes_put : bytes_put [] ≡ 0
unfolding bytes_put
no_writes_put = refl

pub put_pushed : (ws : List KeptWrite) (w : KeptWrite)
    → bytes_put (ws ++ w ∷ []) ≡ bytes_put ws + length w.bytes
unfolding bytes_put
put_pushed ws w = sum_by_push (λ (x : KeptWrite). length x.bytes) ws w

pub sound_pushed : (ws : List KeptWrite) (w : KeptWrite) → AreSound ws → IsSoundWrite w
    → AreSound (ws ++ w ∷ [])
sound_pushed ws w are is = All-push IsSoundWrite ws w are is

pub length_pushed : (ws : List KeptWrite) (w : KeptWrite) (bytes : List ℕ) → IsSoundWrite w
    → w.size ≡ length (with_writes (ws ++ w ∷ []) bytes)
length_pushed ws w bytes sound =
    sym (ap (λ (l : List ℕ). length l) (with_pushed ws w bytes)
    ∙ length_with_write (with_writes ws bytes) w sound)

-- ---- They are bytes

written_fits : (bytes : List ℕ) (w : KeptWrite) → IsSoundWrite w → AreBytes bytes
    → AreBytes (with_write bytes w)
unfolding with_write
written_fits bytes w sound are =
    let whole : AreBytes (resized w.size bytes) =
    All-append (λ n. n < 2 ^ 8) (take w.size bytes) (replicate (w.size - length bytes) 0)
    (All-take (λ n. n < 2 ^ 8) w.size bytes are)
    (All-replicate (λ n. n < 2 ^ 8) (w.size - length bytes) 0 (omega arith)) in
    All-append (λ n. n < 2 ^ 8) (take w.at (resized w.size bytes) ++ w.bytes)
    (drop (w.at + length w.bytes) (resized w.size bytes))
    (All-append (λ n. n < 2 ^ 8) (take w.at (resized w.size bytes)) w.bytes
    (All-take (λ n. n < 2 ^ 8) w.at (resized w.size bytes) whole) sound.fits)
    (All-drop (λ n. n < 2 ^ 8) (w.at + length w.bytes) (resized w.size bytes) whole)

pub write_bytes_small : (ws : List KeptWrite) (bytes : List ℕ) → AreSound ws → AreBytes bytes
    → AreBytes (with_writes ws bytes)
unfolding with_writes
write_bytes_small [] bytes sound are = are
write_bytes_small (w ∷ ws) bytes sound are =
    write_bytes_small ws (with_write bytes w) (All-drop IsSoundWrite 1 (w ∷ ws) sound)
    (written_fits bytes w (sound 0 w (omega arith)) are)
