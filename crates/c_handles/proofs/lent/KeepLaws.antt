-- What each call of a device keeps, and how a range after writes is read.
use Rattle.std.proofs.Common.{◌≡◌, ◌+◌, ◌-◌, ◌<◌, ◌≤◌, ℕ, Some, Result, Ok, Err, OnOk, List, [], ◌∷◌, ◌++◌, length, take, drop, replicate, slice_index_or, slice_set, sym, ap, ◌∙◌, append_assoc, arith}
use Rattle.std.proofs.lemmas.List.{take_more, drop_more, drop_all, take_at, get_or-drop, append-nil, set-append_right, length-take-le, length-drop, length-replicate}
use Rattle.elf_outside.specs.Counts.{RaisedBy}
use Rattle.elf_outside.specs.Writes.{written_over, resized, WritesOver, Resizes, Lengthens}
use Rattle.c_handles.specs.declared.lent.loan.Loan.{Loan}
use Rattle.c_handles.specs.declared.lent.writes.KeptWrite.{KeptWrite}
use Rattle.c_handles.specs.Lent.Writes.{with_write, with_writes, bytes_put}
use Rattle.c_handles.proofs.lent.WriteLaws.{with_pushed, put_pushed, resized_same, resized_longer, length_resized}

on_ok : {T E P Q : Type 0} (r : Result T E) → OnOk r P → (P → Q) → OnOk r Q
on_ok (Ok x) is f = f is
on_ok (Err e) is f = tt

on_both : {T E P Q R : Type 0} (r : Result T E) → OnOk r P → OnOk r Q → (P → Q → R) → OnOk r R
on_both (Ok x) is has f = f is has
on_both (Err e) is has f = tt

-- ---- What is kept

-- a write that keeps the length puts its bytes over what is there
pub puts_over : (ws new : List KeptWrite) (bytes : List ℕ) (n at : ℕ) (piece : List ℕ)
    → n ≡ length (with_writes ws bytes)
    → new ≡ ws ++ (record { size = n; at = at; bytes = piece }) ∷ []
    → with_writes new bytes ≡ written_over (with_writes ws bytes) at piece
unfolding with_write
puts_over ws new bytes n at piece long is =
    ap (λ (l : List KeptWrite). with_writes l bytes) is
    ∙ with_pushed ws (record { size = n; at = at; bytes = piece }) bytes
    ∙ ap (λ (l : List ℕ). written_over l at piece) (resized_same n (with_writes ws bytes) long)

-- one of no bytes sets the length
pub sets_length : (ws new : List KeptWrite) (bytes : List ℕ) (n : ℕ)
    → new ≡ ws ++ (record { size = n; at = 0; bytes = [] }) ∷ []
    → with_writes new bytes ≡ resized n (with_writes ws bytes)
unfolding with_write
sets_length ws new bytes n is =
    ap (λ (l : List KeptWrite). with_writes l bytes) is
    ∙ with_pushed ws (record { size = n; at = 0; bytes = [] }) bytes

-- one of no bytes that makes it longer puts zeros behind it
pub appends_zeros : (ws new : List KeptWrite) (bytes : List ℕ) (n old more : ℕ)
    → old ≡ length (with_writes ws bytes) → n ≡ old + more
    → new ≡ ws ++ (record { size = n; at = 0; bytes = [] }) ∷ []
    → with_writes new bytes ≡ with_writes ws bytes ++ replicate more 0
appends_zeros ws new bytes n old more long longer is =
    sets_length ws new bytes n is
    ∙ resized_longer n more (with_writes ws bytes)
    (longer ∙ ap (λ (k : ℕ). k + more) long)

-- one that makes it longer by its bytes puts them behind it
pub appends_bytes : (ws new : List KeptWrite) (bytes : List ℕ) (n old : ℕ) (piece : List ℕ)
    → old ≡ length (with_writes ws bytes) → n ≡ old + length piece
    → new ≡ ws ++ (record { size = n; at = old; bytes = piece }) ∷ []
    → with_writes new bytes ≡ with_writes ws bytes ++ piece
unfolding with_write
appends_bytes ws new bytes n old piece long longer is =
    let was : List ℕ = with_writes ws bytes in
    let zeros : List ℕ = replicate (length piece) 0 in
    let whole : resized n was ≡ was ++ zeros =
    resized_longer n (length piece) was (longer ∙ ap (λ (k : ℕ). k + length piece) long) in
    let wide : length (was ++ zeros) ≡ n =
    ap (λ (l : List ℕ). length l) (sym whole) ∙ length_resized n was in
    let past : length (was ++ zeros) ≤ old + length piece = omega (arith, wide, longer) in
    ap (λ (l : List KeptWrite). with_writes l bytes) is
    ∙ with_pushed ws (record { size = n; at = old; bytes = piece }) bytes
    ∙ ap (λ (l : List ℕ). written_over l old piece) whole
    ∙ ap (λ (l : List ℕ). (l ++ piece) ++ drop (old + length piece) (was ++ zeros))
    (take_at was zeros old (sym long))
    ∙ ap (λ (l : List ℕ). (was ++ piece) ++ l)
    (drop_all (old + length piece) (was ++ zeros) past)
    ∙ append-nil (was ++ piece)

-- ---- What a call says of it

-- so many bytes more are given
pub raised_by_put : (lost now : ℕ) (ws new : List KeptWrite) (w : KeptWrite) → now ≡ lost
    → new ≡ ws ++ w ∷ [] → RaisedBy (lost + bytes_put ws) (now + bytes_put new) (length w.bytes)
raised_by_put lost now ws new w same is =
    let put : bytes_put new ≡ bytes_put ws + length w.bytes =
    ap (λ (l : List KeptWrite). bytes_put l) is ∙ put_pushed ws w in
    record {
      later = omega (arith, put, same);
      no_more = omega (arith, put, same);
      exact = λ small. omega (arith, put, same);
    }

module _ {T E : Type 0} (r : Result T E) (ws new : List KeptWrite) (loan left : Loan)
    (same : left ≡ loan) where
  there : with_writes new left.bytes ≡ with_writes new loan.bytes
  there = ap (λ (l : Loan). with_writes new l.bytes) same

  pub wrote_over : (n at : ℕ) (piece : List ℕ) → n ≡ length (with_writes ws loan.bytes)
      → OnOk r (new ≡ ws ++ (record { size = n; at = at; bytes = piece }) ∷ [])
      → OnOk r (WritesOver (Some (with_writes ws loan.bytes)) (Some (with_writes new left.bytes))
      at piece)
  wrote_over n at piece long kept =
      on_ok r kept (λ is. ap Some (there ∙ puts_over ws new loan.bytes n at piece long is))

  pub resizes : (n size now : ℕ)
      → OnOk r (new ≡ ws ++ (record { size = n; at = 0; bytes = [] }) ∷ [])
      → OnOk r (now ≡ n)
      → OnOk r (Resizes size now (Some (with_writes ws loan.bytes))
      (Some (with_writes new left.bytes)) n)
  resizes n size now kept sized =
      on_both r kept sized (λ is long. record {
        len = long;
        bytes = ap Some (there ∙ sets_length ws new loan.bytes n is);
      })

  pub lengthens : (n size now : ℕ) (piece : List ℕ) → size ≡ length (with_writes ws loan.bytes)
      → n ≡ size + length piece
      → OnOk r (new ≡ ws ++ (record { size = n; at = size; bytes = piece }) ∷ [])
      → OnOk r (now ≡ n)
      → OnOk r (Lengthens size now (Some (with_writes ws loan.bytes))
      (Some (with_writes new left.bytes)) piece)
  lengthens n size now piece long longer kept sized =
      on_both r kept sized (λ is end. record {
        len = end ∙ longer;
        bytes = ap Some (there ∙ appends_bytes ws new loan.bytes n size piece long longer is);
      })

  pub lengthens_by_zeros : (n size now more : ℕ) → size ≡ length (with_writes ws loan.bytes)
      → n ≡ size + more
      → OnOk r (new ≡ ws ++ (record { size = n; at = 0; bytes = [] }) ∷ [])
      → OnOk r (now ≡ n)
      → OnOk r (Lengthens size now (Some (with_writes ws loan.bytes))
      (Some (with_writes new left.bytes)) (replicate more 0))
  lengthens_by_zeros n size now more long longer kept sized =
      let none : ℕ = 0 in
      on_both r kept sized (λ is end. record {
        len = end ∙ longer ∙ ap (λ (k : ℕ). size + k) (sym (length-replicate more none));
        bytes = ap Some (there ∙ appends_zeros ws new loan.bytes n size more long longer is);
      })

-- ---- What is read

-- a buffer whose front is filled, with one byte more
pub fills_more : (xs old buf : List ℕ) (at i byte : ℕ)
    → buf ≡ take i (drop at xs) ++ drop i old → i < length old
    → at + length old ≤ length xs → byte ≡ slice_index_or xs (at + i) 0
    → slice_set buf i byte ≡ take (i + 1) (drop at xs) ++ drop (i + 1) old
fills_more xs old buf at i byte is below within read =
    let left : List ℕ = drop (i + 1) old in
    let rest : length (drop at xs) ≡ length xs - at = length-drop at xs in
    let own : slice_index_or (drop at xs) i 0 ≡ byte = get_or-drop at xs i 0 ∙ sym read in
    let at_seam : i - i ≡ 0 = omega arith in
    let front : length (take i (drop at xs)) ≡ i =
    length-take-le i (drop at xs) (omega (arith, rest)) in
    ap (λ (l : List ℕ). slice_set l i byte)
    (is ∙ ap (λ (l : List ℕ). take i (drop at xs) ++ l) (drop_more old i 0 below))
    ∙ set-append_right (take i (drop at xs)) (slice_index_or old i 0 ∷ drop (i + 1) old) i i byte
    front (omega arith)
    ∙ ap (λ (k : ℕ). take i (drop at xs) ++ slice_set (slice_index_or old i 0 ∷ left) k byte) at_seam
    ∙ sym (ap (λ (l : List ℕ). l ++ left)
    (take_more (drop at xs) i 0 (omega (arith, rest))
    ∙ ap (λ (b : ℕ). take i (drop at xs) ++ b ∷ []) own)
    ∙ append_assoc (take i (drop at xs)) (byte ∷ []) left)
