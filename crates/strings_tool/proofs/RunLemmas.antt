-- The long runs of bytes, by what stands at their front.
use Rattle.std.proofs.Common.{◌-◌, length-drop, take_all, ◌≡◌, ◌+◌, ◌<◌, ◌≤◌, ◌++◌, ◌&&◌, ℕ, zero, suc, Bool, true, false, not, cond, nat_le, List, [], ◌∷◌, length, take, drop, filter, take_while, refl, sym, ap, ◌∙◌, subst, arith, drop-drop, append_assoc, get_or, drop-cons, take-append-drop, length-take-le, length-take, get_or-take}
use Rattle.std.specs.List.{prefix_len}
use Rattle.std.proofs.lemmas.List.{take-append-le}
use Rattle.std.proofs.lemmas.List.Elements.{filter-append}
use Rattle.std.proofs.lemmas.List.Folds.{length-prefix_len}
use Rattle.std.proofs.lemmas.List.Sums.{prefix_len-le-length}
use borrow.Author.Tests.{le-leb, lt-leb}
use Rattle.strings_tool.specs.Runs.{Run, is_printable, run_if, runs_after, long_runs}
use Rattle.strings_tool.specs.Skips.{Skips}

-- how many printable bytes stand at the front
abbrev pub front_len : List ℕ → ℕ
front_len bytes = prefix_len is_printable bytes

cond_grows : (q : Bool) (n m : ℕ) → n ≤ m → cond q (1 + n) 0 ≤ cond q (1 + m) 0
cond_grows true n m le = omega arith
cond_grows false n m le = omega arith

-- the front is no shorter where more bytes follow
pub front_grows : (r q : List ℕ) → front_len r ≤ front_len (r ++ q)
front_grows [] q = omega arith
front_grows (c ∷ r) q = cond_grows (is_printable c) (front_len r) (front_len (r ++ q)) (front_grows r q)

-- the rest of bytes, as a slice of them is written
pub rest_is : (bytes : List ℕ) (used : ℕ) → take (length bytes - used) (drop used bytes) ≡ drop used bytes
rest_is bytes used = take_all (length bytes - used) (drop used bytes) (omega (arith, length-drop used bytes))

abbrev pub rest_of : List ℕ → ℕ → List ℕ
rest_of bytes used = take (length bytes - used) (drop used bytes)

module _ (least : ℕ) where
  abbrev is_long : Run → Bool
  is_long r = nat_le least (length r.bytes)

  -- those whose first byte may go on a run
  abbrev pub long_after : Bool → ℕ → List ℕ → List Run
  long_after behind at bytes = filter is_long (runs_after behind at bytes)

  after_cons : (behind : Bool) (at b : ℕ) (bs : List ℕ)
      → long_after behind at (b ∷ bs) ≡ filter is_long (run_if (is_printable b && not behind) at (b ∷ bs)) ++ long_after (is_printable b) (at + 1) bs
  unfolding runs_after
  after_cons behind at b bs = filter-append is_long (run_if (is_printable b && not behind) at (b ∷ bs)) (runs_after (is_printable b) (at + 1) bs)

  -- a run that is too short
  none_if : (begins : Bool) (at : ℕ) (bytes : List ℕ) → front_len bytes < least → filter is_long (run_if begins at bytes) ≡ []
  none_if false at bytes short = refl
  none_if true at bytes short =
      let is : nat_le least (length (take_while is_printable bytes)) ≡ false = lt-leb _ _ (omega (arith, short, length-prefix_len is_printable bytes)) in
      rw is refl

  one_if : (at : ℕ) (bytes : List ℕ) → least ≤ front_len bytes
      → filter is_long (run_if true at bytes) ≡ record { at = at; bytes = take_while is_printable bytes } ∷ []
  one_if at bytes long =
      let is : nat_le least (length (take_while is_printable bytes)) ≡ true = le-leb _ _ (omega (arith, long, length-prefix_len is_printable bytes)) in
      rw is refl

  pub short_cons : (behind : Bool) (at b : ℕ) (bs : List ℕ) → front_len (b ∷ bs) < least → long_after behind at (b ∷ bs) ≡ long_after (is_printable b) (at + 1) bs
  short_cons behind at b bs short =
      after_cons behind at b bs ∙ ap (λ (rs : List Run). rs ++ long_after (is_printable b) (at + 1) bs) (none_if (is_printable b && not behind) at (b ∷ bs) short)

  -- ---- What is passed over

  cond_within : (q : Bool) (n m : ℕ) → n ≤ m → cond q (1 + n) 0 ≤ suc m
  cond_within true n m le = omega arith
  cond_within false n m le = omega arith

  front_within : (y r : List ℕ) (b : ℕ) → is_printable b ≡ false → front_len (y ++ b ∷ r) ≤ length y
  front_within [] r b plain = rw plain (omega arith)
  front_within (c ∷ y) r b plain = cond_within (is_printable c) (front_len (y ++ b ∷ r)) (length y) (front_within y r b plain)

  -- fewer bytes than a long run has, and one that is not printable
  pub passed : (behind : Bool) (y r : List ℕ) (b at to : ℕ) → is_printable b ≡ false → length y < least → to ≡ at + (length y + 1)
      → long_after behind at (y ++ b ∷ r) ≡ long_after false to r
  passed behind [] r b at to plain few is =
      let short : front_len (b ∷ r) < least = rw plain few in
      short_cons behind at b r short
      ∙ ap (λ (q : Bool). long_after q (at + 1) r) plain
      ∙ ap (λ (n : ℕ). long_after false n r) (omega (arith, is))
  passed behind (c ∷ y) r b at to plain few is =
      let within = front_within (c ∷ y) r b plain in
      let short : front_len (c ∷ (y ++ b ∷ r)) < least = omega (arith, within, few) in
      short_cons behind at c (y ++ b ∷ r) short ∙ passed (is_printable c) y r b (at + 1) to plain (omega (arith, few)) (omega (arith, is))

  -- all bytes, where they are too few
  pub too_few : (behind : Bool) (at : ℕ) (bytes : List ℕ) → length bytes < least → long_after behind at bytes ≡ []
  unfolding runs_after
  too_few behind at [] few = refl
  too_few behind at (b ∷ bs) few =
      let le = prefix_len-le-length is_printable (b ∷ bs) in
      short_cons behind at b bs (omega (arith, le, few)) ∙ too_few (is_printable b) (at + 1) bs (omega (arith, few))

  -- ---- A run

  abbrev ClosesFor : Bool → ℕ → ℕ → List ℕ → Type 0
  ClosesFor q at b bs = is_printable b ≡ q
      → ((n to : ℕ) → front_len bs ≡ n → to ≡ at + 1 + n → long_after true (at + 1) bs ≡ long_after false to (drop n bs))
      → (n to : ℕ) → cond q (1 + front_len bs) 0 ≡ n → to ≡ at + n → long_after true at (b ∷ bs) ≡ long_after false to (drop n (b ∷ bs))

  closes_for : (q : Bool) (at b : ℕ) (bs : List ℕ) → ClosesFor q at b bs
  closes_for true at b bs shown more zero to is ends = absurd (omega (arith, is))
  closes_for true at b bs shown more (suc n) to is ends =
      let on : long_after true at (b ∷ bs) ≡ long_after true (at + 1) bs = after_cons true at b bs ∙ rw shown refl in
      on ∙ more n to (omega (arith, is)) (omega (arith, ends))
  closes_for false at b bs plain more n to is ends =
      let here : 0 ≡ n = is in
      let on : long_after true at (b ∷ bs) ≡ long_after false (at + 1) bs = after_cons true at b bs ∙ rw plain refl in
      let back : long_after false at (b ∷ bs) ≡ long_after false (at + 1) bs = after_cons false at b bs ∙ rw plain refl in
      on ∙ sym back
      ∙ subst (λ (k : ℕ). long_after false at (b ∷ bs) ≡ long_after false to (drop k (b ∷ bs))) here
      (ap (λ (k : ℕ). long_after false k (b ∷ bs)) (omega (arith, ends, here)))

  -- a run that goes on ends before the first byte that is not printable
  closes : (at : ℕ) (bytes : List ℕ) (n to : ℕ) → front_len bytes ≡ n → to ≡ at + n → long_after true at bytes ≡ long_after false to (drop n bytes)
  unfolding runs_after
  closes at [] n to is ends = subst (λ (k : ℕ). long_after true at [] ≡ long_after false to (drop k [])) is refl
  closes at (b ∷ bs) n to is ends = closes_for (is_printable b) at b bs refl (closes (at + 1) bs) n to is ends

  -- a long run at the front, and the runs behind it
  abbrev OpensFor : Bool → ℕ → ℕ → List ℕ → Type 0
  OpensFor q at b bs = is_printable b ≡ q → 0 < least → least ≤ cond q (1 + front_len bs) 0
      → long_after false at (b ∷ bs)
      ≡ record { at = at; bytes = take_while is_printable (b ∷ bs) } ∷ long_after false (at + front_len (b ∷ bs)) (drop (front_len (b ∷ bs)) (b ∷ bs))

  opens_for : (q : Bool) (at b : ℕ) (bs : List ℕ) → OpensFor q at b bs
  opens_for true at b bs shown some long =
      let front : front_len (b ∷ bs) ≡ 1 + front_len bs = rw shown refl in
      let all : least ≤ front_len (b ∷ bs) = omega (arith, front, long) in
      let run : Run = record { at = at; bytes = take_while is_printable (b ∷ bs) } in
      let same : filter is_long (run_if (is_printable b && not false) at (b ∷ bs)) ≡ run ∷ [] =
      ap (λ (q : Bool). filter is_long (run_if (q && not false) at (b ∷ bs))) shown ∙ one_if at (b ∷ bs) all in
      after_cons false at b bs
      ∙ ap (λ (rs : List Run). rs ++ long_after (is_printable b) (at + 1) bs) same
      ∙ ap (λ (q : Bool). run ∷ long_after q (at + 1) bs) shown
      ∙ ap (λ (rs : List Run). run ∷ rs)
      (closes (at + 1) bs (front_len bs) (at + front_len (b ∷ bs)) refl (omega (arith, front))
      ∙ ap (λ (l : List ℕ). long_after false (at + front_len (b ∷ bs)) l) (ap (λ (k : ℕ). drop k (b ∷ bs)) (let e : suc (front_len bs) ≡ front_len (b ∷ bs) = omega (arith, front) in e)))
  opens_for false at b bs plain some long = absurd (omega (arith, some, long))

  pub opens : (at : ℕ) (bytes : List ℕ) → 0 < least → least ≤ front_len bytes
      → long_runs least at bytes
      ≡ record { at = at; bytes = take_while is_printable bytes } ∷ long_runs least (at + front_len bytes) (drop (front_len bytes) bytes)
  unfolding long_runs
  opens at [] some long = absurd (omega (arith, some, long))
  opens at (b ∷ bs) some long = opens_for (is_printable b) at b bs refl some long

  -- ---- By the words of contracts

  pub none_left : (at : ℕ) (bytes : List ℕ) → length bytes < least → long_runs least at bytes ≡ []
  unfolding long_runs
  none_left at bytes few = too_few false at bytes few

  -- nothing is passed over, or some and then more
  pub skips_none : (bytes : List ℕ) → Skips least bytes 0
  skips_none bytes at later = ap (λ (n : ℕ). long_runs least n (bytes ++ later)) (let e : at ≡ at + 0 = omega arith in e)

  pub skips_more : (bytes : List ℕ) (n m : ℕ) → Skips least bytes n → Skips least (drop n bytes) m → Skips least bytes (n + m)
  skips_more bytes n m a b at later =
      a at later ∙ b (at + n) later
      ∙ ap (λ (k : ℕ). long_runs least k (drop m (drop n bytes) ++ later)) (let e : at + n + m ≡ at + (n + m) = omega arith in e)
      ∙ ap (λ (l : List ℕ). long_runs least (at + (n + m)) (l ++ later)) (drop-drop m n bytes)

  pub skips_past : (y r : List ℕ) (b : ℕ) → is_printable b ≡ false → length y < least → Skips least (y ++ b ∷ r) (length y + 1)
  unfolding long_runs
  skips_past y r b plain few at later =
      ap (λ (l : List ℕ). long_runs least at l) (append_assoc y (b ∷ r) later)
      ∙ passed false y (r ++ later) b at (at + (length y + 1)) plain few refl
      ∙ ap (λ (l : List ℕ). long_runs least (at + (length y + 1)) (l ++ later)) (sym (dropped y r b))
    where
      dropped : (y r : List ℕ) (b : ℕ) → drop (length y + 1) (y ++ b ∷ r) ≡ r
      dropped [] r b = refl
      dropped (c ∷ y) r b = ap (λ (k : ℕ). drop k (c ∷ (y ++ b ∷ r))) (let e : suc (length y) + 1 ≡ suc (length y + 1) = omega arith in e) ∙ dropped y r b

  pub is_skipped : (bytes : List ℕ) (i : ℕ) → i < length bytes → i < least → is_printable (get_or bytes i 0) ≡ false → Skips least bytes (i + 1)
  is_skipped bytes i there few plain =
      let parts : take i bytes ++ get_or bytes i 0 ∷ drop (suc i) bytes ≡ bytes =
      ap (λ (l : List ℕ). take i bytes ++ l) (sym (drop-cons bytes i 0 there)) ∙ take-append-drop i bytes in
      let len : length (take i bytes) ≡ i = length-take-le i bytes (omega (arith, there)) in
      subst (λ (n : ℕ). Skips least bytes (n + 1)) len
      (subst (λ (l : List ℕ). Skips least l (length (take i bytes) + 1)) parts
      (skips_past (take i bytes) (drop (suc i) bytes) (get_or bytes i 0) plain (omega (arith, len, few))))

  -- the last byte of a window that is not printable, behind bytes that were passed over
  pub skips_window : (bytes : List ℕ) (at i k : ℕ) → k ≡ least → Skips least bytes at → i < length (take k (drop at bytes))
      → is_printable (get_or (take k (drop at bytes)) i 0) ≡ false → Skips least bytes (at + (i + 1))
  skips_window bytes at i k is before there plain =
      let len = length-take k (drop at bytes) in
      let early : i < k = omega (arith, len, there) in
      let within : i < length (drop at bytes) = omega (arith, len, there) in
      let same : get_or (take k (drop at bytes)) i 0 ≡ get_or (drop at bytes) i 0 = get_or-take k (drop at bytes) i 0 early in
      skips_more bytes at (i + 1) before
      (is_skipped (drop at bytes) i within (omega (arith, early, is)) (ap is_printable (sym same) ∙ plain))

  -- a window that is all printable
  pub window_long : (bytes : List ℕ) (k : ℕ) → k ≡ least → k ≤ length bytes → front_len (take k bytes) ≡ length (take k bytes) → least ≤ front_len bytes
  window_long bytes k is there all =
      let grows = front_grows (take k bytes) (drop k bytes) in
      let same : front_len (take k bytes ++ drop k bytes) ≡ front_len bytes = ap front_len (take-append-drop k bytes) in
      let len : length (take k bytes) ≡ k = length-take-le k bytes there in
      omega (arith, grows, same, len, all, is)

-- ---- Bytes up to one that is not printable, and those that follow

front_same : (y r q : List ℕ) (b : ℕ) → is_printable b ≡ false → front_len (y ++ b ∷ r) ≡ front_len (y ++ b ∷ q)
front_same [] r q b plain = rw plain refl
front_same (c ∷ y) r q b plain = ap (λ (n : ℕ). cond (is_printable c) (1 + n) 0) (front_same y r q b plain)

run_same : (begins : Bool) (at b : ℕ) (y r q : List ℕ) → is_printable b ≡ false → run_if begins at (y ++ b ∷ r) ≡ run_if begins at (y ++ b ∷ q)
run_same false at b y r q plain = refl
run_same true at b y r q plain =
    let le = front_within 0 y q b plain in
    let same : take_while is_printable (y ++ b ∷ r) ≡ take_while is_printable (y ++ b ∷ q) =
    ap (λ (n : ℕ). take n (y ++ b ∷ r)) (front_same y r q b plain)
    ∙ take-append-le (front_len (y ++ b ∷ q)) y (b ∷ r) le
    ∙ sym (take-append-le (front_len (y ++ b ∷ q)) y (b ∷ q) le) in
    ap (λ (l : List ℕ). record { at = at; bytes = l } ∷ []) same

runs_part : (behind : Bool) (at b : ℕ) (y r : List ℕ) → is_printable b ≡ false
    → runs_after behind at (y ++ b ∷ r) ≡ runs_after behind at (y ++ b ∷ []) ++ runs_after false (at + (length y + 1)) r
unfolding runs_after
runs_part behind at b [] r plain = rw plain refl
runs_part behind at b (c ∷ y) r plain =
    let first = run_if (is_printable c && not behind) at (c ∷ (y ++ b ∷ [])) in
    ap (λ (l : List Run). l ++ runs_after (is_printable c) (at + 1) (y ++ b ∷ r)) (run_same (is_printable c && not behind) at b (c ∷ y) r [] plain)
    ∙ ap (λ (l : List Run). first ++ l)
    (runs_part (is_printable c) (at + 1) b y r plain
    ∙ ap (λ (n : ℕ). runs_after (is_printable c) (at + 1) (y ++ b ∷ []) ++ runs_after false n r) (let e : at + 1 + (length y + 1) ≡ at + (length (c ∷ y) + 1) = omega arith in e))
    ∙ sym (append_assoc first (runs_after (is_printable c) (at + 1) (y ++ b ∷ [])) (runs_after false (at + (length (c ∷ y) + 1)) r))

pub long_part : (least at b : ℕ) (y r : List ℕ) → is_printable b ≡ false
    → long_runs least at (y ++ b ∷ r) ≡ long_runs least at (y ++ b ∷ []) ++ long_runs least (at + (length y + 1)) r
unfolding long_runs
long_part least at b y r plain =
    let is_long = λ (run : Run). nat_le least (length run.bytes) in
    ap (filter is_long) (runs_part false at b y r plain)
    ∙ filter-append is_long (runs_after false at (y ++ b ∷ [])) (runs_after false (at + (length y + 1)) r)
