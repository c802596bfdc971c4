-- The ELF header and the tables, behind bytes that are held.
use Rattle.std.proofs.Common.{◌≡◌, ℕ, ◌+◌, ◌-◌, ◌<◌, ◌≤◌, Bool, true, List, [], ◌∷◌, ◌++◌, length, take, drop, get_or, sym, ap, ◌∙◌, append_assoc, arith, length-append}
use Rattle.std.specs.Prelude.{if◌then◌else◌, flat_map}
use Rattle.std.proofs.lemmas.List.{append-nil, take_at, drop_at, take_all, take_more}
use Rattle.rebuild_image.specs.declared.ranges.ranges.ByteRange.{ByteRange}
use Rattle.rebuild_image.specs.Ranges.Ranges.{bytes_under}
use Rattle.rebuild_image.specs.Fronts.{HoldsAppended, HeldBytesStay}

-- ---- What is appended

pub appended_bytes_held : (bytes old new : List ℕ) (at : ℕ) (range : ByteRange) → new ≡ old ++ bytes
    → at ≡ length old → range.held ≡ true → range.at ≡ at → range.len ≡ length new - at
    → HoldsAppended bytes old new range
appended_bytes_held bytes old new at range all first held place len =
    let long : length new ≡ length old + length bytes =
    ap (λ (l : List ℕ). length l) all ∙ length-append old bytes in
    record {
      all = all;
      held = held;
      at = place ∙ first;
      len = omega (arith, len, first, long);
    }

pub behind : (bytes old new : List ℕ) (at : ℕ) → new ≡ old ++ bytes → at ≡ length old
    → at ≤ length new
behind bytes old new at all first =
    let long : length new ≡ length old + length bytes =
    ap (λ (l : List ℕ). length l) all ∙ length-append old bytes in
    omega (arith, first, long)

pub held_bytes_stay : HeldBytesStay
held_bytes_stay bytes old new more base range holds =
    let all : new ++ more ≡ old ++ (bytes ++ more) =
    ap (λ (l : List ℕ). l ++ more) holds.all ∙ append_assoc old bytes more in
    let under : bytes_under (new ++ more) base range ≡ old ++ (bytes ++ more) =
    ap (λ (b : Bool). if b then new ++ more else base) holds.held ∙ all in
    ap (λ (l : List ℕ). take range.len (drop range.at l)) under
    ∙ ap (take range.len) (drop_at old (bytes ++ more) range.at (sym holds.at))
    ∙ take_at bytes more range.len (sym holds.len)

-- ---- Rows, one after the other

pub record AreRowsHeld {X : Type 0} (form : X → List ℕ) (rows : List X) (old held : List ℕ) (i : ℕ)
    : Type 0 where
  pub rows_are : held ≡ old ++ flat_map form (take i rows)

pub no_rows_held : {X : Type 0} (form : X → List ℕ) (rows : List X) (old : List ℕ)
    → AreRowsHeld form rows old old 0
no_rows_held form rows old = record { rows_are = sym (append-nil old) }

flat_last : {X : Type 0} (form : X → List ℕ) (l : List X) (x : X)
    → flat_map form (l ++ x ∷ []) ≡ flat_map form l ++ form x
flat_last form [] x = append-nil (form x)
flat_last form (y ∷ l) x =
    ap (λ (bytes : List ℕ). form y ++ bytes) (flat_last form l x)
    ∙ sym (append_assoc (form y) (flat_map form l) (form x))

pub more_rows : {X : Type 0} (form : X → List ℕ) (rows : List X) (old held next : List ℕ) (i : ℕ)
    (d : X)
    → i < length rows → AreRowsHeld form rows old held i
    → next ≡ held ++ form (get_or rows i d) → AreRowsHeld form rows old next (i + 1)
more_rows form rows old held next i d there rows_held put = record {
  rows_are = put
      ∙ ap (λ (l : List ℕ). l ++ form (get_or rows i d)) rows_held.rows_are
      ∙ append_assoc old (flat_map form (take i rows)) (form (get_or rows i d))
      ∙ ap (λ (l : List ℕ). old ++ l) (sym (flat_last form (take i rows) (get_or rows i d)))
      ∙ ap (λ l. old ++ flat_map form l) (sym (take_more rows i d there));
}

pub all_rows : {X : Type 0} (form : X → List ℕ) (rows : List X) (old held : List ℕ) (i : ℕ)
    → length rows ≤ i → AreRowsHeld form rows old held i → held ≡ old ++ flat_map form rows
all_rows form rows old held i all rows_held =
    rows_held.rows_are ∙ ap (λ l. old ++ flat_map form l) (take_all i rows all)
