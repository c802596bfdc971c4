-- Reading the items of a list, one after the other.
use Rattle.std.proofs.Common.{◌≡◌, ℕ, zero, suc, ◌<◌, List, [], ◌∷◌, ◌++◌, length, Option, Some, None, Result, Ok, Err, refl, sym, ap, subst, ◌∙◌, append_assoc, arith}
use Rattle.std.proofs.lemmas.List.{append-nil}
use Rattle.line_table.specs.Reading.{Listed, listed_on, items_at_most, list_at}

-- the items so far, before those that are left
abbrev pub with_front : {X E : Type 0} → List X → Listed X E → Listed X E
with_front front later = record { items = front ++ later.items; after = later.after }

-- the items so far and those that are left are the whole list
pub record Left {X E : Type 0} (next : List ℕ → Result (Option X × List ℕ) E) (bytes : List ℕ) (front : List X) (whole : Listed X E) : Type 0 where
  pub turns : ℕ
  pub enough : length bytes < turns
  pub same : with_front front (items_at_most next turns bytes) ≡ whole

pub left_all : {X E : Type 0} (next : List ℕ → Result (Option X × List ℕ) E) (bytes : List ℕ) → Left next bytes [] (list_at next bytes)
unfolding list_at
left_all next bytes = record { turns = suc (length bytes); enough = omega arith; same = refl }

module _ {X E : Type 0} (next : List ℕ → Result (Option X × List ℕ) E) (bytes : List ℕ) (front : List X) (whole : Listed X E) where
  -- there is a turn left, which reads what is next
  one_turn : (n : ℕ) → length bytes < n → with_front front (items_at_most next n bytes) ≡ whole → (r : Result (Option X × List ℕ) E) → next bytes ≡ r
      → (k : ℕ) × (n ≡ suc k) × (with_front front (listed_on r (λ rest. items_at_most next k rest)) ≡ whole)
  one_turn zero lt same r e = absurd (omega arith)
  one_turn (suc k) lt same r e = (k, refl, subst (λ (r : Result (Option X × List ℕ) E). with_front front (listed_on r (λ rest. items_at_most next k rest)) ≡ whole) e same)

  pub left_more : (x : X) (rest : List ℕ) → Left next bytes front whole → next bytes ≡ Ok (Some x, rest) → length rest < length bytes → Left next rest (front ++ x ∷ []) whole
  left_more x rest l e shorter =
      let t = one_turn l.turns l.enough l.same (Ok (Some x, rest)) e in
      record {
        turns = t.0;
        enough = omega (arith, t.1, l.enough);
        same = ap (λ (items : List X). record { items = items; after = (items_at_most next t.0 rest).after }) (append_assoc front (x ∷ []) (items_at_most next t.0 rest).items) ∙ t.2;
      }

  pub left_end : (rest : List ℕ) → Left next bytes front whole → next bytes ≡ Ok (None, rest) → whole ≡ record { items = front; after = Ok rest }
  left_end rest l e =
      let t = one_turn l.turns l.enough l.same (Ok (None, rest)) e in
      sym t.2 ∙ ap (λ (items : List X). record { items = items; after = Ok rest }) (append-nil front)

  pub left_refused : (e : E) → Left next bytes front whole → next bytes ≡ Err e → whole ≡ record { items = front; after = Err e }
  left_refused e l h =
      let t = one_turn l.turns l.enough l.same (Err e) h in
      sym t.2 ∙ ap (λ (items : List X). record { items = items; after = Err e }) (append-nil front)

  -- an item stands where the items so far end
  pub left_item : (x : X) (rest : List ℕ) → Left next bytes front whole → next bytes ≡ Ok (Some x, rest) → (later : Listed X E) × (whole ≡ record { items = front ++ x ∷ later.items; after = later.after })
  left_item x rest l e =
      let t = one_turn l.turns l.enough l.same (Ok (Some x, rest)) e in
      (items_at_most next t.0 rest, sym t.2)
