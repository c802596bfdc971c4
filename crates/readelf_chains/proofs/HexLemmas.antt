-- A byte in hexadecimal digits, by its number and by its two halves.
use Rattle.std.proofs.Common.{◌≡◌, ◌<◌, ◌/◌, ◌%◌, ◌++◌, ℕ, suc, Bool, cond, false, List, [], ◌∷◌, get_or, map, codes, refl, sym, ap, ◌∙◌, inl, inr, lt-ltb, le-ltb, arith}
use Rattle.std.specs.Prelude.{flat_map, slice_index}
use Rattle.std.specs.List.{range_with_len}
use Rattle.std.specs.Fmt.{digit_glyph}
use Rattle.std.proofs.lemmas.Bool.{cases_lt}
use Rattle.std.proofs.lemmas.Fmt.{hex_one_digit, hex_two_digits}
use Rattle.std.proofs.lemmas.List.FromFn.{get_or-map-range_with_len}
use Rattle.elf_types.specs.Text.{hex}
use Rattle.tool_output.specs.Columns.HexPairs.{hex_digits, hex_pair}
use Rattle.readelf_chains.specs.Notes.{hex_byte}

-- the digits stand in the order of their values
digits_listed : hex_digits ≡ map (digit_glyph false) (range_with_len 0 16)
unfolding hex_digits
digits_listed = refl

digit_at : (d : ℕ) → d < 16 → digit_glyph false d ≡ slice_index hex_digits d
digit_at d small =
    sym (get_or-map-range_with_len (digit_glyph false) 0 16 d d 0 small (omega arith))
    ∙ sym (ap (λ (l : List ℕ). get_or l d 0) digits_listed)

-- the digits of a byte, of which the first is 0 where its number has one alone
two_digits : (b : ℕ) → b < 256
    → hex_byte b ≡ digit_glyph false (b / 16) ∷ digit_glyph false (b % 16) ∷ []
unfolding hex_byte hex
two_digits b small =
    elim (cases_lt b 16) [
      | inl one ↦
          let high : b / 16 ≡ 0 = omega (arith, one) in
          let low : b % 16 ≡ b = omega (arith, one) in
          ap (λ (t : Bool). cond t (codes "0" ++ hex b) (hex b)) (lt-ltb b 16 one)
          ∙ ap (λ (l : List ℕ). 48 ∷ l) (hex_one_digit false b one)
          ∙ sym (ap (λ (h : ℕ). digit_glyph false h ∷ digit_glyph false (b % 16) ∷ []) high
          ∙ ap (λ (l : ℕ). 48 ∷ digit_glyph false l ∷ []) low)
      | inr two ↦
          ap (λ (t : Bool). cond t (codes "0" ++ hex b) (hex b)) (le-ltb b 16 two)
          ∙ hex_two_digits false b two small
    ]

byte_by_halves : (b : ℕ) → b < 256 → hex_byte b ≡ hex_pair b
unfolding hex_pair
byte_by_halves b small =
    two_digits b small
    ∙ ap (λ (h : ℕ). h ∷ digit_glyph false (b % 16) ∷ []) (digit_at (b / 16) (omega (arith, small)))
    ∙ ap (λ (l : ℕ). slice_index hex_digits (b / 16) ∷ l ∷ []) (digit_at (b % 16) (omega arith))

pub bytes_by_halves : (bytes : List ℕ) → ((i : ℕ) → get_or bytes i 0 < 256)
    → flat_map hex_byte bytes ≡ flat_map hex_pair bytes
bytes_by_halves [] fits = refl
bytes_by_halves (b ∷ bytes) fits =
    ap (λ (l : List ℕ). l ++ flat_map hex_byte bytes) (byte_by_halves b (fits 0))
    ∙ ap (λ (l : List ℕ). hex_pair b ++ l) (bytes_by_halves bytes (λ i. fits (suc i)))
