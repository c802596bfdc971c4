-- Bytes as hexadecimal digits, block by block.
use Rattle.std.proofs.Common.{◌≡◌, ◌/◌, ◌%◌, ◌++◌, ℕ, List, [], ◌∷◌, Err, refl, sym, ap, ◌∙◌, append_assoc, append-nil}
use Rattle.std.specs.Prelude.{flat_map, slice_index}
use Rattle.std.proofs.lemmas.Grind.{flat_map-append}
use Rattle.elf_types.specs.declared.errors.ElfError.{ElfError}
use Rattle.elf_types.specs.Writers.{WantsMemory}
use Rattle.elf_types.proofs.Writers.{extends_both}
use Rattle.hex.specs.Hex.{encode_with, encode_lower, lower_digits}
use Rattle.tool_output.specs.Columns.HexPairs.{hex_digits, hex_pair}

-- what the encoding of bytes gives is two digits for each of them
pub encoded_pairs : (bytes : List ℕ) → encode_lower bytes ≡ flat_map hex_pair bytes
unfolding encode_with hex_pair hex_digits
encoded_pairs [] = refl
encoded_pairs (b ∷ bytes) =
    ap (λ (l : List ℕ). slice_index lower_digits (b / 16) ∷ slice_index lower_digits (b % 16) ∷ l)
    (encoded_pairs bytes)

-- some of the bytes are put, and the others are left
pub record PutUpTo (old page left bytes : List ℕ) : Type 0 where
  pub front : List ℕ
  pub put : page ≡ old ++ flat_map hex_pair front
  pub whole : front ++ left ≡ bytes

pub none_put : (page left bytes : List ℕ) → left ≡ bytes → PutUpTo page page left bytes
none_put page left bytes all = record {
  front = [];
  put = sym (append-nil page);
  whole = all;
}

pub block_put : (old page next left block rest bytes : List ℕ) → PutUpTo old page left bytes
    → left ≡ block ++ rest → next ≡ page ++ flat_map hex_pair block → PutUpTo old next rest bytes
block_put old page next left block rest bytes so_far cut more = record {
  front = so_far.front ++ block;
  put = more ∙ ap (λ (l : List ℕ). l ++ flat_map hex_pair block) so_far.put
      ∙ append_assoc old (flat_map hex_pair so_far.front) (flat_map hex_pair block)
      ∙ ap (λ (l : List ℕ). old ++ l) (sym (flat_map-append hex_pair so_far.front block));
  whole = append_assoc so_far.front block rest
      ∙ ap (λ (l : List ℕ). so_far.front ++ l) (sym cut) ∙ so_far.whole;
}

pub all_put : (old page left bytes : List ℕ) → PutUpTo old page left bytes → left ≡ []
    → page ≡ old ++ flat_map hex_pair bytes
all_put old page left bytes so_far none =
    let same = sym (append-nil so_far.front)
    ∙ ap (λ (l : List ℕ). so_far.front ++ l) (sym none) ∙ so_far.whole in
    so_far.put ∙ ap (λ (l : List ℕ). old ++ flat_map hex_pair l) same

-- what the page held at first stands after a refusal, some bytes behind it
pub block_refused : (e : ElfError) (old page next left bytes : List ℕ) → PutUpTo old page left bytes
    → WantsMemory page next e → WantsMemory old next e
block_refused e old page next left bytes so_far wants =
    (extends_both {T = Unit} (Err e) old page next (flat_map hex_pair so_far.front) [] so_far.put
    (tt, wants)).1
