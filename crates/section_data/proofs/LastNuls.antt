-- The last NUL of bytes, as a search for it answers.
use Rattle.std.proofs.Common.{◌≡◌, ℕ, ◌+◌, ◌-◌, List, get_or, Option, Some, None, ap, ◌∙◌, arith}
use Rattle.std.specs.Prelude.{slice_index, IfSome}
use Rattle.std.proofs.lemmas.Bool.{eq-eqb, eqb-true}
use Rattle.memchr.specs.Find.{IsLastByte, is_byte}
use Rattle.section_data.specs.Leaves.{bytes_or_none}
use Rattle.section_data.specs.Nuls.{IsLastEnd, IsEndedFront}

pub found_last : (bytes : List ℕ) (last : ℕ) → IsLastByte (is_byte 0) bytes (Some last)
    → IsLastEnd bytes (last + 1)
found_last bytes last found = record {
  within = omega (arith, found.0.high);
  nul = λ some.
      let same : last + 1 - 1 ≡ last = omega arith in
      ap (λ (k : ℕ). slice_index bytes k) same ∙ eqb-true (get_or bytes last 0) 0 found.1;
  free = λ k from below is.
      found.0.after k (omega (arith, from)) below (eq-eqb (get_or bytes k 0) 0 is);
}

pub found_none : (bytes : List ℕ) → IsLastByte (is_byte 0) bytes None → IsLastEnd bytes 0
found_none bytes nowhere = record {
  within = omega arith;
  nul = λ some. absurd (omega (arith, some));
  free = λ k from below is. nowhere k (omega arith) below (eq-eqb (get_or bytes k 0) 0 is);
}

-- those of a home that is held, up to a last NUL
pub front_held : (raw : Option (List ℕ)) (front : List ℕ) → IsEndedFront (bytes_or_none raw) front
    → IfSome raw (λ bytes. IsEndedFront bytes front)
front_held None front ended = tt
front_held (Some bytes) front ended = ended
