-- Reading from the front of bytes, one byte after the other.
use Rattle.std.proofs.Common.{◌≡◌, ℕ, ◌+◌, ◌*◌, ◌%◌, ◌^◌, ◌<◌, ◌≤◌, Bool, List, [], ◌∷◌, Result, Ok, Err, IfSome, refl, sym, ap, ◌∙◌, arith}
use Rattle.std.proofs.Math.Nat.{add-mod-mod, mod-add-mod}
use Rattle.std.proofs.lemmas.Nat.{mul-mod_first}
use Rattle.std.proofs.lemmas.Bool.{lt-ltb, le-ltb}
use Rattle.line_table.specs.declared.faults.LineWhy.{LineWhy}
use Rattle.line_table.specs.declared.faults.UnitFault.{UnitFault}
use Rattle.line_table.specs.declared.faults.UnitFault.TheVariants.{Memory, Why}
use Rattle.elf_types.specs.Answers.{◌>>=◌}
use Rattle.line_table.specs.Reading.{byte_at, digit, leb128}
use Rattle.line_table.specs.Outcomes.{why_of}

abbrev read : {A : Type 0} → A → Result A LineWhy
read x = Ok x

pub same_read : {A : Type 0} (x y : A) → read x ≡ read y → x ≡ y
same_read x y e = cc

-- the byte that was read stood at the front
pub byte_read : (bytes rest : List ℕ) (b : ℕ) → byte_at bytes ≡ Ok (b, rest) → bytes ≡ b ∷ rest
unfolding byte_at
byte_read [] rest b e = absurd cc
byte_read (x ∷ bytes) rest b e = ap (λ (p : ℕ × List ℕ). p.0 ∷ p.1) (same_read (x, bytes) (b, rest) e)

-- what a number so far and the digits to come make
abbrev pub raised : ℕ → ℕ → Result (ℕ × List ℕ) LineWhy → Result (ℕ × List ℕ) LineWhy
raised number worth high = high >>= λ x. Ok ((number + worth * x.0) % 2 ^ 64, x.1)

-- one more digit, modulo m
one_digit : (number worth d high m : ℕ) → ((number + (d * worth) % m) % m + ((worth * 128) % m) * high) % m ≡ (number + worth * (d + 128 * high)) % m
one_digit number worth d high m =
    mod-add-mod (number + (d * worth) % m) m (((worth * 128) % m) * high)
    ∙ sym (add-mod-mod (number + (d * worth) % m) (((worth * 128) % m) * high) m)
    ∙ ap (λ (k : ℕ). (number + (d * worth) % m + k) % m) (mul-mod_first (worth * 128) high m)
    ∙ add-mod-mod (number + (d * worth) % m) (worth * 128 * high) m
    ∙ ap (λ (k : ℕ). k % m) (swapped number ((d * worth) % m) (worth * 128 * high))
    ∙ add-mod-mod (number + worth * 128 * high) (d * worth) m
    ∙ ap (λ (k : ℕ). k % m) (gathered number worth d high)
  where
    swapped : (a b c : ℕ) → a + b + c ≡ a + c + b
    swapped a b c = omega arith

    gathered : (a w d h : ℕ) → a + w * 128 * h + d * w ≡ a + w * (d + 128 * h)
    gathered a w d h = omega arith

digit_more : (number worth d : ℕ) (high : Result (ℕ × List ℕ) LineWhy) → raised ((number + (d * worth) % 2 ^ 64) % 2 ^ 64) ((worth * 128) % 2 ^ 64) high ≡ raised number worth (high >>= λ x. Ok (d + 128 * x.0, x.1))
digit_more number worth d (Ok x) = ap (λ (n : ℕ). read (n, x.1)) (one_digit number worth d x.0 (2 ^ 64))
digit_more number worth d (Err e) = refl

-- a byte that is not the last
pub raised_more : (signed : Bool) (number worth b : ℕ) (bytes rest : List ℕ) → 128 ≤ b → byte_at bytes ≡ Ok (b, rest)
    → raised ((number + (digit signed b * worth) % 2 ^ 64) % 2 ^ 64) ((worth * 128) % 2 ^ 64) (leb128 signed rest) ≡ raised number worth (leb128 signed bytes)
raised_more signed number worth b bytes rest le e =
    digit_more number worth (digit signed b) (leb128 signed rest) ∙ ap (raised number worth) (sym (split signed b bytes rest le (byte_read bytes rest b e)))
  where
    split : (signed : Bool) (b : ℕ) (bytes rest : List ℕ) → 128 ≤ b → bytes ≡ b ∷ rest → leb128 signed bytes ≡ (leb128 signed rest >>= λ x. Ok (digit signed b + 128 * x.0, x.1))
    split signed b bytes rest le e = rw e (rw (le-ltb b 128 le) refl)

-- the last byte
pub raised_last : (signed : Bool) (number worth b : ℕ) (bytes rest : List ℕ) → b < 128 → byte_at bytes ≡ Ok (b, rest)
    → raised number worth (leb128 signed bytes) ≡ Ok ((number + (digit signed b * worth) % 2 ^ 64) % 2 ^ 64, rest)
raised_last signed number worth b bytes rest lt e =
    ap (raised number worth) (ended signed b bytes rest lt (byte_read bytes rest b e))
    ∙ ap (λ (n : ℕ). read (n, rest)) (last_digit number worth (digit signed b) (2 ^ 64))
  where
    ended : (signed : Bool) (b : ℕ) (bytes rest : List ℕ) → b < 128 → bytes ≡ b ∷ rest → leb128 signed bytes ≡ Ok (digit signed b, rest)
    ended signed b bytes rest lt e = rw e (rw (lt-ltb b 128 lt) refl)

    last_digit : (number worth d m : ℕ) → (number + worth * d) % m ≡ (number + (d * worth) % m) % m
    last_digit number worth d m = ap (λ (k : ℕ). (number + k) % m) (omega arith) ∙ sym (add-mod-mod number (d * worth) m)

-- no byte is left
pub raised_refused : (e : UnitFault) (signed : Bool) (number worth : ℕ) (bytes : List ℕ) (total : Result (ℕ × List ℕ) LineWhy) → IfSome (why_of e) (λ w. byte_at bytes ≡ Err w) → raised number worth (leb128 signed bytes) ≡ total → IfSome (why_of e) (λ w. total ≡ Err w)
unfolding byte_at
raised_refused Memory signed number worth bytes total h same = tt
raised_refused (Why why) signed number worth [] total h same = sym same ∙ h
raised_refused (Why why) signed number worth (b ∷ bytes) total h same = absurd cc

pub sum_mod : (a b m : ℕ) → (a + b % m) % m ≡ (a + b) % m
sum_mod a b m = add-mod-mod a b m
