-- The grammar of a line: what may stand in it, phrase by phrase, and what each says.
use Rattle.std.specs.Prelude.{◌==◌, ℕ, ℤ, ◌^◌, List, [], ◌∷◌, length, nat_le, Option, Some, None, option_map, Result, Ok, Err, if◌then◌else◌}
use Rattle.std.specs.List.{slice_split, join_with_byte}
use Rattle.std.specs.Option.{option_zip}
use Rattle.std.specs.Str.{byte}
use Rattle.elf_types.specs.Answers.{or_refused, ◌>>=◌}
use Rattle.elf_types.specs.Tables.{value_in}
use Rattle.elf_calls_script.specs.declared.faults.Why.{Why}
use Rattle.elf_calls_script.specs.declared.faults.Why.TheVariants.{BadWords}
use Rattle.elf_calls_script.specs.Numbers.{number_literal_of, signed_literal_of, number_if_below, within_64_bits, hex_of}

-- what stands between the bytes of a kind, where any two are next to each other the empty list
abbrev pub pieces_between : ℕ → List ℕ → List (List ℕ)
pieces_between separator bytes = slice_split (λ b. b == separator) bytes

-- the words of a line, which one space parts
abbrev pub words_of : List ℕ → List (List ℕ)
words_of line = pieces_between (byte " ") line

-- a phrase at the front of words: what it says, or None where a number in it is out of its range,
-- and the words after it. It is BadWords where the words have another form.
abbrev pub Phrase : Type 0 → Type 0
Phrase X = List (List ℕ) → Result (Option X × List (List ℕ)) Why

-- ---- Words

-- the first word and the words after it
abbrev pub next_word : List (List ℕ) → Result (List ℕ × List (List ℕ)) Why
next_word [] = Err BadWords
next_word (w ∷ ws) = Ok (w, ws)

-- one word, of which `says` knows the form
abbrev pub word_of_form : {X : Type 0} → (List ℕ → Option (Option X)) → Phrase X
word_of_form says words = do
  next ← next_word words
  x ← or_refused (says next.0) BadWords
  Ok (x, next.1)

-- a number below a bound
unfoldable pub bounded_number : ℕ → Phrase ℕ
bounded_number bound words =
    word_of_form (λ w. option_map (number_if_below bound) (number_literal_of w)) words

abbrev pub u8 : Phrase ℕ
u8 words = bounded_number (2 ^ 8) words

abbrev pub u16 : Phrase ℕ
u16 words = bounded_number (2 ^ 16) words

abbrev pub u32 : Phrase ℕ
u32 words = bounded_number (2 ^ 32) words

abbrev pub u64 : Phrase ℕ
u64 words = bounded_number (2 ^ 64) words

-- an addend or a tag
unfoldable pub i64 : Phrase ℤ
i64 words = word_of_form (λ w. option_map within_64_bits (signed_literal_of w)) words

-- HEX
unfoldable pub hex_phrase : Phrase (List ℕ)
hex_phrase words = word_of_form (λ w. option_map Some (hex_of w)) words

-- NAME: all that is left of the line, which is not empty
unfoldable pub name : Phrase (List ℕ)
name words =
    let rest = join_with_byte (byte " ") words in
    if nat_le 1 (length rest) then Ok (Some rest, []) else Err BadWords

-- ---- Phrases of phrases

-- no word at all
abbrev pub just : {X : Type 0} → X → Phrase X
just x words = Ok (Some x, words)

-- what a phrase says, as something else
infixl 4 ◌⇒◌
abbrev pub ◌⇒◌ : {A B : Type 0} → Phrase A → (A → B) → Phrase B
(part ⇒ made) words = part words >>= λ a. Ok (option_map made a.0, a.1)

-- a phrase and then another
infixl 6 ◌&◌
abbrev pub ◌&◌ : {A B : Type 0} → Phrase A → Phrase B → Phrase (A × B)
(first & second) words = do
  a ← first words
  b ← second a.1
  Ok (option_zip a.0 b.0, b.1)

-- a phrase that may be left out at the end of the line
abbrev pub optional : {X : Type 0} → Phrase X → Phrase (Option X)
optional part words = if length words == 0 then Ok (Some None, []) else (part ⇒ Some) words

-- what a table says of a word, and then of the words after it
abbrev pub in_table : {X : Type 0} → List (List ℕ × Phrase X) → List ℕ → Phrase X
in_table table word words = or_refused (value_in table word) BadWords >>= λ part. part words

-- a word of a table, and what the table says after it
abbrev pub one_of : {X : Type 0} → List (List ℕ × Phrase X) → Phrase X
one_of table words = next_word words >>= λ next. in_table table next.0 next.1

-- the end of the line
abbrev pub no_words_left : List (List ℕ) → Result Unit Why
no_words_left words = if length words == 0 then Ok tt else Err BadWords
