-- What a table says of a first word that it has, and of one that it has not.
use Rattle.std.proofs.Common.{◌≡◌, ◌≢◌, ℕ, false, List, [], ◌∷◌, Some, None, Ok, Err, refl, ap, ◌∙◌}
use Rattle.std.specs.Prelude.{Result}
use Rattle.std.specs.Str.{bytes_eq}
use Rattle.std.proofs.lemmas.Bool.{false_from_ne_true}
use Rattle.std.proofs.lemmas.Slice.Eq.{bytes_eq-Decides}
use Rattle.elf_types.specs.Answers.{or_refused, ◌>>=◌}
use Rattle.elf_calls_script.specs.declared.calls.Call.{Call}
use Rattle.elf_calls_script.specs.declared.faults.Why.{Why}
use Rattle.elf_calls_script.specs.declared.faults.Why.TheVariants.{BadCall, BadWords}
use Rattle.elf_calls_script.specs.Lines.{calls, sets, set_line}
use Rattle.elf_types.specs.Tables.{value_in}
use Rattle.elf_calls_script.specs.Parts.{Phrase, in_table, one_of, next_word}
use Rattle.elf_calls_script.specs.Script.{call_at}

-- no row has the word
abbrev pub NoRow : {X : Type 0} → List (List ℕ × X) → List ℕ → Type 0
NoRow [] word = Unit {0}
NoRow (row ∷ rows) word = (word ≢ row.0) × NoRow rows word

pub none_of : {X : Type 0} (rows : List (List ℕ × X)) (word : List ℕ) → NoRow rows word → value_in rows word ≡ None
none_of [] word n = refl
none_of (row ∷ rows) word n =
    let other : bytes_eq word row.0 ≡ false = false_from_ne_true _ (λ t. n.0 ((bytes_eq-Decides word row.0).0 t)) in
    rw other (none_of rows word n.1)

-- ---- Tables of parts

pub in_said : {X : Type 0} (table : List (List ℕ × Phrase X)) (word text : List ℕ) (words : List (List ℕ)) (part : Phrase X)
    → word ≡ text → value_in table text ≡ Some part → in_table table word words ≡ part words
in_said table word text words part is row =
    ap (λ w. in_table table w words) is ∙ ap (λ found. or_refused found BadWords >>= λ p. p words) row

pub one_said : {X : Type 0} (table : List (List ℕ × Phrase X)) (words : List (List ℕ)) (word text : List ℕ) (rest : List (List ℕ)) (part : Phrase X)
    → next_word words ≡ Ok (word, rest) → word ≡ text → value_in table text ≡ Some part → one_of table words ≡ part rest
one_said table words word text rest part e is row =
    ap (λ r. r >>= λ next. in_table table next.0 next.1) e ∙ in_said table word text rest part is row

pub in_other : {X : Type 0} (table : List (List ℕ × Phrase X)) (word : List ℕ) (words : List (List ℕ)) → NoRow table word
    → in_table table word words ≡ Err BadWords
in_other table word words n = ap (λ found. or_refused found BadWords >>= λ p. p words) (none_of table word n)

pub one_other : {X : Type 0} (table : List (List ℕ × Phrase X)) (words : List (List ℕ)) (word : List ℕ) (rest : List (List ℕ))
    → next_word words ≡ Ok (word, rest) → NoRow table word → one_of table words ≡ Err BadWords
one_other table words word rest e n = ap (λ r. r >>= λ next. in_table table next.0 next.1) e ∙ in_other table word rest n

-- ---- The calls

called : List ℕ → Phrase Call
called word words = or_refused (value_in calls word) BadCall >>= λ part. part words

at_first : (words : List (List ℕ)) (word : List ℕ) (rest : List (List ℕ)) → next_word words ≡ Ok (word, rest) → call_at words ≡ called word rest
unfolding called
at_first [] word rest e = absurd (cc)
at_first (w ∷ ws) word rest e =
    let pair : (w, ws) ≡ (word, rest) = pair_of (w, ws) (word, rest) e in
    ap (λ p. called p.0 p.1) pair
  where
    pair_of : (x y : List ℕ × List (List ℕ)) → (let r : Result (List ℕ × List (List ℕ)) Why = Ok x in r) ≡ Ok y → x ≡ y
    pair_of x y e = cc

pub call_said : (words : List (List ℕ)) (word text : List ℕ) (rest : List (List ℕ)) (part : Phrase Call)
    → next_word words ≡ Ok (word, rest) → word ≡ text → value_in calls text ≡ Some part → call_at words ≡ part rest
unfolding called
call_said words word text rest part e is row =
    at_first words word rest e ∙ ap (λ w. called w rest) is ∙ ap (λ found. or_refused found BadCall >>= λ p. p rest) row

pub call_other : (words : List (List ℕ)) (word : List ℕ) (rest : List (List ℕ)) → next_word words ≡ Ok (word, rest) → NoRow calls word
    → call_at words ≡ Err BadCall
unfolding called
call_other words word rest e n =
    at_first words word rest e ∙ ap (λ found. or_refused found BadCall >>= λ p. p rest) (none_of calls word n)

-- ---- The lines of `set`

pub set_said : (words : List (List ℕ)) (word text : List ℕ) (rest : List (List ℕ)) (part : Phrase Call)
    → next_word words ≡ Ok (word, rest) → word ≡ text → value_in sets text ≡ Some part → set_line words ≡ part rest
unfolding set_line
set_said words word text rest part e is row = one_said sets words word text rest part e is row

pub set_other : (words : List (List ℕ)) (word : List ℕ) (rest : List (List ℕ)) → next_word words ≡ Ok (word, rest) → NoRow sets word
    → set_line words ≡ Err BadWords
unfolding set_line
set_other words word rest e n = one_other sets words word rest e n
