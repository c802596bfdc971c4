-- Tables of fields, of which each row is a number below a bound: what they say of a field that they have, and of a word that is
-- no number, which is the value of no field.
use Rattle.std.proofs.Common.{◌≡◌, ◌^◌, ℕ, Bool, true, false, List, [], ◌∷◌, Option, Some, option_map, Ok, Err, IfSome, refl, sym, subst, ap, ◌∙◌}
use Rattle.std.specs.Prelude.{bytes_eq, if◌then◌else◌}
use Rattle.std.specs.Bool.{then_some}
use Rattle.elf_types.specs.Answers.{or_refused, ◌>>=◌}
use Rattle.elf_types.specs.declared.records.Kind.TheVariants as kinds
use Rattle.elf_calls_script.specs.declared.faults.Why.TheVariants.{BadWords}
use Rattle.elf_calls_script.specs.declared.faults.CallFault.{CallFault}
use Rattle.elf_calls_script.specs.declared.faults.CallFault.TheVariants as stops
use Rattle.elf_calls_script.specs.Causes.{call_fault_why}
use Rattle.elf_calls_script.specs.Fields.{ehdr_field_phrases, phdr_field_phrases, shdr_field_phrases, item_fields}
use Rattle.elf_types.specs.Tables.{value_in}
use Rattle.elf_calls_script.specs.Parts.{Phrase, ◌⇒◌, bounded_number, in_table, one_of, next_word}
use Rattle.elf_calls_script.proofs.Narrowed.{refused_as}
use Rattle.elf_calls_script.proofs.Said.{said_made}
use Rattle.elf_calls_script.proofs.Tables.{in_said}

-- a field of the table, whose number is read
pub value_said : {X : Type 0} (table : List (List ℕ × Phrase X)) (word text : List ℕ) (words left : List (List ℕ)) (bound : ℕ) (made : ℕ → X) (b : Bool) (n : ℕ)
    → word ≡ text → value_in table text ≡ Some (bounded_number bound ⇒ made) → bounded_number bound words ≡ Ok (then_some b n, left)
    → in_table table word words ≡ Ok (then_some b (made n), left)
value_said table word text words left bound made b n is row h =
    in_said table word text words (bounded_number bound ⇒ made) is row
    ∙ ap (λ r. r >>= λ a. Ok (option_map made a.0, a.1)) h
    ∙ ap (λ o. Ok (o, left)) (said_made made b n)

pub field_said : {X : Type 0} (table : List (List ℕ × Phrase X)) (words : List (List ℕ)) (word text : List ℕ) (rest left : List (List ℕ)) (bound : ℕ) (made : ℕ → X) (b : Bool) (n : ℕ)
    → next_word words ≡ Ok (word, rest) → word ≡ text → value_in table text ≡ Some (bounded_number bound ⇒ made) → bounded_number bound rest ≡ Ok (then_some b n, left)
    → one_of table words ≡ Ok (then_some b (made n), left)
field_said table words word text rest left bound made b n e is row h =
    ap (λ r. r >>= λ next. in_table table next.0 next.1) e ∙ value_said table word text rest left bound made b n is row h

-- each row refuses the words
abbrev pub Refuse : {X : Type 0} → List (List ℕ × Phrase X) → List (List ℕ) → Type 0
Refuse [] words = Unit {0}
Refuse (row ∷ rows) words = (row.1 words ≡ Err BadWords) × Refuse rows words

either : {X : Type 0} (b : Bool) (part : Phrase X) (found : Option (Phrase X)) (words : List (List ℕ)) → part words ≡ Err BadWords
    → (or_refused found BadWords >>= λ p. p words) ≡ Err BadWords
    → (or_refused (if b then Some part else found) BadWords >>= λ p. p words) ≡ Err BadWords
either true part found words this later = this
either false part found words this later = later

pub refused_in : {X : Type 0} (table : List (List ℕ × Phrase X)) (word : List ℕ) (words : List (List ℕ)) → Refuse table words
    → in_table table word words ≡ Err BadWords
refused_in [] word words r = refl
refused_in (row ∷ rows) word words r =
    either (bytes_eq word row.0) row.1 (value_in rows word) words r.0 (refused_in rows word words r.1)

-- a stop at such words, behind a word that the table may have or not
pub refused_value : {X : Type 0} (table : List (List ℕ × Phrase X)) (word : List ℕ) (words : List (List ℕ)) (stop : CallFault) → stop ≡ stops.Why BadWords
    → Refuse table words → IfSome (call_fault_why stop) (λ why. in_table table word words ≡ Err why)
refused_value table word words stop is r =
    subst (λ (s : CallFault). IfSome (call_fault_why s) (λ why. in_table table word words ≡ Err why)) (sym is) (refused_in table word words r)

pub refused_field : {X : Type 0} (table : List (List ℕ × Phrase X)) (words : List (List ℕ)) (word : List ℕ) (rest : List (List ℕ)) (stop : CallFault)
    → next_word words ≡ Ok (word, rest) → stop ≡ stops.Why BadWords → Refuse table rest → IfSome (call_fault_why stop) (λ why. one_of table words ≡ Err why)
refused_field table words word rest stop e is r =
    subst (λ (s : CallFault). IfSome (call_fault_why s) (λ why. one_of table words ≡ Err why)) (sym is) (rw e (refused_in table word rest r))

-- the words are no number of any range
abbrev pub NoNumber : List (List ℕ) → Type 0
NoNumber words = (bound : ℕ) → bounded_number bound words ≡ Err BadWords

pub no_number : (words : List (List ℕ)) (stop : CallFault) → stop ≡ stops.Why BadWords
    → IfSome (call_fault_why stop) (λ why. bounded_number (2 ^ 64) words ≡ Err why) → NoNumber words
no_number words stop is e bound = refused_as bound words BadWords (rw is at e)

pub ehdr_refuse : (words : List (List ℕ)) → NoNumber words → Refuse ehdr_field_phrases words
unfolding ehdr_field_phrases
ehdr_refuse words refused =
    let b = refused (2 ^ 8) in
    let h = refused (2 ^ 16) in
    let w = refused (2 ^ 32) in
    let x = refused (2 ^ 64) in
    (rw b refl, (rw b refl, (rw h refl, (rw h refl, (rw x refl, (rw x refl, (rw x refl, (rw w refl, (rw w refl, tt)))))))))

pub phdr_refuse : (words : List (List ℕ)) → NoNumber words → Refuse phdr_field_phrases words
unfolding phdr_field_phrases
phdr_refuse words refused =
    let w = refused (2 ^ 32) in
    let x = refused (2 ^ 64) in
    (rw w refl, (rw w refl, (rw x refl, (rw x refl, (rw x refl, (rw x refl, (rw x refl, (rw x refl, tt))))))))

pub shdr_refuse : (words : List (List ℕ)) → NoNumber words → Refuse shdr_field_phrases words
unfolding shdr_field_phrases
shdr_refuse words refused =
    let w = refused (2 ^ 32) in
    let x = refused (2 ^ 64) in
    (rw w refl, (rw w refl, (rw x refl, (rw x refl, (rw x refl, (rw x refl, (rw w refl, (rw w refl, (rw x refl, (rw x refl, tt))))))))))

pub sym_refuse : (words : List (List ℕ)) → NoNumber words → Refuse (item_fields kinds.Sym) words
unfolding item_fields
sym_refuse words refused =
    let b = refused (2 ^ 8) in
    let h = refused (2 ^ 16) in
    let w = refused (2 ^ 32) in
    let x = refused (2 ^ 64) in
    (rw w refl, (rw x refl, (rw x refl, (rw b refl, (rw b refl, (rw h refl, tt))))))

pub rel_refuse : (words : List (List ℕ)) → NoNumber words → Refuse (item_fields kinds.Rel) words
unfolding item_fields
rel_refuse words refused =
    let w = refused (2 ^ 32) in
    let x = refused (2 ^ 64) in
    (rw x refl, (rw w refl, (rw w refl, tt)))
