-- A first word that is no text is in no table of texts.
use Rattle.std.proofs.Common.{◌≡◌, ◌&&◌, ℕ, Bool, true, false, List, [], ◌∷◌, None, IfSome, Err, refl, sym, subst, lit<, zero, suc}
use Rattle.std.specs.Char.{is_ascii}
use Rattle.std.specs.List.{list_all}
use Rattle.std.specs.Str.{IsAscii, IsUtf8, bytes_eq}
use Rattle.std.proofs.lemmas.Bool.{and_parts, false_from_ne_true, ltb-true}
use Rattle.std.proofs.lemmas.Slice.Eq.{bytes_eq-Decides}
use Rattle.std.proofs.lemmas.Str.{IsUtf8-from_ascii}
use Rattle.elf_types.specs.declared.records.Kind.{Kind}
use Rattle.elf_types.specs.declared.records.Kind.TheVariants.{Empty, Bytes, Half, Word, Addr, Sym, Rel, Rela, Dyn}
use Rattle.elf_calls_script.specs.declared.faults.Why.TheVariants.{BadCall, BadWords}
use Rattle.elf_calls_script.specs.declared.faults.CallFault.{CallFault}
use Rattle.elf_calls_script.specs.Causes.{call_fault_why}
use Rattle.elf_calls_script.specs.Fields.{item_fields}
use Rattle.elf_calls_script.specs.Lines.{calls}
use Rattle.elf_calls_script.specs.Script.{call_at}
use Rattle.elf_calls_script.specs.Left.{HasNoText, IsNoText}
use Rattle.elf_types.specs.Tables.{value_in}
use Rattle.elf_calls_script.specs.Parts.{Phrase, one_of}

-- each word of a table is ASCII
abbrev pub has_texts : {X : Type 0} → List (List ℕ × X) → Bool
has_texts [] = true
has_texts (row ∷ rows) = list_all is_ascii row.0 && has_texts rows

ascii : (text : List ℕ) → list_all is_ascii text ≡ true → IsAscii text
ascii [] h i = lit< tt
ascii (c ∷ cs) h zero = ltb-true _ _ (and_parts _ _ h).0
ascii (c ∷ cs) h (suc i) = ascii cs (and_parts _ _ h).1 i

differs : (word text : List ℕ) → list_all is_ascii text ≡ true → ¬ (IsUtf8 word) → bytes_eq word text ≡ false
differs word text a n =
    false_from_ne_true _ (λ t. n (subst IsUtf8 (sym ((bytes_eq-Decides word text).0 t)) (IsUtf8-from_ascii text (ascii text a))))

pub in_no_row : {X : Type 0} (table : List (List ℕ × X)) (word : List ℕ) → has_texts table ≡ true → ¬ (IsUtf8 word)
    → value_in table word ≡ None
in_no_row [] word t n = refl
in_no_row (row ∷ rows) word t n =
    let parts = and_parts _ _ t in
    rw (differs word row.0 parts.0 n) (in_no_row rows word parts.1 n)

refused_as : {X : Type 0} (table : List (List ℕ × Phrase X)) (words : List (List ℕ)) → has_texts table ≡ true
    → HasNoText words → one_of table words ≡ Err BadWords
refused_as table [] t h = refl
refused_as table (w ∷ ws) t h = rw (in_no_row table w t h) refl

pub refused_words : {X : Type 0} (table : List (List ℕ × Phrase X)) (words : List (List ℕ)) (stop : CallFault) → has_texts table ≡ true
    → IsNoText stop words → IfSome (call_fault_why stop) (λ why. one_of table words ≡ Err why)
refused_words table words stop t h =
    subst (λ (s : CallFault). IfSome (call_fault_why s) (λ why. one_of table words ≡ Err why)) (sym h.0) (refused_as table words t h.1)

-- a first word that is no text is no call
pub no_call : (words : List (List ℕ)) → HasNoText words → call_at words ≡ Err BadCall
unfolding calls
no_call [] h = refl
no_call (w ∷ ws) h = rw (in_no_row calls w refl h) refl

pub item_texts : (kind : Kind) → has_texts (item_fields kind) ≡ true
unfolding item_fields
item_texts Empty = refl
item_texts Bytes = refl
item_texts Half = refl
item_texts Word = refl
item_texts Addr = refl
item_texts Sym = refl
item_texts Rel = refl
item_texts Rela = refl
item_texts Dyn = refl
