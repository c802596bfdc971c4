-- The numbers in the calls of a script are in the ranges of their fields, as the grammar of its
-- lines has them.
use Rattle.std.proofs.Common.{◌≡◌, ℕ, ◌+◌, ◌<◌, ◌^◌, Bool, true, false, List, [], ◌∷◌, ◌++◌, length, Option, Some, None, option_map, Result, Ok, Err, refl, ap, subst}
use Rattle.std.specs.Prelude.{All, bytes_eq, nat_lt, option_to_list, if◌then◌else◌}
use Rattle.std.specs.Option.{option_zip}
use Rattle.std.proofs.lemmas.Bool.{ltb-true}
use Rattle.std.proofs.lemmas.List.Elements.{All-nil, All-cons, All-append}
use Rattle.elf_types.specs.Answers.{or_refused, ◌>>=◌}
use Rattle.elf_types.specs.Tables.{value_in}
use Rattle.elf_types.specs.declared.records.Kind.{Kind}
use Rattle.elf_types.specs.declared.records.ScnId.{ScnId}
use Rattle.elf_ident.proofs.Refusals.{bind_ok, or_refused_ok}
use Rattle.elf_calls_script.specs.declared.script.TheConstants.{MAX_SCRIPT}
use Rattle.elf_calls_script.specs.declared.calls.Call.{Call}
use Rattle.elf_calls_script.specs.declared.calls.Call.TheVariants as call
use Rattle.elf_calls_script.specs.declared.calls.EhdrSet.{EhdrSet}
use Rattle.elf_calls_script.specs.declared.calls.EhdrSet.TheVariants as ehdr
use Rattle.elf_calls_script.specs.declared.calls.PhdrSet.{PhdrSet}
use Rattle.elf_calls_script.specs.declared.calls.PhdrSet.TheVariants as phdr
use Rattle.elf_calls_script.specs.declared.calls.ShdrSet.{ShdrSet}
use Rattle.elf_calls_script.specs.declared.calls.ShdrSet.TheVariants as shdr
use Rattle.elf_calls_script.specs.declared.faults.Why.{Why}
use Rattle.elf_calls_script.specs.declared.faults.Why.TheVariants.{TooLong, BadWords, BadCall, BadNumber}
use Rattle.elf_calls_script.specs.Numbers.{number_literal_of, number_if_below}
use Rattle.elf_calls_script.specs.Parts.{Phrase, ◌⇒◌, ◌&◌, just, optional, one_of, bounded_number, u32, u64, hex_phrase, name, no_words_left, words_of}
use Rattle.elf_calls_script.specs.Fields.{ehdr_field_phrases, phdr_field_phrases, shdr_field_phrases, item_fields}
use Rattle.elf_calls_script.specs.Lines.{section, piece_phrase, object_parts, flag_words, item_set, sets, new_data, phdr_call_line, shdr_line, pieces_line, data_line, raw_line, item_line, str_line, note_call_line, find_line, set_line, addall_line, newphdr_line, newdata_line, fill_line, replace_line, flag_line, calls}
use Rattle.elf_calls_script.specs.Script.{is_passed_over, call_at, call_of, on_line, line_call, calls_from, lines_of, calls_of}
use Rattle.calls_tool.specs.Scripts.{with_line, script_calls}
use Rattle.law_reopen.specs.Scripts.{IsEhdrSet, IsPhdrSet, IsShdrSet, IsScriptCall, ScriptsAreInRange}

-- ---- Phrases

-- what a phrase reads, and the words after it
abbrev Read : Type 0 → Type 0
Read X = Option X × List (List ℕ)

-- whatever a phrase says has the property
abbrev Tells : {X : Type 0} → (X → Type 0) → Phrase X → Type 0
Tells {X} P part =
    (words : List (List ℕ)) (x : X) (rest : List (List ℕ))
    → ◌≡◌ {A = Result (Read X) Why} (part words) (Ok (Some x, rest)) → P x

-- one answer is one value
same_first : {A B E : Type 0} (p q : A × B) → ◌≡◌ {A = Result (A × B) E} (Ok p) (Ok q)
    → p.0 ≡ q.0
same_first {A} {B} p q e =
    let same : p ≡ q = cc in ap (λ (x : A × B). x.0) same

number_tells : (bound : ℕ) → Tells (λ n. n < bound) (bounded_number bound)
unfolding bounded_number
number_tells bound [] n rest e = cc
number_tells bound (w ∷ ws) n rest e = by_number (number_literal_of w) e
  where
    by_test : (b : Bool) (k : ℕ) → nat_lt k bound ≡ b
        → ◌≡◌ {A = Option ℕ} (if b then Some k else None) (Some n) → n < bound
    by_test true k less h =
        let same : k ≡ n = cc in subst (λ (m : ℕ). m < bound) same (ltb-true k bound less)
    by_test false k more h = let none : None ≡ Some n = h in absurd (cc)

    by_number : (found : Option ℕ)
        → ◌≡◌ {A = Result (Read ℕ) Why}
        (or_refused (option_map (number_if_below bound) found) BadWords >>= λ x. Ok (x, ws))
        (Ok (Some n, rest))
        → n < bound
    by_number None h = cc
    by_number (Some k) h =
        by_test (nat_lt k bound) k refl (same_first (number_if_below bound k, ws) (Some n, rest) h)

-- said as something else
made_tells : {A B : Type 0} (P : A → Type 0) (Q : B → Type 0) (part : Phrase A) (made : A → B)
    → Tells P part → ((a : A) → P a → Q (made a)) → Tells Q (part ⇒ made)
made_tells {A} {B} P Q part made tells holds words y rest e =
    let next : Read A → Result (Read B) Why = λ a. Ok (option_map made a.0, a.1) in
    let first = bind_ok (part words) next (Some y, rest) e in
    by_read first.0 first.1 first.2
  where
    by_read : (a : Read A) → ◌≡◌ {A = Result (Read A) Why} (part words) (Ok a)
        → ◌≡◌ {A = Result (Read B) Why} (Ok (option_map made a.0, a.1)) (Ok (Some y, rest)) → Q y
    by_read (None, left) said h =
        let none : None ≡ Some y = same_first (None, left) (Some y, rest) h in absurd (cc)
    by_read (Some x, left) said h =
        let is : Some (made x) ≡ Some y = same_first (Some (made x), left) (Some y, rest) h in
        let same : made x ≡ y = cc in
        subst Q same (holds x (tells words x left said))

-- one after another
both_tell : {A B : Type 0} (P : A → Type 0) (Q : B → Type 0) (first : Phrase A)
    (second : Phrase B) → Tells P first → Tells Q second
    → Tells (λ x. P x.0 × Q x.1) (first & second)
both_tell {A} {B} P Q first second one other words y rest e =
    let a = bind_ok (first words) (λ (a : Read A).
    second a.1 >>= λ b. Ok (option_zip a.0 b.0, b.1)) (Some y, rest) e in
    let b = bind_ok (second a.0.1) (λ (b : Read B). Ok (option_zip a.0.0 b.0, b.1)) (Some y, rest)
    a.2 in
    by_both a.0 b.0 a.1 b.1 b.2
  where
    by_both : (a : Read A) (b : Read B)
        → ◌≡◌ {A = Result (Read A) Why} (first words) (Ok a)
        → ◌≡◌ {A = Result (Read B) Why} (second a.1) (Ok b)
        → ◌≡◌ {A = Result (Read (A × B)) Why}
        (Ok (option_zip a.0 b.0, b.1)) (Ok (Some y, rest))
        → P y.0 × Q y.1
    by_both (None, left) b x z h =
        let none : None ≡ Some y = same_first (None, b.1) (Some y, rest) h in absurd (cc)
    by_both (Some u, left) (None, later) x z h =
        let none : None ≡ Some y = same_first (None, later) (Some y, rest) h in absurd (cc)
    by_both (Some u, left) (Some v, later) x z h =
        let is : Some (u, v) ≡ Some y = same_first (Some (u, v), later) (Some y, rest) h in
        let same : (u, v) ≡ y = cc in
        subst (λ (p : A × B). P p.0 × Q p.1) same (one words u left x, other left v later z)

-- nothing is asked
any_tells : {X : Type 0} (part : Phrase X) → Tells (λ x. Unit {0}) part
any_tells part words x rest e = tt

-- ---- Tables of phrases

-- what a table says after a word has the property
record RowsTell {X : Type 0} (P : X → Type 0) (table : List (List ℕ × Phrase X)) : Type 0 where
  told : (word : List ℕ) (part : Phrase X) → value_in table word ≡ Some part → Tells P part

no_row : {X : Type 0} (P : X → Type 0) → RowsTell {X = X} P []
no_row P = record { told = λ word part e. absurd (cc) }

row : {X : Type 0} (P : X → Type 0) (text : List ℕ) (first : Phrase X)
    (rows : List (List ℕ × Phrase X)) → Tells P first → RowsTell P rows
    → RowsTell P ((text, first) ∷ rows)
row {X} P text first rows one others = record {
  told = λ word part e. by_test word part (bytes_eq word text) e;
}
  where
    by_test : (word : List ℕ) (part : Phrase X) (b : Bool)
        → ◌≡◌ {A = Option (Phrase X)}
        (if b then Some first else value_in rows word) (Some part)
        → Tells P part
    by_test word part true h =
        let same : first ≡ part = cc in subst (λ (p : Phrase X). Tells P p) same one
    by_test word part false h = others.told word part h

row_told : {X : Type 0} (P : X → Type 0) (table : List (List ℕ × Phrase X)) (why : Why)
    (word : List ℕ) (words : List (List ℕ)) (x : X) (rest : List (List ℕ)) → RowsTell P table
    → ◌≡◌ {A = Result (Read X) Why}
    (or_refused (value_in table word) why >>= λ part. part words) (Ok (Some x, rest))
    → P x
row_told {X} P table why word words x rest rows e = by_row (value_in table word) refl e
  where
    by_row : (found : Option (Phrase X)) → value_in table word ≡ found
        → ◌≡◌ {A = Result (Read X) Why}
        (or_refused found why >>= λ part. part words) (Ok (Some x, rest))
        → P x
    by_row None at h = cc
    by_row (Some part) at h = rows.told word part at words x rest h

table_tells : {X : Type 0} (P : X → Type 0) (table : List (List ℕ × Phrase X)) → RowsTell P table
    → Tells P (one_of table)
table_tells P table rows [] x rest e = cc
table_tells P table rows (w ∷ ws) x rest e = row_told P table BadWords w ws x rest rows e

-- ---- Fields of headers

ehdr_field : (bound : ℕ) (made : ℕ → EhdrSet) → ((n : ℕ) → n < bound → IsEhdrSet (made n))
    → Tells IsEhdrSet (bounded_number bound ⇒ made)
ehdr_field bound made holds =
    made_tells (λ n. n < bound) IsEhdrSet (bounded_number bound) made (number_tells bound) holds

ehdr_rows : RowsTell IsEhdrSet ehdr_field_phrases
unfolding ehdr_field_phrases
ehdr_rows =
    row IsEhdrSet _ _ _ (ehdr_field (2 ^ 8) ehdr.Osabi (λ n less. less))
    (row IsEhdrSet _ _ _ (ehdr_field (2 ^ 8) ehdr.Abiversion (λ n less. less))
    (row IsEhdrSet _ _ _ (ehdr_field (2 ^ 16) ehdr.Etype (λ n less. less))
    (row IsEhdrSet _ _ _ (ehdr_field (2 ^ 16) ehdr.Machine (λ n less. less))
    (row IsEhdrSet _ _ _ (ehdr_field (2 ^ 64) ehdr.Entry (λ n less. less))
    (row IsEhdrSet _ _ _ (ehdr_field (2 ^ 64) ehdr.Phoff (λ n less. less))
    (row IsEhdrSet _ _ _ (ehdr_field (2 ^ 64) ehdr.Shoff (λ n less. less))
    (row IsEhdrSet _ _ _ (ehdr_field (2 ^ 32) ehdr.Flags (λ n less. less))
    (row IsEhdrSet _ _ _ (ehdr_field (2 ^ 32) ehdr.Shstrndx (λ n less. less))
    (no_row IsEhdrSet)))))))))

phdr_field : (bound : ℕ) (made : ℕ → PhdrSet) → ((n : ℕ) → n < bound → IsPhdrSet (made n))
    → Tells IsPhdrSet (bounded_number bound ⇒ made)
phdr_field bound made holds =
    made_tells (λ n. n < bound) IsPhdrSet (bounded_number bound) made (number_tells bound) holds

phdr_rows : RowsTell IsPhdrSet phdr_field_phrases
unfolding phdr_field_phrases
phdr_rows =
    row IsPhdrSet _ _ _ (phdr_field (2 ^ 32) phdr.Ptype (λ n less. less))
    (row IsPhdrSet _ _ _ (phdr_field (2 ^ 32) phdr.Flags (λ n less. less))
    (row IsPhdrSet _ _ _ (phdr_field (2 ^ 64) phdr.Offset (λ n less. less))
    (row IsPhdrSet _ _ _ (phdr_field (2 ^ 64) phdr.Vaddr (λ n less. less))
    (row IsPhdrSet _ _ _ (phdr_field (2 ^ 64) phdr.Paddr (λ n less. less))
    (row IsPhdrSet _ _ _ (phdr_field (2 ^ 64) phdr.Filesz (λ n less. less))
    (row IsPhdrSet _ _ _ (phdr_field (2 ^ 64) phdr.Memsz (λ n less. less))
    (row IsPhdrSet _ _ _ (phdr_field (2 ^ 64) phdr.Align (λ n less. less))
    (no_row IsPhdrSet))))))))

shdr_field : (bound : ℕ) (made : ℕ → ShdrSet) → ((n : ℕ) → n < bound → IsShdrSet (made n))
    → Tells IsShdrSet (bounded_number bound ⇒ made)
shdr_field bound made holds =
    made_tells (λ n. n < bound) IsShdrSet (bounded_number bound) made (number_tells bound) holds

shdr_rows : RowsTell IsShdrSet shdr_field_phrases
unfolding shdr_field_phrases
shdr_rows =
    row IsShdrSet _ _ _ (shdr_field (2 ^ 32) shdr.Name (λ n less. less))
    (row IsShdrSet _ _ _ (shdr_field (2 ^ 32) shdr.Stype (λ n less. less))
    (row IsShdrSet _ _ _ (shdr_field (2 ^ 64) shdr.Flags (λ n less. less))
    (row IsShdrSet _ _ _ (shdr_field (2 ^ 64) shdr.Addr (λ n less. less))
    (row IsShdrSet _ _ _ (shdr_field (2 ^ 64) shdr.Offset (λ n less. less))
    (row IsShdrSet _ _ _ (shdr_field (2 ^ 64) shdr.Size (λ n less. less))
    (row IsShdrSet _ _ _ (shdr_field (2 ^ 32) shdr.Link (λ n less. less))
    (row IsShdrSet _ _ _ (shdr_field (2 ^ 32) shdr.Info (λ n less. less))
    (row IsShdrSet _ _ _ (shdr_field (2 ^ 64) shdr.Addralign (λ n less. less))
    (row IsShdrSet _ _ _ (shdr_field (2 ^ 64) shdr.Entsize (λ n less. less))
    (no_row IsShdrSet))))))))))

-- ---- Lines

-- a line of whose numbers nothing is asked
plain_tells : {A : Type 0} (part : Phrase A) (made : A → Call)
    → ((a : A) → IsScriptCall (made a)) → Tells IsScriptCall (part ⇒ made)
plain_tells part made holds =
    made_tells (λ a. Unit {0}) IsScriptCall part made (any_tells part) (λ a h. holds a)

just_tells : (c : Call) → IsScriptCall c → Tells IsScriptCall (just c)
just_tells c holds words x rest e =
    let is : Some c ≡ Some x = same_first (Some c, words) (Some x, rest) e in
    let same : c ≡ x = cc in
    subst IsScriptCall same holds

items_tell : (kind : Kind) → Tells IsScriptCall (item_set kind)
items_tell kind =
    plain_tells (piece_phrase & u64 & one_of (item_fields kind)) (λ (at, set). call.SetItem at.0 at.1 set)
    (λ x. tt)

set_rows : RowsTell IsScriptCall sets
unfolding sets
set_rows =
    row IsScriptCall _ _ _
    (made_tells IsEhdrSet IsScriptCall (one_of ehdr_field_phrases) call.SetEhdr
    (table_tells IsEhdrSet ehdr_field_phrases ehdr_rows) (λ v is. is))
    (row IsScriptCall _ _ _
    (made_tells (λ (x : ℕ × PhdrSet). Unit {0} × IsPhdrSet x.1) IsScriptCall
    (u32 & one_of phdr_field_phrases)
    (λ (i, set). call.SetPhdr i set)
    (both_tell (λ n. Unit {0}) IsPhdrSet u32 (one_of phdr_field_phrases) (any_tells u32)
    (table_tells IsPhdrSet phdr_field_phrases phdr_rows)) (λ x is. is.1))
    (row IsScriptCall _ _ _
    (made_tells (λ (x : ScnId × ShdrSet). Unit {0} × IsShdrSet x.1) IsScriptCall
    (section & one_of shdr_field_phrases)
    (λ (s, set). call.SetShdr s set)
    (both_tell (λ s. Unit {0}) IsShdrSet section (one_of shdr_field_phrases) (any_tells section)
    (table_tells IsShdrSet shdr_field_phrases shdr_rows)) (λ x is. is.1))
    (row IsScriptCall _ _ _ (items_tell _)
    (row IsScriptCall _ _ _ (items_tell _)
    (row IsScriptCall _ _ _ (items_tell _)
    (row IsScriptCall _ _ _ (items_tell _)
    (row IsScriptCall _ _ _ (items_tell _)
    (row IsScriptCall _ _ _ (items_tell _)
    (row IsScriptCall _ _ _ (items_tell _)
    (no_row IsScriptCall))))))))))

set_tells : Tells IsScriptCall set_line
unfolding set_line
set_tells = table_tells IsScriptCall sets set_rows

fill_tells : Tells IsScriptCall fill_line
unfolding fill_line
fill_tells =
    made_tells (λ n. n < 2 ^ 8) IsScriptCall (bounded_number (2 ^ 8)) call.Fill (number_tells (2 ^ 8))
    (λ n less. less)

phdr_tells : Tells IsScriptCall phdr_call_line
unfolding phdr_call_line
phdr_tells = plain_tells u32 call.Phdr (λ i. tt)

shdr_tells : Tells IsScriptCall shdr_line
unfolding shdr_line
shdr_tells = plain_tells section call.Shdr (λ s. tt)

pieces_tell : Tells IsScriptCall pieces_line
unfolding pieces_line
pieces_tell = plain_tells section call.Pieces (λ s. tt)

data_tells : Tells IsScriptCall data_line
unfolding data_line
data_tells = plain_tells piece_phrase call.Data (λ d. tt)

raw_tells : Tells IsScriptCall raw_line
unfolding raw_line
raw_tells = plain_tells section call.Raw (λ s. tt)

item_tells : Tells IsScriptCall item_line
unfolding item_line
item_tells = plain_tells (piece_phrase & u64) (λ (d, i). call.Item d i) (λ x. tt)

str_tells : Tells IsScriptCall str_line
unfolding str_line
str_tells = plain_tells (section & u64) (λ (s, off). call.Str s off) (λ x. tt)

note_tells : Tells IsScriptCall note_call_line
unfolding note_call_line
note_tells = plain_tells (piece_phrase & u64) (λ (d, at). call.Note d at) (λ x. tt)

find_tells : Tells IsScriptCall find_line
unfolding find_line
find_tells = plain_tells (section & name) (λ (s, text). call.Find s text) (λ x. tt)

addall_tells : Tells IsScriptCall addall_line
unfolding addall_line
addall_tells = plain_tells (piece_phrase & u64) (λ (d, n). call.AddAll d n) (λ x. tt)

newphdr_tells : Tells IsScriptCall newphdr_line
unfolding newphdr_line
newphdr_tells = plain_tells u32 call.NewPhdr (λ n. tt)

new_data_is : (s : ScnId) (bytes : List ℕ) (align : Option ℕ)
    → IsScriptCall (new_data s bytes align)
new_data_is s bytes None = tt
new_data_is s bytes (Some n) = tt

newdata_tells : Tells IsScriptCall newdata_line
unfolding newdata_line
newdata_tells =
    plain_tells (section & hex_phrase & optional u64) (λ (at, n). new_data at.0 at.1 n)
    (λ x. new_data_is x.0.0 x.0.1 x.1)

replace_tells : Tells IsScriptCall replace_line
unfolding replace_line
replace_tells = plain_tells (piece_phrase & hex_phrase) (λ (d, bytes). call.Replace d bytes) (λ x. tt)

flag_tells : Tells IsScriptCall flag_line
unfolding flag_line
flag_tells =
    plain_tells (one_of object_parts & one_of flag_words & u32)
    (λ (at, bits). call.Flag at.0 at.1 bits) (λ x. tt)

call_rows : RowsTell IsScriptCall calls
unfolding calls
call_rows =
    row IsScriptCall _ _ _ (just_tells call.Ehdr tt)
    (row IsScriptCall _ _ _ phdr_tells
    (row IsScriptCall _ _ _ shdr_tells
    (row IsScriptCall _ _ _ pieces_tell
    (row IsScriptCall _ _ _ data_tells
    (row IsScriptCall _ _ _ raw_tells
    (row IsScriptCall _ _ _ item_tells
    (row IsScriptCall _ _ _ str_tells
    (row IsScriptCall _ _ _ note_tells
    (row IsScriptCall _ _ _ find_tells
    (row IsScriptCall _ _ _ set_tells
    (row IsScriptCall _ _ _ addall_tells
    (row IsScriptCall _ _ _ (just_tells call.NewScn tt)
    (row IsScriptCall _ _ _ newphdr_tells
    (row IsScriptCall _ _ _ newdata_tells
    (row IsScriptCall _ _ _ fill_tells
    (row IsScriptCall _ _ _ replace_tells
    (row IsScriptCall _ _ _ flag_tells
    (row IsScriptCall _ _ _ (just_tells call.Null tt)
    (no_row IsScriptCall)))))))))))))))))))

-- ---- A script

call_tells : Tells IsScriptCall call_at
call_tells [] x rest e = cc
call_tells (w ∷ ws) x rest e = row_told IsScriptCall calls BadCall w ws x rest call_rows e

call_in_range : (words : List (List ℕ)) (c : Call) → call_of words ≡ Ok c → IsScriptCall c
unfolding call_of
call_in_range words c e =
    let read = bind_ok (call_at words) _ c e in
    let end = bind_ok (no_words_left read.0.1) _ c read.2 in
    by_read read.0 read.1 (or_refused_ok read.0.0 BadNumber c end.2)
  where
    by_read : (r : Read Call) → ◌≡◌ {A = Result (Read Call) Why} (call_at words) (Ok r)
        → r.0 ≡ Some c → IsScriptCall c
    by_read (None, left) said is = cc
    by_read (Some d, left) said is =
        let same : d ≡ c = cc in subst IsScriptCall same (call_tells words d left said)

on_line_ok : (n : ℕ) (r : Result Call Why) (c : Call) → on_line n r ≡ Ok c → r ≡ Ok c
on_line_ok n (Ok d) c e = cc
on_line_ok n (Err why) c e = cc

line_in_range : (n : ℕ) (line : List ℕ) (found : Option Call) → line_call n line ≡ Ok found
    → All IsScriptCall (option_to_list found)
unfolding line_call
line_in_range n line found e = by_test (is_passed_over line) e
  where
    by_test : (b : Bool)
        → ◌≡◌ {A = Result (Option Call) (ℕ × Why)} (if b then Ok None
        else (on_line n (call_of (words_of line)) >>= λ call. Ok (Some call))) (Ok found)
        → All IsScriptCall (option_to_list found)
    by_test true h =
        let same : None ≡ found = cc in
        subst (λ (x : Option Call). All IsScriptCall (option_to_list x)) same
        (All-nil IsScriptCall)
    by_test false h =
        let read = bind_ok (on_line n (call_of (words_of line))) (λ call. Ok (Some call)) found h in
        let same : Some read.0 ≡ found = let is = read.2 in cc in
        subst (λ (x : Option Call). All IsScriptCall (option_to_list x)) same
        (All-cons IsScriptCall read.0 []
        (call_in_range (words_of line) read.0
        (on_line_ok n (call_of (words_of line)) read.0 read.1))
        (All-nil IsScriptCall))

lines_in_range : (n : ℕ) (lines : List (List ℕ)) (cs : List Call) → calls_from n lines ≡ Ok cs
    → All IsScriptCall cs
unfolding calls_from
lines_in_range n [] cs e =
    let same : [] ≡ cs = cc in subst (λ (l : List Call). All IsScriptCall l) same
    (All-nil IsScriptCall)
lines_in_range n (line ∷ lines) cs e =
    let first = bind_ok (line_call n line) _ cs e in
    let later = bind_ok (calls_from (n + 1) lines) (λ later. Ok (option_to_list first.0 ++ later))
    cs first.2 in
    let same : option_to_list first.0 ++ later.0 ≡ cs = let is = later.2 in cc in
    subst (λ (l : List Call). All IsScriptCall l) same
    (All-append IsScriptCall (option_to_list first.0) later.0
    (line_in_range n line first.0 first.1) (lines_in_range (n + 1) lines later.0 later.1))

with_line_ok : (r : Result (List Call) (ℕ × Why)) (cs : List Call) → with_line r ≡ Ok cs
    → r ≡ Ok cs
with_line_ok (Ok l) cs e = cc
with_line_ok (Err fault) cs e = cc

pub scripts_are_in_range : ScriptsAreInRange
unfolding script_calls calls_of
scripts_are_in_range script cs e = by_test (nat_lt MAX_SCRIPT (length script)) e
  where
    by_test : (b : Bool)
        → with_line (if b then Err (0, TooLong) else calls_from 1 (lines_of script)) ≡ Ok cs
        → All IsScriptCall cs
    by_test true h = cc
    by_test false h =
        lines_in_range 1 (lines_of script) cs
        (with_line_ok (calls_from 1 (lines_of script)) cs h)
