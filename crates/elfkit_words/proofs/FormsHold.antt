-- Every command that is read is well formed.
use Rattle.std.proofs.Common.{◌≡◌, ◌≢◌, ◌≤◌, ◌&&◌, ◌||◌, ◌==◌, List, [], ◌∷◌, ℕ, Bool, true, false, cond, bytes_eq, nat_le, length, Option, Some, None, IfSome, option_map, option_and_then, option_to_list, unwrap_or, refl, subst}
use Rattle.std.specs.Str.{byte}
use Rattle.std.specs.List.{list_all, last_or}
use Rattle.std.proofs.lemmas.Bool.{and_parts, and_from, or_parts, leb-true, not-true}
use Rattle.std.proofs.lemmas.Bool.Decides.{not_from_Decides}
use Rattle.std.proofs.lemmas.Slice.Eq.{bytes_eq-Decides}
use Rattle.elfkit_words.specs.declared.usages.Usage.{Usage}
use Rattle.elfkit_words.specs.declared.usages.Usage.TheVariants as usage
use Rattle.elfkit_words.specs.declared.splitting.CommandOption.{CommandOption}
use Rattle.elfkit_words.specs.declared.splitting.Split.{Split}
use Rattle.elfkit_words.specs.declared.commands.Command.{Command}
use Rattle.elfkit_words.specs.declared.commands.Request.{Request}
use Rattle.elfkit_words.specs.declared.commands.Request.TheVariants.{Run, Tell}
use Rattle.elfkit_words.specs.declared.notices.Notice.TheVariants.{Help}
use Rattle.elfkit_words.specs.Splitting.{split_of}
use Rattle.elfkit_words.specs.Numbers.{word_number_of, script_number_of}
use Rattle.elfkit_words.specs.Reading.{one_or_more, option_arguments, has_option, radix_of, split_at_equals, readelf_command, nm_command, size_command, strings_command, strip_command, elflint_command, calls_command, output_of, selftest_command, rehash_command, copy_command, changes_of, unstrip_command, lines_command, of_split, request_of, all_values, all_differ, least_run_length, number_within, name_of, named_file_of, renaming_of, named_bits_of, is_file_of}
use Rattle.tool_text.specs.Arguments.{only_one, only_two, last}
use Rattle.rebuild_changes.specs.Names.{is_section_name}
use Rattle.elfkit_words.specs.Forms.{IsGoodRequest, IsWellFormed, ThreeDiffer}
use Rattle.rebuild_changes.specs.Names.{HasNames}
use Rattle.calls_tool.specs.Update.Outputs.{IsOutputApart}

-- Q holds of the value, if there is one
record Yields {A : Type 0} (Q : A → Type 0) (o : Option A) : Type 0 where
  holds : IfSome o Q

-- what holds of a value that comes out of steps
bind_all : {A B : Type 0} {Q : B → Type 0} (o : Option A) {f : A → Option B} → ((x : A) → o ≡ Some x → Yields Q (f x)) → Yields Q (option_and_then f o)
bind_all None each = record { holds = tt }
bind_all (Some x) each = each x refl

if_all : {A : Type 0} {Q : A → Type 0} (b : Bool) (x : A) → (b ≡ true → Q x) → Yields Q (cond b (Some x) None)
if_all true x each = record { holds = each refl }
if_all false x each = record { holds = tt }

unless_all : {A : Type 0} {Q : A → Type 0} (b : Bool) (x : A) → (b ≡ false → Q x) → Yields Q (cond b None (Some x))
unless_all true x each = record { holds = tt }
unless_all false x each = record { holds = each refl }

some_all : {A : Type 0} {Q : A → Type 0} {x : A} → Q x → Yields Q (Some x)
some_all h = record { holds = h }

at_some : {A : Type 0} {Q : A → Type 0} {o : Option A} {x : A} → o ≡ Some x → Yields Q o → Q x
at_some {Q = Q} e h = subst (λ p. IfSome p Q) e h.holds

-- what holds of each value of the option-arguments
values_all : {X : Type 0} (value : List ℕ → Option X) (test : X → Bool) → ((w : List ℕ) → Yields (λ x. test x ≡ true) (value w)) → (ws : List (List ℕ)) → Yields (λ xs. list_all test xs ≡ true) (all_values value ws)
unfolding all_values
values_all value test each [] = some_all refl
values_all value test each (w ∷ ws) =
    bind_all (value w) (λ x x_is. bind_all (all_values value ws) (λ xs xs_is.
    some_all (and_from _ _ (at_some x_is (each w)) (at_some xs_is (values_all value test each ws)))))

-- the last value, or another one
last_all : {X : Type 0} (test : X → Bool) (o : Option X) (d : X) (xs : List X) → test (unwrap_or o d) ≡ true → list_all test xs ≡ true → test (unwrap_or (last_or o xs) d) ≡ true
last_all test o d [] before each = before
last_all test o d (x ∷ xs) before each = last_all test (Some x) d xs (and_parts _ _ each).0 (and_parts _ _ each).1

-- words that differ
differ : (v w : List ℕ) → bytes_eq v w ≡ false → v ≢ w
differ v w no' = not_from_Decides _ (bytes_eq-Decides v w) no'

within : ℕ → ℕ → ℕ → Bool
within low high n = nat_le low n && nat_le n high

number_all : (low high : ℕ) (w : List ℕ) → Yields (λ n. within low high n ≡ true) (number_within low high w)
unfolding number_within within
number_all low high w = bind_all (word_number_of w) (λ n _. if_all (nat_le low n && nat_le n high) n (λ t. t))

within_parts : (low high n : ℕ) → within low high n ≡ true → (low ≤ n) × (n ≤ high)
unfolding within
within_parts low high n t = let p = and_parts _ _ t in (leb-true _ _ p.0, leb-true _ _ p.1)

least_all : (w : List ℕ) → Yields (λ n. within 1 4096 n ≡ true) (least_run_length w)
unfolding least_run_length
least_all w = number_all 1 4096 w

strings_form : (split : Split) → Yields IsWellFormed (strings_command split)
unfolding strings_command last within
strings_form split =
    bind_all (one_or_more split.operands) (λ files _. bind_all (all_values least_run_length (option_arguments (byte "n") split.options)) (λ lengths lengths_are. bind_all (all_values radix_of (option_arguments (byte "t") split.options)) (λ radixes _.
    some_all (within_parts 1 4096 _ (last_all (within 1 4096) None 4 lengths refl (at_some lengths_are (values_all least_run_length (within 1 4096) least_all _)))))))

-- two and three words that differ
two_differ : (v w : List ℕ) → all_differ (v ∷ w ∷ []) ≡ true → v ≢ w
unfolding all_differ
two_differ v w t = differ v w (or_parts _ _ (not-true _ (and_parts _ _ t).0)).0

three_differ : (u v w : List ℕ) → all_differ (u ∷ v ∷ w ∷ []) ≡ true → ThreeDiffer u v w
unfolding all_differ
three_differ u v w t =
    let p = and_parts _ _ t in
    let first = or_parts _ _ (not-true _ p.0) in
    record {
      second_differs = differ u v first.0;
      third_differs = differ u w (or_parts _ _ first.1).0;
      last_two_differ = two_differ v w p.1;
    }

strip_differ : (out file : List ℕ) (debug : Option (List ℕ)) → all_differ (out ∷ file ∷ option_to_list debug) ≡ true → (out ≢ file) × IfSome debug (λ d. ThreeDiffer out file d)
strip_differ out file None t = (two_differ out file t, tt)
strip_differ out file (Some debug) t = let p = three_differ out file debug t in (p.second_differs, p)

strip_form : (split : Split) → Yields IsWellFormed (strip_command split)
unfolding strip_command
strip_form split =
    bind_all (only_one split.operands) (λ file _. bind_all (last (option_arguments (byte "o") split.options)) (λ out _.
    if_all (all_differ (out ∷ file ∷ option_to_list (last (option_arguments (byte "f") split.options)))) _ (λ t. strip_differ out file (last (option_arguments (byte "f") split.options)) t)))

output_form : (in_place : Bool) (to : Option (List ℕ)) (file script : List ℕ) → Yields (λ output. IsOutputApart output file script) (output_of in_place to file script)
unfolding output_of
output_form false None file script = some_all tt
output_form true None file script = some_all tt
output_form false (Some out) file script =
    unless_all (bytes_eq out file || bytes_eq out script) _ (λ t. let p = or_parts _ _ t in (differ out file p.0, differ out script p.1))
output_form true (Some out) file script = record { holds = tt }

calls_form : (split : Split) → Yields IsWellFormed (calls_command split)
unfolding calls_command
calls_form split =
    bind_all (only_two split.operands) (λ files _. bind_all (output_of (has_option (byte "i") split.options) (last (option_arguments (byte "o") split.options)) files.0 files.1) (λ output output_is. some_all (at_some output_is (output_form _ _ files.0 files.1))))

selftest_form : (split : Split) → Yields IsWellFormed (selftest_command split)
unfolding selftest_command
selftest_form split =
    bind_all (only_one split.operands) (λ word _. bind_all (last (option_arguments (byte "o") split.options)) (λ out _. bind_all (number_within 1 60000 word) (λ count count_is.
    some_all (within_parts 1 60000 count (at_some count_is (number_all 1 60000 word))))))

rehash_form : (split : Split) → Yields IsWellFormed (rehash_command split)
unfolding rehash_command
rehash_form split = bind_all (only_one split.operands) (λ file _. bind_all (last (option_arguments (byte "o") split.options)) (λ out _. if_all (all_differ (out ∷ file ∷ [])) _ (λ t. two_differ out file t)))

name_all : (w : List ℕ) → Yields (λ n. is_section_name n ≡ true) (name_of w)
unfolding name_of
name_all w = if_all (is_section_name w) w (λ t. t)

named_file_all : (w : List ℕ) → Yields (λ n. is_section_name n.name ≡ true) (named_file_of w)
unfolding named_file_of
named_file_all w = bind_all (split_at_equals w) (λ parts _. if_all (is_section_name parts.0) _ (λ t. t))

renaming_old_all : (w : List ℕ) → Yields (λ n. is_section_name n.old ≡ true) (renaming_of w)
unfolding renaming_of
renaming_old_all w = bind_all (split_at_equals w) (λ parts _. if_all (is_section_name parts.0 && is_section_name parts.1) _ (λ t. (and_parts _ _ t).0))

renaming_new_all : (w : List ℕ) → Yields (λ n. is_section_name n.new ≡ true) (renaming_of w)
unfolding renaming_of
renaming_new_all w = bind_all (split_at_equals w) (λ parts _. if_all (is_section_name parts.0 && is_section_name parts.1) _ (λ t. (and_parts _ _ t).1))

named_bits_all : (w : List ℕ) → Yields (λ n. is_section_name n.name ≡ true) (named_bits_of w)
unfolding named_bits_of
named_bits_all w = bind_all (split_at_equals w) (λ parts _. bind_all (script_number_of parts.1) (λ bits _. if_all (is_section_name parts.0) _ (λ t. t)))

changes_form : (options : List CommandOption) → Yields HasNames (changes_of options)
unfolding changes_of
changes_form options =
    bind_all (all_values name_of (option_arguments (byte "R") options)) (λ remove r. bind_all (all_values named_file_of (option_arguments (byte "u") options)) (λ update u. bind_all (all_values renaming_of (option_arguments (byte "n") options)) (λ rename n. bind_all (all_values named_bits_of (option_arguments (byte "f") options)) (λ flags f. bind_all (all_values named_file_of (option_arguments (byte "a") options)) (λ add a.
    some_all (record {
      remove = at_some r (values_all name_of is_section_name name_all _);
      update = at_some u (values_all named_file_of (λ n. is_section_name n.name) named_file_all _);
      rename_old = at_some n (values_all renaming_of (λ n. is_section_name n.old) renaming_old_all _);
      rename_new = at_some n (values_all renaming_of (λ n. is_section_name n.new) renaming_new_all _);
      flags = at_some f (values_all named_bits_of (λ n. is_section_name n.name) named_bits_all _);
      add = at_some a (values_all named_file_of (λ n. is_section_name n.name) named_file_all _);
    }))))))

copy_form : (split : Split) → Yields IsWellFormed (copy_command split)
unfolding copy_command
copy_form split =
    bind_all (only_one split.operands) (λ file _. bind_all (last (option_arguments (byte "o") split.options)) (λ out _. bind_all (changes_of split.options) (λ changes changes_are.
    unless_all (bytes_eq out file || is_file_of out changes.update || is_file_of out changes.add) _ (λ t.
    let p = or_parts _ _ t in
    let q = or_parts _ _ p.0 in (
      at_some changes_are (changes_form split.options),
      record { file_differs = differ out file q.0; update_differs = q.1; add_differs = p.1 },
    )))))

unstrip_form : (split : Split) → Yields IsWellFormed (unstrip_command split)
unfolding unstrip_command
unstrip_form split = bind_all (only_two split.operands) (λ files _. bind_all (last (option_arguments (byte "o") split.options)) (λ out _. if_all (all_differ (out ∷ files.0 ∷ files.1 ∷ [])) _ (λ t. three_differ out files.0 files.1 t)))

-- the commands of which nothing more is said
readelf_form : (split : Split) → Yields IsWellFormed (readelf_command split)
unfolding readelf_command
readelf_form split = bind_all (one_or_more split.operands) (λ files _. unless_all (length split.options == 0) _ (λ _. tt))

nm_form : (split : Split) → Yields IsWellFormed (nm_command split)
unfolding nm_command
nm_form split = bind_all (one_or_more split.operands) (λ files _. bind_all (all_values radix_of (option_arguments (byte "t") split.options)) (λ radixes _. some_all tt))

size_form : (split : Split) → Yields IsWellFormed (size_command split)
unfolding size_command
size_form split = bind_all (one_or_more split.operands) (λ files _. some_all tt)

elflint_form : (split : Split) → Yields IsWellFormed (elflint_command split)
unfolding elflint_command
elflint_form split = bind_all (one_or_more split.operands) (λ files _. some_all tt)

lines_form : (split : Split) → Yields IsWellFormed (lines_command split)
unfolding lines_command
lines_form split = bind_all (one_or_more split.operands) (λ files _. some_all tt)

split_form : (u : Usage) (split : Split) → Yields IsWellFormed (of_split u split)
unfolding of_split
split_form usage.Readelf split = readelf_form split
split_form usage.Nm split = nm_form split
split_form usage.Size split = size_form split
split_form usage.Strings split = strings_form split
split_form usage.Strip split = strip_form split
split_form usage.Elflint split = elflint_form split
split_form usage.Calls split = calls_form split
split_form usage.Selftest split = selftest_form split
split_form usage.Rehash split = rehash_form split
split_form usage.Copy split = copy_form split
split_form usage.Unstrip split = unstrip_form split
split_form usage.Lines split = lines_form split
split_form usage.General split = record { holds = tt }

run_all : (o : Option Command) → Yields IsWellFormed o → Yields IsGoodRequest (option_map Run o)
run_all None h = record { holds = tt }
run_all (Some command) h = record { holds = h.holds }

-- a request for help, or what the words say
either_form : (u : Usage) (split : Split) (asks : Bool) → Yields IsGoodRequest (cond asks (Some (Tell (Help u))) (option_map Run (of_split u split)))
either_form u split true = some_all tt
either_form u split false = run_all (of_split u split) (split_form u split)

request_form : (u : Usage) (words : List (List ℕ)) → Yields IsGoodRequest (request_of u words)
unfolding request_of
request_form u words = bind_all (split_of u None words) (λ split _. either_form u split split.asks_help)

-- what was read is well formed
pub read_form : (u : Usage) (words : List (List ℕ)) (request : Request) → request_of u words ≡ Some request → IsGoodRequest request
read_form u words request is = at_some is (request_form u words)
