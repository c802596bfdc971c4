-- The changes of copy that words of bytes ask for are in their ranges.
use Rattle.std.proofs.Common.{◌≡◌, ℕ, ◌+◌, ◌<◌, ◌^◌, ◌&&◌, ◌==◌, Bool, true, false, cond, List, [], ◌∷◌, length, drop, Option, Some, None, IfSome, option_map, option_and_then, nat_le, nat_lt, bytes_eq, refl, sym, Ok, subst}
use Rattle.std.specs.Prelude.{All, codes, nat_eq}
use Rattle.std.specs.List.{filter_map, cons_option, position_or_len, starts_with}
use Rattle.std.specs.Str.{byte}
use Rattle.std.specs.Str.Parse.{digits_value}
use Rattle.std.proofs.lemmas.Bool.{and_parts, ltb-true}
use Rattle.std.proofs.lemmas.List.Elements.{filter_map-append, All-nil, All-cons, All-head, All-tail, All-append, All-take, All-drop}
use Rattle.elf_types.specs.Digits.{are_digits}
use Rattle.elf_types.specs.Lists.{AreBytes}
use Rattle.elf_outside.specs.Names.{Map}
use Rattle.elfkit_run.specs.elfkit_words.declared.usages.Usage.{Usage}
use Rattle.elfkit_run.specs.elfkit_words.declared.usages.Usage.TheVariants as usage
use Rattle.elfkit_run.specs.elfkit_words.declared.notices.Notice.TheVariants.{Help}
use Rattle.elfkit_run.specs.elfkit_words.Usages.{stands_alone, takes_option_argument}
use Rattle.elfkit_run.specs.elfkit_words.declared.commands.Command.{Command}
use Rattle.elfkit_run.specs.elfkit_words.declared.commands.Command.TheVariants as command
use Rattle.elfkit_outcomes.specs.rebuild_changes.declared.options.CopyChanges.{CopyChanges}
use Rattle.elfkit_run.specs.elfkit_words.declared.commands.Request.{Request}
use Rattle.elfkit_run.specs.elfkit_words.declared.commands.Request.TheVariants.{Run, Tell}
use Rattle.elfkit_run.specs.elfkit_words.Numbers.{numeral, script_number_of}
use Rattle.elfkit_run.specs.elfkit_words.Splitting.{Group, last_of_group, group_of, split_of, is_option_word}
use Rattle.elfkit_run.specs.elfkit_words.Reading.{option_argument_of, option_arguments, all_values, one_or_more, radix_of, least_run_length, number_within, has_option, output_of, is_equals, split_at_equals, name_of, named_file_of, renaming_of, named_bits_of, readelf_command, nm_command, size_command, strings_command, strip_command, elflint_command, calls_command, selftest_command, rehash_command, changes_of, copy_command, unstrip_command, lines_command, of_split, request_of, request_of_words}
use Rattle.tool_text.specs.Arguments.{only_one, only_two, last}
use Rattle.elfkit_outcomes.specs.rebuild_changes.Names.{is_section_name}
use Rattle.law_files.specs.Copy.CopiedFiles.{AreInRange}
use Rattle.law_run.specs.Copied.{AreAllBytes}
use Rattle.law_run.proofs.Requests.{request_known}

-- ---- Values that come out of steps

record Yields {A : Type 0} (o : Option A) (Q : A → Type 0) : Type 0 where
  holds : IfSome o Q

at_value : {A : Type 0} {Q : A → Type 0} (o : Option A) (x : A) → o ≡ Some x → Yields o Q → Q x
at_value {Q = Q} o x e h = subst (λ p. IfSome p Q) e h.holds

then_yields : {A B : Type 0} {Q : B → Type 0} (o : Option A) {f : A → Option B}
    → ((x : A) → o ≡ Some x → Yields (f x) Q) → Yields (option_and_then f o) Q
then_yields None each = record { holds = tt }
then_yields (Some x) each = each x refl

if_yields : {A : Type 0} {Q : A → Type 0} (b : Bool) (x : A) → (b ≡ true → Q x)
    → Yields (cond b (Some x) None) Q
if_yields true x each = record { holds = each refl }
if_yields false x each = record { holds = tt }

unless_yields : {A : Type 0} {Q : A → Type 0} (b : Bool) (x : A) → Q x
    → Yields (cond b None (Some x)) Q
unless_yields true x each = record { holds = tt }
unless_yields false x each = record { holds = each }

some_yields : {A : Type 0} {Q : A → Type 0} {x : A} → Q x → Yields (Some x) Q
some_yields h = record { holds = h }

none_yields : {A : Type 0} {Q : A → Type 0} → Yields None Q
none_yields = record { holds = tt }

either_yields : {A : Type 0} {Q : A → Type 0} (b : Bool) (x y : Option A) → Yields x Q → Yields y Q
    → Yields (cond b x y) Q
either_yields true x y one other = one
either_yields false x y one other = other

map_yields : {A B : Type 0} {P : A → Type 0} {Q : B → Type 0} (f : A → B) (o : Option A)
    → Yields o P → ((x : A) → P x → Q (f x)) → Yields (option_map f o) Q
map_yields f None is holds = record { holds = tt }
map_yields f (Some x) is holds = record { holds = holds x is.holds }

-- ---- Options

-- all option-arguments are bytes, by their letters
abbrev IsGroup : Group → Type 0
IsGroup g = (letter : ℕ) → All AreBytes (option_arguments letter g.options)

-- of one option more, with or without an option-argument
lone_is : (here : Bool) (others : List (List ℕ)) → All AreBytes others
    → All AreBytes (cons_option (cond here None None) others)
lone_is true others are = are
lone_is false others are = are

with_is : (here : Bool) (argument : List ℕ) (others : List (List ℕ)) → AreBytes argument
    → All AreBytes others → All AreBytes (cons_option (cond here (Some argument) None) others)
with_is true argument others is are = All-cons AreBytes argument others is are
with_is false argument others is are = are

last_is : (letter : ℕ) (rest : List ℕ) → AreBytes rest → IsGroup (last_of_group letter rest)
unfolding option_arguments
last_is letter [] are other = All-nil AreBytes
last_is letter (c ∷ cs) are other =
    with_is (letter == other) (c ∷ cs) [] are (All-nil AreBytes)

group_is : (u : Usage) (letters : List ℕ) → AreBytes letters → Yields (group_of u letters) IsGroup
unfolding group_of option_arguments
group_is u [] are = some_yields (λ other. All-nil AreBytes)
group_is u (letter ∷ rest) are =
    let left = All-tail (λ (n : ℕ). n < 2 ^ 8) letter rest are in
    either_yields (takes_option_argument u letter) _ _
    (some_yields (last_is letter rest left))
    (either_yields (stands_alone u letter) _ _
    (map_yields {P = IsGroup} {Q = IsGroup} _ (group_of u rest) (group_is u rest left)
    (λ g is other.
    lone_is (letter == other) (filter_map (option_argument_of other) g.options) (is other)))
    none_yields)

split_is : (u : Usage) (waiting : Option ℕ) (words : List (List ℕ)) → All AreBytes words
    → Yields (split_of u waiting words)
    (λ s. (letter : ℕ) → All AreBytes (option_arguments letter s.options))
unfolding split_of option_arguments
split_is u (Some letter) [] are = none_yields
split_is u (Some letter) (word ∷ words) are =
    map_yields _ (split_of u None words) (split_is u None words (All-tail AreBytes word words are))
    (λ s is other.
    with_is (letter == other) word (filter_map (option_argument_of other) s.options)
    (All-head AreBytes word words are) (is other))
split_is u None [] are = some_yields (λ other. All-nil AreBytes)
split_is u None (word ∷ words) are =
    let left = All-drop (λ (n : ℕ). n < 2 ^ 8) 1 word (All-head AreBytes word words are) in
    either_yields (is_option_word word) _ _
    (either_yields (bytes_eq word (codes "--")) _ _ (some_yields (λ other. All-nil AreBytes))
    (either_yields (bytes_eq word (codes "--help")) _ _ (some_yields (λ other. All-nil AreBytes))
    (then_yields (group_of u (drop 1 word)) (λ g is.
    map_yields _ (split_of u g.waiting words)
    (split_is u g.waiting words (All-tail AreBytes word words are))
    (λ s both other.
    subst (λ (l : List (List ℕ)). All AreBytes l)
    (sym (filter_map-append (option_argument_of other) g.options s.options))
    (All-append AreBytes (filter_map (option_argument_of other) g.options)
    (filter_map (option_argument_of other) s.options)
    (at_value {Q = IsGroup} (group_of u (drop 1 word)) g is (group_is u (drop 1 word) left) other)
    (both other)))))))
    (some_yields (λ other. All-nil AreBytes))

-- ---- Values of option-arguments

values_are : {X : Type 0} (value : List ℕ → Option X) (P : X → Type 0)
    → ((w : List ℕ) → AreBytes w → Yields (value w) P) → (ws : List (List ℕ)) → All AreBytes ws
    → Yields (all_values value ws) (All P)
unfolding all_values
values_are value P each [] are = some_yields (All-nil P)
values_are value P each (w ∷ ws) are =
    then_yields (value w) (λ x x_is. then_yields (all_values value ws) (λ xs xs_are.
    some_yields (All-cons P x xs
    (at_value (value w) x x_is (each w (All-head AreBytes w ws are)))
    (at_value (all_values value ws) xs xs_are
    (values_are value P each ws (All-tail AreBytes w ws are))))))

parts_are : (w : List ℕ) → AreBytes w
    → Yields (split_at_equals w) (λ p. AreBytes p.0 × AreBytes p.1)
unfolding split_at_equals
parts_are w are = if_yields _ _ (λ t. (
  All-take (λ (n : ℕ). n < 2 ^ 8) (position_or_len is_equals w) w are,
  All-drop (λ (n : ℕ). n < 2 ^ 8) (position_or_len is_equals w + 1) w are,
))

named_file_is : (w : List ℕ) → AreBytes w → Yields (named_file_of w) (λ f. AreBytes f.name)
unfolding named_file_of
named_file_is w are =
    then_yields (split_at_equals w) (λ parts is.
    if_yields (is_section_name parts.0) _ (λ t.
    (at_value (split_at_equals w) parts is (parts_are w are)).0))

renaming_is : (w : List ℕ) → AreBytes w → Yields (renaming_of w) (λ r. AreBytes r.new)
unfolding renaming_of
renaming_is w are =
    then_yields (split_at_equals w) (λ parts is.
    if_yields (is_section_name parts.0 && is_section_name parts.1) _ (λ t.
    (at_value (split_at_equals w) parts is (parts_are w are)).1))

numeral_is : (radix most : ℕ) (w : List ℕ) → Yields (numeral radix most w) (λ n. n < 2 ^ 64)
unfolding numeral
numeral_is radix most w =
    if_yields (are_digits radix w && nat_le 1 (length w) && nat_le (length w) most
    && nat_lt (digits_value radix w) (2 ^ 64)) (digits_value radix w)
    (λ t. ltb-true (digits_value radix w) (2 ^ 64) (and_parts _ _ t).1)

bits_are : (w : List ℕ) → Yields (script_number_of w) (λ n. n < 2 ^ 64)
unfolding script_number_of
bits_are w =
    either_yields (starts_with nat_eq w (codes "0x")) _ _ (numeral_is 16 16 (drop 2 w))
    (numeral_is 10 20 w)

named_bits_is : (w : List ℕ) → AreBytes w → Yields (named_bits_of w) (λ f. f.bits < 2 ^ 64)
unfolding named_bits_of
named_bits_is w are =
    then_yields (split_at_equals w) (λ parts p. then_yields (script_number_of parts.1) (λ bits is.
    if_yields (is_section_name parts.0) _ (λ t.
    at_value (script_number_of parts.1) bits is (bits_are parts.1))))

-- ---- The changes

record HasRanges (c : CopyChanges) : Type 0 where
  renamed : All (λ r. AreBytes r.new) c.rename
  added : All (λ f. AreBytes f.name) c.add
  flags : All (λ f. f.bits < 2 ^ 64) c.flags

changes_are : (g : Group) → IsGroup g → Yields (changes_of g.options) HasRanges
unfolding changes_of
changes_are g are =
    let options = g.options in
    then_yields (all_values name_of (option_arguments (byte "R") options)) (λ remove r.
    then_yields (all_values named_file_of (option_arguments (byte "u") options)) (λ update u.
    then_yields (all_values renaming_of (option_arguments (byte "n") options)) (λ rename n.
    then_yields (all_values named_bits_of (option_arguments (byte "f") options)) (λ flags f.
    then_yields (all_values named_file_of (option_arguments (byte "a") options)) (λ add a.
    some_yields (record {
      renamed = at_value (all_values renaming_of (option_arguments (byte "n") options)) rename n
          (values_are renaming_of (λ r. AreBytes r.new) renaming_is
          (option_arguments (byte "n") options) (are (byte "n")));
      added = at_value (all_values named_file_of (option_arguments (byte "a") options)) add a
          (values_are named_file_of (λ f. AreBytes f.name) named_file_is
          (option_arguments (byte "a") options) (are (byte "a")));
      flags = at_value (all_values named_bits_of (option_arguments (byte "f") options)) flags f
          (values_are named_bits_of (λ f. f.bits < 2 ^ 64) named_bits_is
          (option_arguments (byte "f") options) (are (byte "f")));
    }))))))

-- of a request, where it is for copy
abbrev IsCopyInRange : Command → Type 0
IsCopyInRange (command.Copy changes out file) = HasRanges changes
IsCopyInRange _ = Unit {0}

abbrev IsRequestInRange : Request → Type 0
IsRequestInRange (Run command) = IsCopyInRange command
IsRequestInRange (Tell notice) = Unit {0}

asked : (u : Usage) (asks : Bool) (o : Option Command) → Yields o IsCopyInRange
    → Yields (cond asks (Some (Tell (Help u))) (option_map Run o)) IsRequestInRange
asked u true o is = some_yields tt
asked u false o is = map_yields Run o is (λ c h. h)

request_is : (u : Usage) (words : List (List ℕ)) → All AreBytes words
    → Yields (request_of u words) IsRequestInRange
unfolding request_of of_split readelf_command nm_command size_command strings_command strip_command
    elflint_command calls_command selftest_command rehash_command copy_command unstrip_command
    lines_command
request_is usage.Readelf words are =
    then_yields (split_of usage.Readelf None words) (λ split s.
    asked usage.Readelf split.asks_help _
    (then_yields (one_or_more split.operands) (λ files f.
    unless_yields (length split.options == 0) _ tt)))
request_is usage.Nm words are =
    then_yields (split_of usage.Nm None words) (λ split s.
    asked usage.Nm split.asks_help _
    (then_yields (one_or_more split.operands) (λ files f.
    then_yields (all_values radix_of (option_arguments (byte "t") split.options)) (λ radixes r.
    some_yields tt))))
request_is usage.Size words are =
    then_yields (split_of usage.Size None words) (λ split s.
    asked usage.Size split.asks_help _
    (then_yields (one_or_more split.operands) (λ files f. some_yields tt)))
request_is usage.Strings words are =
    then_yields (split_of usage.Strings None words) (λ split s.
    asked usage.Strings split.asks_help _
    (then_yields (one_or_more split.operands) (λ files f.
    then_yields (all_values least_run_length (option_arguments (byte "n") split.options)) (λ lengths l.
    then_yields (all_values radix_of (option_arguments (byte "t") split.options)) (λ radixes r.
    some_yields tt)))))
request_is usage.Strip words are =
    then_yields (split_of usage.Strip None words) (λ split s.
    asked usage.Strip split.asks_help _
    (then_yields (only_one split.operands) (λ file f.
    then_yields (last (option_arguments (byte "o") split.options)) (λ out o.
    if_yields _ _ (λ t. tt)))))
request_is usage.Elflint words are =
    then_yields (split_of usage.Elflint None words) (λ split s.
    asked usage.Elflint split.asks_help _
    (then_yields (one_or_more split.operands) (λ files f. some_yields tt)))
request_is usage.Calls words are =
    then_yields (split_of usage.Calls None words) (λ split s.
    asked usage.Calls split.asks_help _
    (then_yields (only_two split.operands) (λ files f.
    then_yields (output_of (has_option (byte "i") split.options)
    (last (option_arguments (byte "o") split.options)) files.0 files.1) (λ output o.
    some_yields tt))))
request_is usage.Selftest words are =
    then_yields (split_of usage.Selftest None words) (λ split s.
    asked usage.Selftest split.asks_help _
    (then_yields (only_one split.operands) (λ word w.
    then_yields (last (option_arguments (byte "o") split.options)) (λ out o.
    then_yields (number_within 1 60000 word) (λ count c. some_yields tt)))))
request_is usage.Rehash words are =
    then_yields (split_of usage.Rehash None words) (λ split s.
    asked usage.Rehash split.asks_help _
    (then_yields (only_one split.operands) (λ file f.
    then_yields (last (option_arguments (byte "o") split.options)) (λ out o.
    if_yields _ _ (λ t. tt)))))
request_is usage.Copy words are =
    then_yields (split_of usage.Copy None words) (λ split s.
    asked usage.Copy split.asks_help _
    (then_yields (only_one split.operands) (λ file f.
    then_yields (last (option_arguments (byte "o") split.options)) (λ out o.
    then_yields (changes_of split.options) (λ changes is. unless_yields _ _
    (at_value (changes_of split.options) changes is
    (changes_are (record { options = split.options; waiting = None })
    (at_value (split_of usage.Copy None words) split s (split_is usage.Copy None words are)))))))))
request_is usage.Unstrip words are =
    then_yields (split_of usage.Unstrip None words) (λ split s.
    asked usage.Unstrip split.asks_help _
    (then_yields (only_two split.operands) (λ files f.
    then_yields (last (option_arguments (byte "o") split.options)) (λ out o.
    if_yields _ _ (λ t. tt)))))
request_is usage.Lines words are =
    then_yields (split_of usage.Lines None words) (λ split s.
    asked usage.Lines split.asks_help _
    (then_yields (one_or_more split.operands) (λ files f. some_yields tt)))
request_is usage.General words are =
    then_yields (split_of usage.General None words) (λ split s.
    asked usage.General split.asks_help _ none_yields)

pub copy_in_range : (words : List (List ℕ)) (c : CopyChanges) (out file : List ℕ) (named : Map)
    → AreAllBytes words named → request_of_words words ≡ Ok (Run (command.Copy c out file))
    → AreInRange c named
copy_in_range words c out file named are asked =
    let is = request_known words (command.Copy c out file) asked in
    let rest = All-tail AreBytes is.name is.rest
    (subst (λ (l : List (List ℕ)). All AreBytes l) is.words_are are.words_are) in
    let ranges : HasRanges c =
    at_value (request_of is.usage is.rest) (Run (command.Copy c out file)) is.asked
    (request_is is.usage is.rest rest) in
    record {
      files = are.files_are;
      renamed = ranges.renamed;
      added = ranges.added;
      flags = ranges.flags;
    }
