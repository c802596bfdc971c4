-- The tests of the rules 22 to 25 by what is known of a table, and of the end of its strings: no
-- more of the object is looked at. The laws that they are those of the rules stand here, since the
-- laws of an impl cannot name proofs/.
use Rattle.std.proofs.Common.{◌≡◌, ◌==◌, ℕ, ◌&&◌, ◌||◌, not, Bool, true, false, Option, Some, None, IfSome, refl, sym, ap, ◌∙◌, arith}
use Rattle.std.specs.Prelude.{nat_le, nat_lt, is_none, is_some}
use Rattle.std.proofs.lemmas.Bool.{leb-true, ltb-true}
use Rattle.elf_types.specs.declared.constants.TheConstants.{SHN_LORESERVE}
use Rattle.elf_types.specs.declared.records.Sym.{Sym}
use Rattle.elf_types.specs.Symbols.{is_local}
use Rattle.tool_objects.specs.elf_object.Object.{Object}
use Rattle.tool_objects.specs.elf_object.Strings.{symbol_name, string_answer, readable}
use Rattle.tool_objects.specs.elf_object.Sections.{header_at}
use Rattle.tool_objects.specs.declared.at_hand.items.Span.{Span}
use Rattle.tool_objects.specs.AtHand.Items.{IsWithinSpan}
use Rattle.tool_objects.specs.AtHand.Strings.{is_past, EndsAt}
use Rattle.tool_objects.proofs.at_hand.Ends.{unreadable_test}
use Rattle.elf_lint_symbols.specs.declared.by_symbol.CheckedSymbolTable.{CheckedSymbolTable}
use Rattle.elf_lint_symbols.specs.Symbols.{is_used, SymbolTest, IsCheckedSymbolTable, has_no_name, is_late_local, is_early_other, is_of_no_section}

-- ---- The tests

-- whether a table and the end of its strings tell a test: that of names where the end is known or
-- no names are looked at, and the others
abbrev pub Telling : Type 0
Telling = CheckedSymbolTable → Option ℕ → Bool

abbrev pub tells_names : Telling
tells_names t end = not t.named || is_some end

abbrev pub tells_all : Telling
tells_all t end = true

-- the test of symbol i
abbrev pub TestOfTable : Type 0
TestOfTable = CheckedSymbolTable → Option ℕ → ℕ → Sym → Bool

abbrev pub lacks_name : TestOfTable
lacks_name t end i x = t.named && is_past end x.name

abbrev pub is_behind_others : TestOfTable
is_behind_others t end i x = is_local x && nat_le t.first_other i

abbrev pub is_before_others : TestOfTable
is_before_others t end i x = not (is_local x) && nat_lt i t.first_other

abbrev pub lacks_section : TestOfTable
lacks_section t end i x = nat_le t.sections x.shndx && nat_lt x.shndx SHN_LORESERVE

-- that of rule 21, which is of symbol 0 alone
abbrev pub is_in_use : TestOfTable
is_in_use t end i x = i == 0 && is_used x

-- one of these
abbrev pub some_holds : TestOfTable
some_holds t end i x =
    lacks_name t end i x
    || (lacks_section t end i x
    || (is_in_use t end i x || (is_behind_others t end i x || is_before_others t end i x)))

-- ---- They are those of the rules

-- a test by an object is that by a table of it, where that tells it
abbrev pub Agrees : SymbolTest → Telling → TestOfTable → Type 0
Agrees finds tells holds =
    (o : Object) (t : CheckedSymbolTable) (end : Option ℕ) → IsCheckedSymbolTable o t → IfSome end
    (EndsAt o t.strings.0)
    → tells t end ≡ true → (i : ℕ) (x : Sym) → holds t end i x ≡ finds o t.section.0 i x

-- by the end of strings, where that is known or the strings are not looked at
past_is : (o : Object) (strings at : ℕ) (named : Bool) (end : Option ℕ)
    → IfSome end (EndsAt o strings) → (not named || is_some end) ≡ true
    → (named && is_past end at) ≡ (named && is_none (readable (string_answer o strings at)))
past_is o strings at false end ends told = refl
past_is o strings at true None ends told = cc
past_is o strings at true (Some end) ends told = sym (unreadable_test o strings end ends at)

pub names_agree : Agrees has_no_name tells_names lacks_name
unfolding has_no_name symbol_name
names_agree o t end table ends told i x =
    past_is o t.strings.0 x.name t.named end ends told
    ∙ ap (λ (n : ℕ). t.named && is_none (readable (string_answer o n x.name))) table.strings
    ∙ ap
    (λ (b : Bool). b && is_none
    (readable (string_answer o (header_at o t.section.0).link x.name)))
    table.named

pub locals_agree : Agrees is_late_local tells_all is_behind_others
unfolding is_late_local
locals_agree o t end table ends told i x =
    ap (λ (n : ℕ). is_local x && nat_le n i) table.first_other

pub others_agree : Agrees is_early_other tells_all is_before_others
unfolding is_early_other
others_agree o t end table ends told i x =
    ap (λ (n : ℕ). not (is_local x) && nat_lt i n) table.first_other

pub sections_agree : Agrees is_of_no_section tells_all lacks_section
unfolding is_of_no_section
sections_agree o t end table ends told i x =
    ap (λ (n : ℕ). nat_le n x.shndx && nat_lt x.shndx SHN_LORESERVE) table.sections

-- ---- Where they hold

-- of the symbols of a table all, those from the first on that is not local, or those before it
abbrev pub SpanOfTable : Type 0
SpanOfTable = CheckedSymbolTable → Span

abbrev pub all_of : SpanOfTable
all_of t = record { from = 0; to = None }

abbrev pub others_of : SpanOfTable
others_of t = record { from = t.first_other; to = None }

abbrev pub locals_of : SpanOfTable
locals_of t = record { from = 0; to = Some t.first_other }

-- a test holds of no symbol outside of the span
abbrev pub Keeps : SpanOfTable → TestOfTable → Type 0
Keeps span holds =
    (t : CheckedSymbolTable) (end : Option ℕ) (i : ℕ)
    (x : Sym) → holds t end i x ≡ true → IsWithinSpan (span t) i

second : (a b : Bool) → (a && b) ≡ true → b ≡ true
second true b holds = holds
second false b holds = cc

pub names_within : Keeps all_of lacks_name
names_within t end i x holds = (omega arith, tt)

pub locals_within : Keeps others_of is_behind_others
locals_within t end i x holds =
    (leb-true t.first_other i (second (is_local x) (nat_le t.first_other i) holds), tt)

pub others_within : Keeps locals_of is_before_others
others_within t end i x holds = (
  omega arith,
  ltb-true i t.first_other (second (not (is_local x)) (nat_lt i t.first_other) holds),
)

pub sections_within : Keeps all_of lacks_section
sections_within t end i x holds = (omega arith, tt)
