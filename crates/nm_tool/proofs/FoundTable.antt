-- The table of symbols, found section by section.
use Rattle.std.proofs.Common.{◌≡◌, ℕ, ◌<◌, true, false, cond, length, get_or, Some, None, sym, ap, ◌∙◌, arith}
use Rattle.std.specs.Prelude.{nat_lt}
use Rattle.std.proofs.lemmas.Bool.{cond-true, cond-false, lt-ltb, le-ltb}
use Rattle.std.proofs.lemmas.List.Sums.{position_or_len_is}
use Rattle.elf_object.specs.Object.{Object, section_at, absent_section}
use Rattle.nm_tool.specs.Listed.{is_table, symbol_table}

-- no section below a number is the table
abbrev pub IsNotBelow : Object → ℕ → Type 0
IsNotBelow o n = (k : ℕ) → k < n → is_table (get_or o.sections k absent_section) ≡ false

pub table_first : (o : Object) (s n : ℕ) → length o.sections ≡ n → s < n → IsNotBelow o s → is_table (section_at o s) ≡ true → Some s ≡ symbol_table o
unfolding symbol_table section_at
table_first o s n count below none here =
    let first = position_or_len_is is_table o.sections s absent_section (omega arith) none (λ inside. here) in
    let inside : s < length o.sections = omega arith in
    sym (ap (λ (i : ℕ). cond (nat_lt i (length o.sections)) (Some i) None) first ∙ cond-true (nat_lt s (length o.sections)) (Some s) None (lt-ltb s (length o.sections) inside))

pub table_none : (o : Object) (n : ℕ) → length o.sections ≡ n → IsNotBelow o n → None ≡ symbol_table o
unfolding symbol_table
table_none o n count none =
    let last = position_or_len_is is_table o.sections n absent_section (omega arith) none (λ inside. absurd (omega arith)) in
    sym (ap (λ (i : ℕ). cond (nat_lt i (length o.sections)) (Some i) None) last ∙ cond-false (nat_lt n (length o.sections)) (Some n) None (le-ltb n (length o.sections) (omega arith)))
