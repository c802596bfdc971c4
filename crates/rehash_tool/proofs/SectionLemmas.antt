-- The first section that is sought.
use Rattle.std.proofs.Common.{◌≡◌, ℕ, ◌<◌, Bool, true, false, cond, List, length, get_or, Some, None, sym, ap, ◌∙◌, arith}
use Rattle.std.specs.Prelude.{nat_lt, position}
use Rattle.elf_types.specs.declared.records.Shdr.{Shdr}
use Rattle.rehash_tool.specs.declared.sections.Sought.{Sought}
use Rattle.rehash_tool.specs.Sections.{is_matching_section}
use Rattle.std.proofs.lemmas.Bool.{cond-true, cond-false, lt-ltb, le-ltb}
use Rattle.std.proofs.lemmas.List.Sums.{position_or_len_is}

module _ {A : Type 0} (test : A → Bool) (l : List A) (d : A) where
  -- none before a place passes
  abbrev pub NoneBefore : ℕ → Type 0
  NoneBefore n = (k : ℕ) → k < n → test (get_or l k d) ≡ false

  pub first_found : (n : ℕ) → n < length l → NoneBefore n → test (get_or l n d) ≡ true
      → Some n ≡ position test l
  first_found n below none here =
      let first = position_or_len_is test l n d (omega (arith, below)) none (λ inside. here) in
      sym (ap (λ (i : ℕ). cond (nat_lt i (length l)) (Some i) None) first
      ∙ cond-true (nat_lt n (length l)) (Some n) None (lt-ltb n (length l) below))

  pub none_found : (n : ℕ) → length l ≡ n → NoneBefore n → None ≡ position test l
  none_found n count none =
      let last = position_or_len_is test l n d (omega (arith, count)) none
      (λ inside. absurd (omega (arith, inside, count))) in
      sym (ap (λ (i : ℕ). cond (nat_lt i (length l)) (Some i) None) last
      ∙ cond-false (nat_lt n (length l)) (Some n) None (le-ltb n (length l) (omega (arith, count))))

-- what the header that is looked at says is what the present one says
pub sought_is : (sought : Sought) (h present : Shdr) (said answer : Bool) → h ≡ present
    → said ≡ is_matching_section sought h → said ≡ answer → is_matching_section sought present ≡ answer
sought_is sought h present said answer same is came =
    sym (is ∙ ap (λ (x : Shdr). is_matching_section sought x) same) ∙ came
