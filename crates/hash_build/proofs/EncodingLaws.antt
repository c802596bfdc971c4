-- Words in their file form.
use Rattle.std.proofs.Common.{◌≡◌, ◌+◌, ℕ, List, [], ◌∷◌, ◌++◌, length, replicate, None, Result, Ok, Err, refl, ap, ◌∙◌, subst, append_assoc, append-nil, arith}
use Rattle.std.specs.Prelude.{OnOk}
use Rattle.std.specs.List.{flat_map}
use Rattle.std.proofs.lemmas.List.{drop_all, length-replicate}
use Rattle.elf_types.specs.declared.errors.ElfError.{ElfError}
use Rattle.elf_types.specs.declared.records.Class.{Class}
use Rattle.elf_types.specs.declared.records.Class.TheVariants.{C32, C64}
use Rattle.elf_types.specs.declared.records.Order.{Order}
use Rattle.elf_xlate.specs.declared.content.Items.TheVariants.{Word, Addr}
use Rattle.elf_xlate.specs.Fields.{record_bytes, written, written_in}
use Rattle.elf_xlate.specs.Items.{word_bytes, word_fields, addr_bytes, addr_fields}
use Rattle.elf_xlate.specs.Numbers.{octets}
use Rattle.elf_xlate.specs.Translation.{encoded, first_unfit}
use Rattle.elf_xlate.proofs.Digits.{length_octets}
use Rattle.symbol_lookup.specs.hash_model.HashSections.{bloom_bytes, numbers_as}

numbers_by : (f g : ℕ → List ℕ) (l : List ℕ) → ((n : ℕ) → f n ≡ g n) → flat_map f l ≡ flat_map g l
numbers_by f g [] same = refl
numbers_by f g (n ∷ l) same =
    ap (λ (b : List ℕ). b ++ flat_map f l) (same n)
    ∙ ap (λ (b : List ℕ). g n ++ b) (numbers_by f g l same)

-- a number over zeros
over_zeros : (order : Order) (width n : ℕ)
    → written 0 (octets order width n) (replicate width 0) ≡ octets order width n
unfolding written
over_zeros order width n =
    ap (λ (l : List ℕ). octets order width n ++ l)
    (drop_all (0 + length (octets order width n)) (replicate width 0)
    (omega (arith, length_octets order width n, length-replicate {A = ℕ} width 0)))
    ∙ append-nil (octets order width n)

word_octets : (class : Class) (order : Order) (n : ℕ)
    → word_bytes class order n ≡ octets order 4 n
unfolding word_bytes word_fields record_bytes written_in
word_octets C32 order n = over_zeros order 4 n
word_octets C64 order n = over_zeros order 4 n

addr_octets : (class : Class) (order : Order) (n : ℕ)
    → addr_bytes class order n ≡ octets order (bloom_bytes class) n
unfolding addr_bytes addr_fields record_bytes written_in
addr_octets C32 order n = over_zeros order 4 n
addr_octets C64 order n = over_zeros order 8 n

module _ (class : Class) (order : Order) where
  pub encoded_words : (l : List ℕ) → encoded class order (Word l) ≡ numbers_as order 4 l
  unfolding encoded
  encoded_words l =
      numbers_by (word_bytes class order) (octets order 4) l (word_octets class order)

  pub encoded_bloom : (l : List ℕ)
      → encoded class order (Addr l) ≡ numbers_as order (bloom_bytes class) l
  unfolding encoded
  encoded_bloom l =
      numbers_by (addr_bytes class order) (octets order (bloom_bytes class)) l
      (addr_octets class order)

pub words_any : (class : Class) (l : List ℕ) → first_unfit class (Word l) ≡ None
unfolding first_unfit
words_any class l = refl

-- ---- What is appended

pub appended_as : (r : Result (Unit {0}) ElfError) (old new one other : List ℕ) → one ≡ other
    → OnOk r (new ≡ old ++ one) → OnOk r (new ≡ old ++ other)
appended_as r old new one other same is =
    subst (λ (l : List ℕ). OnOk r (new ≡ old ++ l)) same is

pub appended_to : (r : Result (Unit {0}) ElfError) (old other new more : List ℕ) → old ≡ other
    → OnOk r (new ≡ old ++ more) → OnOk r (new ≡ other ++ more)
appended_to r old other new more same is =
    subst (λ (l : List ℕ). OnOk r (new ≡ l ++ more)) same is

pub appended_parts : (r : Result (Unit {0}) ElfError) (old one two new a b c : List ℕ)
    → one ≡ old ++ a → two ≡ one ++ b → OnOk r (new ≡ two ++ c)
    → OnOk r (new ≡ old ++ (a ++ (b ++ c)))
appended_parts (Err e) old one two new a b c first second third = tt
appended_parts (Ok u) old one two new a b c first second third =
    third
    ∙ ap (λ (l : List ℕ). l ++ c) (second ∙ ap (λ (l : List ℕ). l ++ b) first)
    ∙ append_assoc (old ++ a) b c ∙ append_assoc old a (b ++ c)
