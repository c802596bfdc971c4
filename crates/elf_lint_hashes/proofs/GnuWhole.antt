-- When GNU's hash section is whole.
use Rattle.std.proofs.Common.{◌≡◌, ◌⊎◌, inl, inr, ℕ, ◌+◌, ◌%◌, ◌<◌, Bool, true, false, ◌&&◌, List, [], length, Option, Some, None, refl, sym, ap, ◌∙◌, subst, arith}
use Rattle.std.specs.Prelude.{if◌then◌else◌}
use Rattle.std.proofs.lemmas.Bool.{cases_Bool}
use Rattle.std.proofs.lemmas.List.Folds.{list_all_at}
use Rattle.std.proofs.Math.Nat.{mod-lt}
use Rattle.elf_types.specs.declared.records.Class.{Class}
use Rattle.elf_types.specs.declared.records.Order.{Order}
use Rattle.hash_model.specs.Hashes.{gnu_hash}
use Rattle.hash_model.specs.HashSections.{GnuHash, gnu_in, gnu_chain_from, is_found_gnu, is_on_with, is_whole_gnu, ends, passes}
use Rattle.elf_lint_hashes.specs.declared.gnu.GnuTable.{GnuTable}
use Rattle.elf_lint_hashes.specs.Gnu.{has_parts, gnu_section_of, chains_end, is_sound, first_in_bucket, is_reached, next_start, run_after, all_are_found, IsGnuTable, IsSoundGnuTable, IsChainRun, GnuTableFitsIn}
use Rattle.elf_lint_hashes.proofs.GnuChains.{reached_is, run_next}
use Rattle.elf_lint_hashes.proofs.ListedLemmas.{by_hash}

-- ---- All but the symbols

module _ (c : Class) (order : Order) (bytes : List ℕ) (n : ℕ) where
  pub sound_without : has_parts c order bytes ≡ false → is_sound c order bytes n ≡ false
  unfolding is_sound
  sound_without none = ap (λ (b : Bool). b && chains_end (gnu_in c order bytes) n) none

  module _ (t : GnuTable) (table : IsGnuTable c order bytes n t) where
    sound_by : is_sound c order bytes n ≡ chains_end (gnu_section_of t bytes) t.count
    unfolding is_sound
    sound_by =
        ap (λ (b : Bool). b && chains_end (gnu_in c order bytes) n) table.parts
        ∙ ap (λ (h : GnuHash). chains_end h n) (sym table.section) ∙ ap (λ (k : ℕ). chains_end (gnu_section_of t bytes) k) (sym table.count)

    pub sound_found : true ≡ chains_end (gnu_section_of t bytes) t.count → IsSoundGnuTable c order bytes n t
    sound_found is = record { table = table; sound = sound_by ∙ sym is }

    pub sound_not : false ≡ chains_end (gnu_section_of t bytes) t.count → is_sound c order bytes n ≡ false
    sound_not is = sound_by ∙ sym is

pub ruleset sound_rules = (sound_without, sound_found, sound_not)

pub sound_of_none : (c : Class) (order : Order) (bytes : List ℕ) (n : ℕ) → bytes ≡ [] → is_sound c order bytes n ≡ false
unfolding is_sound has_parts
sound_of_none c order bytes n none = ap (λ (l : List ℕ). is_sound c order l n) none

module _ (c : Class) (order : Order) (bytes : List ℕ) (names : List (Option (List ℕ))) (n : ℕ) (count : n ≡ length names) where
  whole_as : is_whole_gnu c order bytes names ≡ (is_sound c order bytes n && all_are_found c (gnu_in c order bytes) n names)
  unfolding is_whole_gnu is_sound has_parts
  whole_as = sym (ap (λ (k : ℕ). is_sound c order bytes k && all_are_found c (gnu_in c order bytes) k names) count)

  pub not_whole : is_sound c order bytes n ≡ false → false ≡ is_whole_gnu c order bytes names
  not_whole is = sym (whole_as ∙ ap (λ (b : Bool). b && all_are_found c (gnu_in c order bytes) n names) is)

  pub whole_where : (t : GnuTable) → IsSoundGnuTable c order bytes n t → all_are_found t.class (gnu_section_of t bytes) t.count names ≡ is_whole_gnu c order bytes names
  whole_where t is =
      ap (λ (k : Class). all_are_found k (gnu_section_of t bytes) t.count names) is.table.class
      ∙ ap (λ (h : GnuHash). all_are_found c h t.count names) is.table.section
      ∙ ap (λ (k : ℕ). all_are_found c (gnu_in c order bytes) k names) is.table.count
      ∙ sym (whole_as ∙ ap (λ (b : Bool). b && all_are_found c (gnu_in c order bytes) n names) is.sound)

  pub ends_where : (t : GnuTable) → IsSoundGnuTable c order bytes n t → chains_end (gnu_section_of t bytes) t.count ≡ true
  ends_where t is = sym (sound_by c order bytes n t is.table) ∙ is.sound

-- ---- One symbol after another

module _ (c : Class) (h : GnuHash) (n start i : ℕ) where
  abbrev found_at : ℕ → ℕ → Bool
  found_at k hash = passes c h hash && is_reached h n start k hash

  run_if : Bool → Option ℕ
  run_if b = if b then Some (next_start h n start i) else None

  some_if : (b : Bool) (next : ℕ) → ◌≡◌ {A = Option ℕ} (Some next) (if b then Some (next_start h n start i) else None) → (next ≡ next_start h n start i) × (b ≡ true)
  some_if true next is = (cc, refl)
  some_if false next is = cc

  none_if : (b : Bool) → ◌≡◌ {A = Option ℕ} None (if b then Some (next_start h n start i) else None) → b ≡ false
  none_if true is = cc
  none_if false is = refl

  run_some : (listed : Option ℕ) (next : ℕ) → Some next ≡ run_after c h n start i listed → (next ≡ next_start h n start i) × (by_hash found_at i listed ≡ true)
  unfolding run_after
  run_some None next is = (cc, refl)
  run_some (Some hash) next is = some_if (found_at i hash) next is

  run_none : (listed : Option ℕ) → None ≡ run_after c h n start i listed → by_hash found_at i listed ≡ false
  unfolding run_after
  run_none None is = cc
  run_none (Some hash) is = none_if (found_at i hash) is

-- a symbol with a hash passes the bloom and is on the chain of its bucket
abbrev pub found_by : Class → GnuHash → ℕ → ℕ → ℕ → Bool
found_by c h n i hash = passes c h hash && is_on_with i hash (gnu_chain_from h n (first_in_bucket h hash))

module _ (c : Class) (h : GnuHash) (n start i : ℕ) (run : IsChainRun h n i start) (some : 0 < length h.buckets) (end : chains_end h n ≡ true) where
  bucket_ends : (hash : ℕ) → ends (gnu_chain_from h n (first_in_bucket h hash)) ≡ true
  bucket_ends hash = by_test (cases_Bool (ends (gnu_chain_from h n (first_in_bucket h hash))))
    where
      by_test : (ends (gnu_chain_from h n (first_in_bucket h hash)) ≡ true) ⊎ (ends (gnu_chain_from h n (first_in_bucket h hash)) ≡ false) → ends (gnu_chain_from h n (first_in_bucket h hash)) ≡ true
      by_test (inl holds) = holds
      by_test (inr fails) =
          let both = sym (list_all_at (λ (first : ℕ). ends (gnu_chain_from h n first)) h.buckets (hash % length h.buckets) 0 (mod-lt hash some) fails) ∙ end in cc

  found_is : (listed : Option ℕ) → by_hash (found_at c h n start i) i listed ≡ by_hash (found_by c h n) i listed
  unfolding is_reached
  found_is None = refl
  found_is (Some hash) = ap (λ (b : Bool). passes c h hash && b) (reached_is h n i hash start (first_in_bucket h hash) run (bucket_ends hash))

  -- a symbol that is not listed or is found, and the run of the next one
  pub step_some : (listed : Option ℕ) (next : ℕ) → Some next ≡ run_after c h n start i listed → (IsChainRun h n (i + 1) next) × (by_hash (found_by c h n) i listed ≡ true)
  step_some listed next is =
      let both = run_some c h n start i listed next is in
      (subst (λ (k : ℕ). IsChainRun h n (i + 1) k) (sym both.0) (run_next h n i start run), sym (found_is listed) ∙ both.1)

  -- or one that is not found
  pub step_none : (listed : Option ℕ) → None ≡ run_after c h n start i listed → by_hash (found_by c h n) i listed ≡ false
  step_none listed is = sym (found_is listed) ∙ run_none c h n start i listed is

-- as it is stated of names
pub found_names : (c : Class) (h : GnuHash) (n : ℕ) (i : ℕ) (name : List ℕ) → found_by c h n i (gnu_hash name) ≡ is_found_gnu c h n i name
unfolding is_found_gnu
found_names c h n i name = refl

-- no bytes hold a table
pub no_room : (t : GnuTable) (bytes : List ℕ) → bytes ≡ [] → GnuTableFitsIn (length bytes) t → ⊥
no_room t bytes none lies = let n = ap length none in omega (arith, lies.chains, lies.within, n)
