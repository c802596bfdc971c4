-- When a hash section of type SHT_HASH is whole, by the table of its first two words.
use Rattle.std.proofs.Common.{◌≡◌, ◌⊎◌, inl, inr, ℕ, ◌+◌, ◌%◌, ◌<◌, ◌≤◌, ◌==◌, Bool, true, false, not, ◌&&◌, List, [], ◌∷◌, length, drop, Option, Some, None, refl, sym, ap, ◌∙◌, arith}
use Rattle.std.specs.Prelude.{nat_le, slice_get, slice_index_or, is_some}
use Rattle.std.specs.List.{list_all, enumerate_from}
use Rattle.std.specs.Option.{option_map}
use Rattle.std.proofs.lemmas.List.{length-take-le, length-drop}
use Rattle.std.proofs.lemmas.Option.{slice_get_within, get_or_from_slice_get, slice_get-get_or, none-some}
use Rattle.std.proofs.lemmas.Bool.{le-leb, lt-leb, eq-eqb, eqb-true, cases_lt}
use Rattle.elf_types.specs.declared.records.ScnId.{ScnId}
use Rattle.hash_model.specs.Hashes.{elf_hash}
use Rattle.hash_model.specs.HashSections.{SysvHash, sysv_in, sysv_chain, sysv_chain_of, is_whole_sysv, each_listed, is_on, ends}
use Rattle.hash_model.specs.elf_object.Sections.{is_among}
use Rattle.elf_lint_hashes.specs.declared.sysv.SysvTable.{SysvTable}
use Rattle.elf_lint_hashes.proofs.ListedLemmas.{by_hash}
use Rattle.elf_lint_hashes.specs.Sysv.{table_in, counts_are, sysv_section_of, chain_has, bucket_has, has_end, is_found, is_true, all_are_found, chains_hold, is_whole_table}

all_same : {X : Type 0} (f g : X → Bool) → ((x : X) → f x ≡ g x) → (xs : List X) → list_all f xs ≡ list_all g xs
all_same f g same [] = refl
all_same f g same (x ∷ xs) = ap (λ (b : Bool). b && list_all f xs) (same x) ∙ ap (λ (b : Bool). g x && b) (all_same f g same xs)

map_some : {A B : Type 0} (f : A → B) (r : Option A) → is_some (option_map f r) ≡ ends r
map_some f None = refl
map_some f (Some x) = refl

on_map : (i : ℕ) (r : Option (List ℕ)) → is_true (option_map (λ (chain : List ℕ). is_among chain i) r) ≡ is_on i r
on_map i None = refl
on_map i (Some chain) = refl

module _ (words : List ℕ) (t : SysvTable) (names : List (Option (List ℕ))) where
  module _ (bucket : 0 < t.nbucket) (long : length words ≡ 2 + t.nbucket + t.nchain) where
    abbrev h : SysvHash
    h = sysv_section_of t words

    pub buckets_len : length h.buckets ≡ t.nbucket
    buckets_len = length-take-le t.nbucket (drop 2 words) (omega (arith, length-drop 2 words))

    chains_len : length h.chains ≡ t.nchain
    chains_len = let n = length-drop (2 + t.nbucket) words in omega (arith, n, long)

    end_same : (first : ℕ) → ends (sysv_chain h.chains (length h.chains) first) ≡ has_end words t first
    unfolding has_end chain_has
    end_same first =
        ap (λ (n : ℕ). ends (sysv_chain h.chains n first)) chains_len ∙ sym (map_some (λ (chain : List ℕ). is_among chain 0) (sysv_chain h.chains t.nchain first))

    found_same : (i : ℕ) (name : List ℕ) → is_on i (sysv_chain_of h (elf_hash name)) ≡ is_found words t (Some (elf_hash name)) i
    unfolding sysv_chain_of is_found bucket_has chain_has
    found_same i name =
        ap (λ (n : ℕ). is_on i (sysv_chain h.chains n (slice_index_or h.buckets (elf_hash name % length h.buckets) 0))) chains_len
        ∙ ap (λ (n : ℕ). is_on i (sysv_chain h.chains t.nchain (slice_index_or h.buckets (elf_hash name % n) 0))) buckets_len
        ∙ sym (on_map i (sysv_chain h.chains t.nchain (slice_index_or h.buckets (elf_hash name % t.nbucket) 0)))

    row_same : (row : ℕ × Option (List ℕ))
        → ◌≡◌ {A = Bool} (elim (row.1) [ None ↦ true | Some name ↦ is_on row.0 (sysv_chain_of h (elf_hash name)) ]) (elim (row.1) [ None ↦ true | Some name ↦ is_found words t (Some (elf_hash name)) row.0 ])
    row_same row = by_name (row.1)
      where
        by_name : (name : Option (List ℕ))
            → ◌≡◌ {A = Bool} (elim name [ None ↦ true | Some n ↦ is_on row.0 (sysv_chain_of h (elf_hash n)) ]) (elim name [ None ↦ true | Some n ↦ is_found words t (Some (elf_hash n)) row.0 ])
        by_name None = refl
        by_name (Some name) = found_same row.0 name

    pub ends_same : list_all (λ (first : ℕ). ends (sysv_chain h.chains (length h.chains) first)) h.buckets ≡ list_all (has_end words t) h.buckets
    ends_same = all_same (λ (first : ℕ). ends (sysv_chain h.chains (length h.chains) first)) (has_end words t) end_same h.buckets

    pub rows_same : each_listed (λ i name. is_on i (sysv_chain_of h (elf_hash name))) names ≡ all_are_found words t names
    rows_same = all_same
        (λ (row : ℕ × Option (List ℕ)). elim (row.1) [ None ↦ true | Some name ↦ is_on row.0 (sysv_chain_of h (elf_hash name)) ])
        (λ (row : ℕ × Option (List ℕ)). elim (row.1) [ None ↦ true | Some name ↦ is_found words t (Some (elf_hash name)) row.0 ])
        row_same (enumerate_from 0 names)

  regroup : (a b c d e p q : Bool) → (a ≡ false → c ≡ true → (d ≡ p) × (e ≡ q)) → (true && not a && b && c && d && e) ≡ ((not a && (b && c)) && (p && q))
  regroup true b c d e p q same = refl
  regroup false false c d e p q same = refl
  regroup false true false d e p q same = refl
  regroup false true true d e p q same = let both = same refl refl in ap (λ (x : Bool). x && e) both.0 ∙ ap (λ (y : Bool). p && y) both.1

  not_zero : (n : ℕ) → (n == 0) ≡ false → 0 < n
  not_zero n other = by_place (cases_lt 0 n)
    where
      by_place : (0 < n) ⊎ (n ≤ 0) → 0 < n
      by_place (inl lt) = lt
      by_place (inr le) = let both = sym other ∙ eq-eqb n 0 (omega arith) in cc

  -- with the section's own counts
  whole_by : nat_le 2 (length words) ≡ true → t.nbucket ≡ slice_index_or words 0 0 → t.nchain ≡ slice_index_or words 1 0 → is_whole_sysv words names ≡ is_whole_table words t names
  unfolding is_whole_sysv is_whole_table chains_hold counts_are sysv_in
  whole_by two first second =
      let H = sysv_in words in
      let same : sysv_section_of t words ≡ H = ap (λ (n : ℕ). sysv_section_of (record { section = t.section; nbucket = n; nchain = t.nchain }) words) first in
      let all_end = λ (h : SysvHash). list_all (λ (k : ℕ). ends (sysv_chain h.chains (length h.chains) k)) h.buckets in
      let all_on = λ (h : SysvHash). each_listed (λ i name. is_on i (sysv_chain_of h (elf_hash name))) names in
      ap (λ (b : Bool). b && not (slice_index_or words 0 0 == 0) && slice_index_or words 1 0 == length names && length words == 2 + slice_index_or words 0 0 + slice_index_or words 1 0 && all_end H && all_on H) two
      ∙ ap (λ (n : ℕ). true && not (n == 0) && slice_index_or words 1 0 == length names && length words == 2 + n + slice_index_or words 1 0 && all_end H && all_on H) (sym first)
      ∙ ap (λ (n : ℕ). true && not (t.nbucket == 0) && n == length names && length words == 2 + t.nbucket + n && all_end H && all_on H) (sym second)
      ∙ ap (λ (h : SysvHash). true && not (t.nbucket == 0) && t.nchain == length names && length words == 2 + t.nbucket + t.nchain && all_end h && all_on h) (sym same)
      ∙ regroup (t.nbucket == 0) (t.nchain == length names) (length words == 2 + t.nbucket + t.nchain) (all_end (sysv_section_of t words)) (all_on (sysv_section_of t words))
      (list_all (has_end words t) (sysv_section_of t words).buckets) (all_are_found words t names)
      (λ some full. (ends_same (not_zero t.nbucket some) (eqb-true (length words) (2 + t.nbucket + t.nchain) full), rows_same (not_zero t.nbucket some) (eqb-true (length words) (2 + t.nbucket + t.nchain) full)))

module _ (words : List ℕ) (names : List (Option (List ℕ))) (s : ScnId) where
  abbrev table_by : Option ℕ → Option ℕ → Option SysvTable
  table_by a b = elim a [ None ↦ None | Some nbucket ↦ option_map (λ (nchain : ℕ). record { section = s; nbucket = nbucket; nchain = nchain }) b ]

  same_table : (t u : SysvTable) → ◌≡◌ {A = Option SysvTable} (Some t) (Some u) → t ≡ u
  same_table t u is = cc

  pub whole_is : (t : SysvTable) → Some t ≡ table_in s words → is_whole_table words t names ≡ is_whole_sysv words names
  unfolding table_in
  whole_is t is = by_words (slice_get words 0) (slice_get words 1) refl refl is
    where
      by_words : (a b : Option ℕ) → slice_get words 0 ≡ a → slice_get words 1 ≡ b → Some t ≡ table_by a b → is_whole_table words t names ≡ is_whole_sysv words names
      by_words None b one two is = cc
      by_words (Some n) None one two is = cc
      by_words (Some n) (Some m) one two is =
          let same = same_table t (record { section = s; nbucket = n; nchain = m }) is in
          let long = slice_get_within words 1 m two in
          sym (whole_by words t names (le-leb 2 (length words) (omega (arith, long)))
          (ap (λ (u : SysvTable). u.nbucket) same ∙ sym (get_or_from_slice_get words 0 n 0 one)) (ap (λ (u : SysvTable). u.nchain) same ∙ sym (get_or_from_slice_get words 1 m 0 two)))

  short_words : length words < 2 → false ≡ is_whole_sysv words names
  unfolding is_whole_sysv
  short_words short =
      let H = sysv_in words in
      sym (ap (λ (b : Bool). b && not (slice_index_or words 0 0 == 0) && slice_index_or words 1 0 == length names && length words == 2 + slice_index_or words 0 0 + slice_index_or words 1 0
      && list_all (λ (k : ℕ). ends (sysv_chain H.chains (length H.chains) k)) H.buckets && each_listed (λ i name. is_on i (sysv_chain_of H (elf_hash name))) names) (lt-leb 2 (length words) short))

  pub whole_none : None ≡ table_in s words → false ≡ is_whole_sysv words names
  unfolding table_in
  whole_none is = by_place (cases_lt (length words) 2)
    where
      by_place : (length words < 2) ⊎ (2 ≤ length words) → false ≡ is_whole_sysv words names
      by_place (inl short) = short_words short
      by_place (inr long) =
          let u : SysvTable = record { section = s; nbucket = slice_index_or words 0 0; nchain = slice_index_or words 1 0 } in
          let both : None ≡ Some u =
          is ∙ ap (λ (a : Option ℕ). table_by a (slice_get words 1)) (slice_get-get_or words 0 0 (omega arith)) ∙ ap (table_by (Some (slice_index_or words 0 0))) (slice_get-get_or words 1 0 (omega arith)) in
          absurd (none-some u both)

pub whole_of_none : (words : List ℕ) (names : List (Option (List ℕ))) → words ≡ [] → false ≡ is_whole_sysv words names
unfolding is_whole_sysv
whole_of_none words names none = sym (ap (λ (l : List ℕ). is_whole_sysv l names) none)

-- a test of the hash of a listed name
pub found_by_hash : (words : List ℕ) (t : SysvTable) (listed : Option ℕ) (i : ℕ) → is_found words t listed i ≡ by_hash (λ (k : ℕ) (hash : ℕ). is_found words t (Some hash) k) i listed
unfolding is_found
found_by_hash words t None i = refl
found_by_hash words t (Some hash) i = refl
