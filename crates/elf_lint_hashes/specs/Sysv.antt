-- What the rule on hash sections of type SHT_HASH works out of the words of one.
use Rattle.std.specs.Prelude.{◌≡◌, ℕ, ◌+◌, ◌%◌, ◌<◌, ◌==◌, ◌&&◌, not, Bool, true, false, List, [], ◌∷◌, ◌++◌, length, take, drop, slice_get, slice_index_or, is_some, Option, Some, None}
use Rattle.std.specs.List.{list_all}
use Rattle.std.specs.Option.{option_map}
use Rattle.elf_types.specs.declared.records.ScnId.{ScnId}
use Rattle.hash_model.specs.Hashes.{elf_hash}
use Rattle.hash_model.specs.HashSections.{SysvHash, sysv_chain, each_listed}
use Rattle.hash_model.specs.elf_object.Sections.{is_among}
use Rattle.elf_lint_hashes.specs.declared.sysv.SysvTable.{SysvTable}

-- ---- The two counts

-- the table of a section's first two words
unfoldable pub table_in : ScnId → List ℕ → Option SysvTable
table_in s words = elim (slice_get words 0) [
  | None ↦ None
  | Some nbucket ↦ option_map
      (λ (nchain : ℕ). record { section = s; nbucket = nbucket; nchain = nchain })
      (slice_get words 1)
]

-- there is a bucket, a chain word for each symbol, and as many words as both counts say
unfoldable pub counts_are : SysvTable → ℕ → ℕ → Bool
counts_are t total count =
    not (t.nbucket == 0) && (t.nchain == count && total == 2 + t.nbucket + t.nchain)

-- a table that takes up its words, with a bucket at least
pub record TakesUp (words : List ℕ) (t : SysvTable) : Type 0 where
  pub some : 0 < t.nbucket
  pub count : length words ≡ 2 + t.nbucket + t.nchain

-- words with one more, where it is there
unfoldable pub with_word : List ℕ → Option ℕ → List ℕ
with_word list None = list
with_word list (Some word) = list ++ word ∷ []

-- ---- Chains

-- the section of a table in such words
abbrev pub sysv_section_of : SysvTable → List ℕ → SysvHash
sysv_section_of t words =
    record { buckets = take t.nbucket (drop 2 words); chains = drop (2 + t.nbucket) words }

-- whether a symbol is on the chain from another one on, or none where that has no end
unfoldable pub chain_has : List ℕ → SysvTable → ℕ → ℕ → Option Bool
chain_has words t first i =
    option_map
    (λ chain. is_among chain i)
    (sysv_chain (sysv_section_of t words).chains t.nchain first)

-- the same of the chain of a bucket
unfoldable pub bucket_has : List ℕ → SysvTable → ℕ → ℕ → Option Bool
bucket_has words t bucket i =
    chain_has words t (slice_index_or (sysv_section_of t words).buckets bucket 0) i

-- the chain from a symbol on ends
unfoldable pub has_end : List ℕ → SysvTable → ℕ → Bool
has_end words t first = is_some (chain_has words t first 0)

abbrev pub is_true : Option Bool → Bool
is_true None = false
is_true (Some b) = b

-- a symbol whose name has that hash, where it is listed, is on the chain of its bucket
unfoldable pub is_found : List ℕ → SysvTable → Option ℕ → ℕ → Bool
is_found words t None i = true
is_found words t (Some hash) i = is_true (bucket_has words t (hash % t.nbucket) i)

-- each listed symbol of names is
abbrev pub all_are_found : List ℕ → SysvTable → List (Option (List ℕ)) → Bool
all_are_found words t names =
    each_listed (λ i name. is_found words t (Some (elf_hash name)) i) names

-- the chain of each bucket has an end, and each is on that of its name's
unfoldable pub chains_hold : List ℕ → SysvTable → List (Option (List ℕ)) → Bool
chains_hold words t names =
    list_all (has_end words t) (sysv_section_of t words).buckets && all_are_found words t names

-- all that a section that is whole is
unfoldable pub is_whole_table : List ℕ → SysvTable → List (Option (List ℕ)) → Bool
is_whole_table words t names =
    counts_are t (length words) (length names) && chains_hold words t names

abbrev pub is_whole_in : List ℕ → Option SysvTable → List (Option (List ℕ)) → Bool
is_whole_in words None names = false
is_whole_in words (Some t) names = is_whole_table words t names
