-- Hashes, as a loop over the bytes of a name works them out.
use Rattle.std.proofs.Common.{◌≡◌, ℕ, ◌+◌, ◌*◌, ◌%◌, ◌^◌, ◌<◌, ◌≤◌, List, length, get_or, drop, refl}
use Rattle.std.specs.List.{fold}
use Rattle.std.proofs.lemmas.List.{at_drop_more, at_drop_all}
use Rattle.hash_model.specs.Hashes.{elf_hash, elf_hash_step, gnu_hash}

pub elf_more : (h : ℕ) (name : List ℕ) (i d : ℕ) → i < length name → fold elf_hash_step h (drop i name) ≡ fold elf_hash_step (elf_hash_step h (get_or name i d)) (drop (i + 1) name)
elf_more h name i d below = at_drop_more (fold elf_hash_step h) name i d below

pub elf_all : (h : ℕ) (name : List ℕ) (i : ℕ) → length name ≤ i → fold elf_hash_step h (drop i name) ≡ h
elf_all h name i past = at_drop_all (fold elf_hash_step h) name i past

pub elf_is : (name : List ℕ) → elf_hash name ≡ fold elf_hash_step 0 name
unfolding elf_hash
elf_is name = refl

pub ruleset elf_rules = (elf_more, elf_all, elf_is)

abbrev pub gnu_step : ℕ → ℕ → ℕ
gnu_step h byte = (33 * h + byte) % 2 ^ 32

pub gnu_more : (h : ℕ) (name : List ℕ) (i d : ℕ) → i < length name → fold gnu_step h (drop i name) ≡ fold gnu_step ((33 * h + get_or name i d) % 2 ^ 32) (drop (i + 1) name)
gnu_more h name i d below = at_drop_more (fold gnu_step h) name i d below

pub gnu_all : (h : ℕ) (name : List ℕ) (i : ℕ) → length name ≤ i → fold gnu_step h (drop i name) ≡ h
gnu_all h name i past = at_drop_all (fold gnu_step h) name i past

pub gnu_is : (name : List ℕ) → gnu_hash name ≡ fold gnu_step 5381 name
unfolding gnu_hash
gnu_is name = refl

pub ruleset gnu_rules = (gnu_more, gnu_all, gnu_is)
