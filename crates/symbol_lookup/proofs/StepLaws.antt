-- What a lookup needs, on an object that stays, and steps of a walk.
use Rattle.std.proofs.Common.{◌≡◌, ℕ, ◌+◌, ◌*◌, ◌%◌, ◌<◌, ◌≤◌, Bool, Result, Ok, Err, sym, ap, ◌∙◌, subst}
use Rattle.std.specs.Prelude.{nat_lt, if◌then◌else◌, List}
use Rattle.std.proofs.lemmas.Bool.{le-ltb, lt-ltb}
use Rattle.elf_types.specs.declared.errors.ElfError.{ElfError}
use Rattle.elf_types.specs.declared.errors.ElfError.TheVariants.{BadChain}
use Rattle.elf_types.specs.Answers.{Follows}
use Rattle.hash_model.specs.elf_object.Words.{result_map}
use Rattle.hash_model.specs.elf_object.Object.{Object}
use Rattle.symbol_lookup.specs.declared.walks.WalkStep.{WalkStep}
use Rattle.symbol_lookup.specs.declared.walks.WalkStart.{WalkStart}
use Rattle.symbol_lookup.specs.declared.walks.Links.{Links}
use Rattle.symbol_lookup.specs.declared.walks.Links.TheVariants as links
use Rattle.symbol_lookup.specs.Lookups.{Needs}
use Rattle.symbol_lookup.specs.Searches.{HasWords, HasTable, HasLinks}
use Rattle.symbol_lookup.specs.Walks.{hash_word, sysv_bucket, sysv_next}
use Rattle.symbol_lookup.proofs.FollowLaws.{mapped_ends}

pub words_stay : (n : Needs) (old mid : Object) (h : ℕ) → mid ≡ old → HasWords n old h → HasWords n mid h
words_stay n old mid h same has = subst (λ (o : Object). HasWords n o h) (sym same) has

pub links_stay : (n : Needs) (old mid : Object) (h : ℕ) (links : Links) → mid ≡ old → HasLinks n old h links → HasLinks n mid h links
links_stay n old mid h links same has = subst (λ (o : Object). HasLinks n o h links) (sym same) has

pub table_stays : (n : Needs) (old mid : Object) (s : ℕ) → mid ≡ old → HasTable n old s → HasTable n mid s
table_stays n old mid s same has = subst (λ (o : Object). HasTable n o s) (sym same) has

step_is : (step : WalkStep) (at symbol : ℕ) → step.at ≡ at → step.symbol ≡ symbol → record { at = at; symbol = symbol } ≡ step
step_is step at symbol a s = sym (ap (λ (x : ℕ). record { at = x; symbol = step.symbol }) a ∙ ap (λ (y : ℕ). record { at = at; symbol = y }) s)

module _ (words : List ℕ) (nbucket nchain i index : ℕ) (is : index ≡ 2 + nbucket + i) where
  abbrev step_by : ℕ → Bool → Result WalkStep ElfError
  step_by index below = if below then result_map (λ next. record { at = 4 * index; symbol = next }) (hash_word words index) else Err (BadChain (4 * index))

  by_index : sysv_next words nbucket nchain i ≡ step_by index (nat_lt i nchain)
  unfolding sysv_next
  by_index = ap (λ (k : ℕ). step_by k (nat_lt i nchain)) (sym is)

  pub next_past : nchain ≤ i → sysv_next words nbucket nchain i ≡ Err (BadChain (4 * index))
  next_past past = by_index ∙ ap (step_by index) (le-ltb i nchain past)

  pub next_found : (next : ℕ) (step : WalkStep) → i < nchain → step.at ≡ 4 * index → step.symbol ≡ next → hash_word words index ≡ Ok next → sysv_next words nbucket nchain i ≡ Ok step
  next_found next step below at symbol there =
      by_index ∙ ap (step_by index) (lt-ltb i nchain below) ∙ ap (result_map (λ next. record { at = 4 * index; symbol = next })) there
      ∙ ap Ok (step_is step (4 * index) next at symbol)

  pub next_lost : (e : ElfError) → i < nchain → Follows {T = ℕ} (Err e) (hash_word words index) → Follows {T = WalkStep} (Err e) (sysv_next words nbucket nchain i)
  next_lost e below came =
      subst (λ (r : Result WalkStep ElfError). Follows {T = WalkStep} (Err e) r) (sym (by_index ∙ ap (step_by index) (lt-ltb i nchain below)))
      (mapped_ends (λ next. record { at = 4 * index; symbol = next }) e (hash_word words index) came)

module _ (words : List ℕ) (hash nbucket nchain index : ℕ) (is : index ≡ 2 + hash % nbucket) where
  abbrev start_by : ℕ → ℕ → WalkStart
  start_by index first = record { links = links.Sysv nbucket nchain; step = record { at = 4 * index; symbol = first } }

  by_bucket : sysv_bucket words hash nbucket nchain ≡ result_map (start_by index) (hash_word words index)
  unfolding sysv_bucket
  by_bucket = ap (λ (k : ℕ). result_map (start_by k) (hash_word words k)) (sym is)

  pub bucket_found : (first : ℕ) (step : WalkStep) → step.at ≡ 4 * index → step.symbol ≡ first → hash_word words index ≡ Ok first → sysv_bucket words hash nbucket nchain ≡ Ok (record { links = links.Sysv nbucket nchain; step = step })
  bucket_found first step at symbol there =
      by_bucket ∙ ap (result_map (start_by index)) there ∙ ap (λ (t : WalkStep). Ok (record { links = links.Sysv nbucket nchain; step = t })) (step_is step (4 * index) first at symbol)

  pub bucket_lost : (e : ElfError) → Follows {T = ℕ} (Err e) (hash_word words index) → Follows {T = WalkStart} (Err e) (sysv_bucket words hash nbucket nchain)
  bucket_lost e came = subst (λ (r : Result WalkStart ElfError). Follows {T = WalkStart} (Err e) r) (sym by_bucket) (mapped_ends (start_by index) e (hash_word words index) came)

pub ok_is : {A : Type 0} {a b : A} → ◌≡◌ {A = Result A ElfError} (Ok a) (Ok b) → b ≡ a
ok_is is = let same = is in cc
