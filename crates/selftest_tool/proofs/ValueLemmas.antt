-- The values of symbols, changed or added up one after another.
use Rattle.std.proofs.Common.{◌≡◌, ◌+◌, ◌<◌, ◌≤◌, ◌++◌, ℕ, List, length, get_or, set, take, drop, map, take_all, Some, Err, refl, sym, ap, ◌∙◌, arith}
use Rattle.std.specs.Prelude.{slice_get}
use Rattle.std.specs.List.{sum_by}
use Rattle.std.proofs.lemmas.List.{get_or_default}
use Rattle.std.proofs.lemmas.List.Edits.{map_over_more}
use Rattle.std.proofs.lemmas.List.Sums.{sum_by_more, sum-map}
use Rattle.std.proofs.lemmas.Option.{slice_get_within, get_or_from_slice_get}
use Rattle.elf_types.specs.declared.records.Sym.{Sym}
use Rattle.elf_outside.specs.declared.sources.Source.{Ghosts as SourceGhosts}
use Rattle.elf_object.specs.Object.{Object}
use Rattle.elf_object.specs.Runs.{more_sym}
use Rattle.elf_calls_generate.specs.elf_descriptor.State.{State}
use Rattle.rebuild_model.specs.Generated.{zero_sym}
use Rattle.tool_output.specs.declared.stops.Stop.{Stop}
use Rattle.elfkit_outcomes.specs.tool_objects.Steps.{LeavesElf, ReadsElf, Learns}
use Rattle.elfkit_outcomes.proofs.tool_objects.LearnLemmas.{learns_stop, reads_after}
use Rattle.selftest_tool.specs.Told.{value_sum}

-- one symbol more that a number was added to
pub one_more : (n i : ℕ) (symbols there : List Sym) (x d : Sym) → i < length symbols
    → length there ≡ length symbols
    → there ≡ map (more_sym n) (take i symbols) ++ drop i symbols
    → x ≡ more_sym n (get_or there i d)
    → set there i x ≡ map (more_sym n) (take (i + 1) symbols) ++ drop (i + 1) symbols
one_more n i symbols there x d within same so_far is =
    let old = get_or there i d in
    ap (λ (y : Sym). set there i y) is
    ∙ map_over_more (more_sym n) symbols there i old within so_far
    (get_or_default there i d old (omega (arith, same, within)))

pub sum_none : (xs : List Sym) → 0 ≡ sum_by (λ x. x.value) (take 0 xs)
sum_none xs = refl

pub sum_next : (xs : List Sym) (i total v : ℕ) (x : Sym) → slice_get xs i ≡ Some x → v ≡ x.value
    → total ≡ sum_by (λ x. x.value) (take i xs)
    → total + v ≡ sum_by (λ x. x.value) (take (i + 1) xs)
sum_next xs i total v x there same is =
    let within = slice_get_within xs i x there in
    let here = ap (λ (y : Sym). y.value) (get_or_from_slice_get xs i x x there) in
    let more = sum_by_more (λ (y : Sym). y.value) xs i x within in
    omega (arith, same, is, here, more)

pub sum_all : (xs : List Sym) (i total : ℕ) → length xs ≤ i
    → total ≡ sum_by (λ x. x.value) (take i xs) → total ≡ value_sum xs
unfolding value_sum
sum_all xs i total all is =
    is ∙ ap (λ (l : List Sym). sum_by (λ x. x.value) l) (take_all i xs all)
    ∙ sym (sum-map (λ (x : Sym). x.value) xs)

-- a symbol can not be read
pub sum_stopped : {S : Type 0} (s : SourceGhosts S) (stated : Object → ℕ) (stop : Stop)
    (a b c : State S) → LeavesElf s a b → ReadsElf {T = Sym} s (Err stop) b c
    → Learns s stated (Err stop) a c
sum_stopped s stated stop a b c h k =
    learns_stop s (λ o. zero_sym) stated stop a c
    (record { value = λ told. tt; reads = reads_after s (Err stop) a b c h k })
