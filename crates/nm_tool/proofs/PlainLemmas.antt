-- Kept symbols with one more of a table, by whether it is there and wanted.
use Rattle.std.proofs.Common.{◌≡◌, ◌++◌, ◌-◌, ◌<◌, ℕ, Bool, true, false, ◌&&◌, List, [], ◌∷◌, Option, Some, None, Result, Ok, Err, IsTrue, IfOk, IfErr, refl, sym, ap, ◌∙◌, subst, arith}
use Rattle.std.specs.Prelude.{slice_get, if◌then◌else◌}
use Rattle.elf_types.specs.declared.records.Sym.{Sym}
use Rattle.elf_outside.specs.declared.sources.Source.{Ghosts as SourceGhosts}
use Rattle.elf_object.specs.Object.{Object}
use Rattle.tool_objects.specs.elf_descriptor.State.{State}
use Rattle.nm_tool.specs.declared.options.NmOptions.{NmOptions}
use Rattle.tool_output.specs.declared.stops.Stop.{Stop}
use Rattle.tool_output.specs.declared.stops.Stop.TheVariants.{Memory}
use Rattle.tool_objects.specs.Steps.{Learns}
use Rattle.tool_objects.proofs.ElfSteps.{elf_left, left_as}
use Rattle.tool_objects.proofs.LearnLemmas.{learns_now}
use Rattle.nm_tool.specs.declared.kept.Kept.{Kept}
use Rattle.nm_tool.specs.Listed.{symbols_in_table, is_listable_symbol, is_wanted}
use Rattle.nm_tool.specs.Pools.{if_wanted, wanted_at}
use Rattle.nm_tool.specs.Kept.{kept_symbol, with_kept, kept_of}

module _ (options : NmOptions) (o : Object) (s : ℕ) (list : List Kept) (i : ℕ) where
  abbrev made : Option Sym → List Kept
  made w = elim w [ None ↦ list | Some y ↦ list ++ kept_symbol y i ∷ [] ]

  -- it is not there
  pub with_none : slice_get (symbols_in_table o s) i ≡ None → with_kept options o s list i ≡ list
  unfolding with_kept wanted_at
  with_none none =
      ap (λ (g : Option Sym). made (elim g [ None ↦ None | Some y ↦ if_wanted options o s i y ]))
      none

  module _ (x : Sym) (there : slice_get (symbols_in_table o s) i ≡ Some x) where
    by_wanted : with_kept options o s list i ≡ made (if_wanted options o s i x)
    unfolding with_kept wanted_at
    by_wanted =
        ap (λ (g : Option Sym). made (elim g [ None ↦ None | Some y ↦ if_wanted options o s i y ]))
        there

    -- it is wanted
    pub with_one : (is_listable_symbol options x && is_wanted options o s i x) ≡ true
        → with_kept options o s list i ≡ list ++ kept_symbol x i ∷ []
    with_one both = by_wanted ∙ by_tests (is_listable_symbol options x) (is_wanted options o s i x) both
      where
        by_tests : (kept wanted : Bool) → (kept && wanted) ≡ true
            → made (if kept then (if wanted then Some x else None) else None)
            ≡ list ++ kept_symbol x i ∷ []
        by_tests true true both = refl
        by_tests true false both = cc
        by_tests false wanted both = cc

    -- or not
    pub with_unwanted : (is_listable_symbol options x && is_wanted options o s i x) ≡ false
        → with_kept options o s list i ≡ list
    with_unwanted neither =
        by_wanted ∙ by_tests (is_listable_symbol options x) (is_wanted options o s i x) neither
      where
        by_tests : (kept wanted : Bool) → (kept && wanted) ≡ false
            → made (if kept then (if wanted then Some x else None) else None) ≡ list
        by_tests true true neither = cc
        by_tests true false neither = refl
        by_tests false wanted neither = refl

-- none is kept of a table that has no symbol but symbol 0
pub kept_none : (options : NmOptions) (o : Object) (s count : ℕ) → count < 2
    → [] ≡ kept_of options o s (count - 1)
unfolding kept_of
kept_none options o s count few =
    let zero_left : 0 ≡ count - 1 = omega (arith, few) in
    ap (kept_of options o s) zero_left

-- what is learned where nothing is read, or there is no memory
pub learns_held : {S T : Type 0} (s : SourceGhosts S) (stated : Object → T) (r : Result T Stop)
    (a : State S) → (IsTrue a.told → IfOk r (λ v. v ≡ stated a.o))
    → IfErr r (λ stop. stop ≡ Memory) → Learns s stated r a a
learns_held s stated (Ok v) a is none = learns_now s stated v a is
learns_held {S} {T} s stated (Err stop) a is none =
    subst (λ (x : Stop). Learns {T = T} s stated (Err x) a a) (sym none) (record {
      value = λ told. tt;
      reads = record {
        elf = left_as s (Unit {0}) ⊥ a a (λ went. tt) (elf_left s a);
        read = tt;
        write = tt;
      };
    })
