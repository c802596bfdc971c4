-- The calls of a script that a source holds.
use Rattle.std.proofs.Common.{◌≡◌, ◌⊎◌, inl, inr, ℕ, ◌<◌, Bool, true, false, List, [], length, take, drop, codes, Option, Some, None, Result, Ok, Err, IfSome, IfOk, refl, sym, ap, ◌∙◌, subst, arith}
use Rattle.std.specs.Prelude.{nat_lt, if◌then◌else◌}
use Rattle.std.proofs.lemmas.Bool.{lt-ltb}
use Rattle.std.proofs.lemmas.List.{take_all}
use Rattle.elf_types.specs.declared.errors.ElfError.{ElfError}
use Rattle.elf_types.specs.declared.errors.ElfError.TheVariants as error
use Rattle.elf_outside.specs.Asks.{Asks, ReadRose}
use Rattle.elf_outside.specs.Counts.{Rose}
use Rattle.elf_outside.specs.declared.sources.Source.{Ghosts}
use Rattle.elf_outside.specs.declared.sinks.Sink.{Ghosts as SinkGhosts}
use Rattle.tool_output.specs.declared.stops.Stop.{Stop}
use Rattle.tool_output.specs.declared.stops.Stop.TheVariants as stops
use Rattle.tool_output.specs.declared.outputs.Outputs.{Outputs}
use Rattle.tool_output.specs.Names.{Name}
use Rattle.tool_output.specs.Reports.{no_report, refusal_report}
use Rattle.tool_output.specs.Steps.{Performs, LeavesOutputs, OnRead, OnWrite}
use Rattle.tool_output.proofs.StepLemmas.{keeps_none, went_none, writes_went, writes_nothing}
use Rattle.elf_calls_script.specs.declared.calls.Call.{Call}
use Rattle.elf_calls_script.specs.declared.faults.Why.{Why}
use Rattle.elf_calls_script.specs.declared.faults.Why.TheVariants.{TooLong}
use Rattle.elf_calls_script.specs.declared.script.TheConstants.{MAX_SCRIPT}
use Rattle.elf_calls_script.specs.Script.{calls_from, lines_of, calls_of}
use Rattle.calls_tool.specs.declared.scripts.BadLine.{BadLine}
use Rattle.calls_tool.specs.Scripts.{bad_line_text, with_line, script_calls, IsScript, ReadsScript, calls_or_text, script_report, calls_if_any, TellsScript}

-- ---- What bytes say

pub says_calls : (bytes : List ℕ) (cs : List Call) → calls_of bytes ≡ Ok cs → IsScript (Ok (Ok cs)) bytes
unfolding script_calls
says_calls bytes cs is = record { value = sym (ap with_line is); stop = tt }

pub says_bad : (bytes : List ℕ) (line : ℕ) (why : Why) → calls_of bytes ≡ Err (line, why) → IsScript (Ok (Err (record { line = line; why = why }))) bytes
unfolding script_calls
says_bad bytes line why is = record { value = sym (ap with_line is); stop = tt }

-- ---- What a source holds

by_length : (test : Bool) (r : Result (List Call) (ℕ × Why)) → test ≡ true → (if test then Err (0, TooLong) else r) ≡ Err (0, TooLong)
by_length true r is = refl
by_length false r is = cc

long_is : (bytes : List ℕ) → MAX_SCRIPT < length bytes → calls_of bytes ≡ Err (0, TooLong)
unfolding calls_of
long_is bytes long = by_length (nat_lt MAX_SCRIPT (length bytes)) (calls_from 1 (lines_of bytes)) (lt-ltb MAX_SCRIPT (length bytes) long)

module _ {S : Type 0} (g : Ghosts S) (a : S) (sized : IfSome (g.holds a) (λ bytes. length bytes ≡ g.size a)) where
  -- too long a script, of which nothing is read
  pub too_long : MAX_SCRIPT < g.size a → ReadsScript g (Ok (Err (record { line = 0; why = TooLong }))) a a
  unfolding script_calls
  too_long long = record {
    value = on_bytes (g.holds a) sized;
    source = record { same_len = refl; same_bytes = refl; same_rest = refl };
    later = omega arith;
    taken = omega arith;
    read = tt;
    write = tt;
  }
    where
      on_bytes : (held : Option (List ℕ)) → IfSome held (λ bytes. length bytes ≡ g.size a)
          → IfSome held (λ bytes. IfOk {E = Stop} (Ok (Err (record { line = 0; why = TooLong }))) (λ read. read ≡ script_calls bytes))
      on_bytes None same = tt
      on_bytes (Some bytes) same = sym (ap with_line (long_is bytes (omega (arith, long, same))))

  module _ (b : S) (len : ℕ) (is_len : len ≡ g.size a) where
    -- the bytes that were read are those that it holds
    value_of : (held : Option (List ℕ)) (bytes : List ℕ) (r : Result (Result (List Call) BadLine) Stop) → IfSome held (λ image. length image ≡ g.size a)
        → IfSome held (λ image. bytes ≡ take len (drop 0 image)) → IsScript r bytes → IfSome held (λ image. IfOk r (λ read. read ≡ script_calls image))
    value_of None bytes r same read script = tt
    value_of (Some image) bytes r same read script =
        subst (λ (l : List ℕ). IfOk r (λ x. x ≡ script_calls l)) (read ∙ take_all len image (omega (arith, same, is_len))) script.value

    pub script_read : (T : Type 0) (x : T) (bytes : List ℕ) (r : Result (Result (List Call) BadLine) Stop) → IfSome (g.holds a) (λ image. bytes ≡ take len (drop 0 image))
        → Asks {T = T} g (Ok x) a b len → IsScript r bytes → ReadsScript g r a b
    script_read T x bytes (Ok (Ok cs)) read asks script = record {
      value = value_of (g.holds a) bytes (Ok (Ok cs)) sized read script;
      source = asks.leaves;
      later = asks.later;
      taken = omega (arith, asks.taken.no_more, is_len);
      read = tt;
      write = tt;
    }
    script_read T x bytes (Ok (Err bad)) read asks script = record {
      value = value_of (g.holds a) bytes (Ok (Err bad)) sized read script;
      source = asks.leaves;
      later = asks.later;
      taken = omega (arith, asks.taken.no_more, is_len);
      read = tt;
      write = tt;
    }
    script_read T x bytes (Err stops.Memory) read asks script = record {
      value = value_of (g.holds a) bytes (Err stops.Memory) sized read script;
      source = asks.leaves;
      later = asks.later;
      taken = omega (arith, asks.taken.no_more, is_len);
      read = tt;
      write = tt;
    }
    script_read T x bytes (Err stops.Read) read asks script = let is = script.stop in cc
    script_read T x bytes (Err stops.Write) read asks script = let is = script.stop in cc

    -- the read was not answered
    pub script_unread : (T : Type 0) (e : ElfError) (stop : Stop) → (e ≡ error.Memory) ⊎ (e ≡ error.Read)
        → (e ≡ error.Memory → stop ≡ stops.Memory) × (e ≡ error.Read → stop ≡ stops.Read) → Asks {T = T} g (Err e) a b len → ReadsScript g (Err stop) a b
    script_unread T e stop (inl is) by_error asks =
        rw (by_error.0 is) (record {
          value = nothing (g.holds a);
          source = asks.leaves;
          later = asks.later;
          taken = omega (arith, asks.taken.no_more, is_len);
          read = tt;
          write = tt;
        })
      where
        nothing : (held : Option (List ℕ)) → IfSome held (λ image. IfOk {T = Result (List Call) BadLine} (Err stops.Memory) (λ read. read ≡ script_calls image))
        nothing None = tt
        nothing (Some image) = tt
    script_unread T e stop (inr is) by_error asks =
        rw (by_error.1 is) (record {
          value = nothing (g.holds a);
          source = asks.leaves;
          later = asks.later;
          taken = omega (arith, asks.taken.no_more, is_len);
          read = subst (λ (d : ElfError). ReadRose {T = T} (Err d) (g.faults a) (g.faults b)) is asks.read;
          write = tt;
        })
      where
        nothing : (held : Option (List ℕ)) → IfSome held (λ image. IfOk {T = Result (List Call) BadLine} (Err stops.Read) (λ read. read ≡ script_calls image))
        nothing None = tt
        nothing (Some image) = tt

-- ---- What is said of it

module _ {S O E : Type 0} (s : Ghosts S) (o : SinkGhosts O) (e : SinkGhosts E) (name : Name) (a b : S) (t u : Outputs O E) where
  -- a script with calls
  pub tells_calls : (cs : List Call) → ReadsScript s (Ok (Ok cs)) a b → TellsScript s o e name (Ok (Some cs)) a b t t
  unfolding script_report no_report
  tells_calls cs read = record {
    says = on_bytes (s.holds a) read.value;
    source = read.source;
    later = read.later;
    taken = read.taken;
    leaves = record { keeps = keeps_none o e t; read = tt; write = tt };
  }
    where
      on_bytes : (held : Option (List ℕ)) → IfSome held (λ bytes. Ok cs ≡ script_calls bytes)
          → IfSome held (λ bytes. Performs o e (Ok (Some cs)) t t (script_report name (calls_or_text (script_calls bytes))).marks (calls_if_any (calls_or_text (script_calls bytes))))
      on_bytes None is = tt
      on_bytes (Some bytes) is = rw (← is) (record { writes = writes_went o e (Some cs) t t [] (went_none o e t); value_is = refl })

  -- one with a bad line
  pub tells_bad : (bad : BadLine) (r : Result (Option (List Call)) Stop) → ReadsScript s (Ok (Err bad)) a b
      → Performs o e r t u (refusal_report (codes "calls") name (bad_line_text bad)).marks None → IfOk r (λ calls. calls ≡ None) → LeavesOutputs o e ⊥ r t u
      → TellsScript s o e name r a b t u
  unfolding script_report
  tells_bad bad r read said none left = record {
    says = on_bytes (s.holds a) read.value;
    source = read.source;
    later = read.later;
    taken = read.taken;
    leaves = reads_no_more r left;
  }
    where
      on_bytes : (held : Option (List ℕ)) → IfSome held (λ bytes. Err bad ≡ script_calls bytes)
          → IfSome held (λ bytes. Performs o e r t u (script_report name (calls_or_text (script_calls bytes))).marks (calls_if_any (calls_or_text (script_calls bytes))))
      on_bytes None is = tt
      on_bytes (Some bytes) is = rw (← is) said

      reads_no_more : (q : Result (Option (List Call)) Stop) → LeavesOutputs o e ⊥ q t u → LeavesOutputs o e (Rose (s.faults a) (s.faults b)) q t u
      reads_no_more (Ok calls) h = record { keeps = h.keeps; read = tt; write = tt }
      reads_no_more (Err stops.Read) h = absurd h.read
      reads_no_more (Err stops.Write) h = record { keeps = h.keeps; read = tt; write = h.write }
      reads_no_more (Err stops.Memory) h = record { keeps = h.keeps; read = tt; write = tt }

  -- one that could not be read
  pub tells_nothing : (stop : Stop) → ReadsScript s (Err stop) a b → TellsScript s o e name (Err stop) a b t t
  tells_nothing stop read = record {
    says = on_bytes (s.holds a);
    source = read.source;
    later = read.later;
    taken = read.taken;
    leaves = by_stop stop read.read read.write;
  }
    where
      on_bytes : (held : Option (List ℕ))
          → IfSome held (λ bytes. Performs o e (Err stop) t t (script_report name (calls_or_text (script_calls bytes))).marks (calls_if_any (calls_or_text (script_calls bytes))))
      on_bytes None = tt
      on_bytes (Some bytes) = record { writes = writes_nothing o e stop t _; value_is = tt }

      by_stop : (stop : Stop) → OnRead {T = Result (List Call) BadLine} (Err stop) (Rose (s.faults a) (s.faults b)) → OnWrite {T = Result (List Call) BadLine} (Err stop) ⊥
          → LeavesOutputs {T = Option (List Call)} o e (Rose (s.faults a) (s.faults b)) (Err stop) t t
      by_stop stops.Read rose never = record { keeps = keeps_none o e t; read = rose; write = tt }
      by_stop stops.Memory rose never = record { keeps = keeps_none o e t; read = tt; write = tt }
      by_stop stops.Write rose never = absurd never
