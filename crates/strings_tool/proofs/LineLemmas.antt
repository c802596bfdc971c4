-- The lines of runs, as they are appended one after another.
use Rattle.std.proofs.Common.{◌≡◌, ◌+◌, ◌-◌, ◌/◌, ◌^◌, ◌<◌, ◌≤◌, ◌++◌, ℕ, List, [], Result, Ok, Err, length, length-drop, take, drop, flat_map, refl, sym, ap, ◌∙◌, subst, arith, append_assoc, append-nil, drop-drop}
use Rattle.std.proofs.lemmas.List.Concat.{flat_map-cons}
use Rattle.std.specs.Result.{OnOk, IfErr}
use Rattle.elf_types.specs.declared.errors.ElfError.{ElfError}
use Rattle.elf_types.specs.Writers.{WantsMemory}
use Rattle.elf_types.proofs.Writers.{extends_both}
use Rattle.strings_tool.specs.declared.options.StringsOptions.{StringsOptions}
use Rattle.strings_tool.specs.Runs.{long_runs}
use Rattle.strings_tool.specs.Skips.{Skips}
use Rattle.strings_tool.specs.Masks.{ShowsBytes, IsFirstRun}
use Rattle.strings_tool.specs.Scans.{HasPut}
use Rattle.strings_tool.specs.Texts.{run_line, shortest_run, range_text}
use Rattle.strings_tool.proofs.RunLemmas.{front_len, rest_is, rest_of, opens}
use Rattle.strings_tool.proofs.LaneLemmas.{shown_rest}
use Rattle.strings_tool.proofs.TextLemmas.{text_none}

module _ (options : StringsOptions) where
  -- what is passed over has no line
  skip_first : (at k : ℕ) (bytes : List ℕ) → Skips (shortest_run options) bytes k → range_text options at bytes ≡ range_text options (at + k) (drop k bytes)
  unfolding range_text
  skip_first at k bytes skips =
      ap (range_text options at) (sym (append-nil bytes))
      ∙ ap (flat_map (run_line options.place)) (skips at [])
      ∙ ap (range_text options (at + k)) (append-nil (drop k bytes))

  -- a run at the front, and the lines of what follows
  run_first : (at : ℕ) (bytes : List ℕ) → shortest_run options ≤ front_len bytes
      → range_text options at bytes
      ≡ run_line options.place (record { at = at; bytes = take (front_len bytes) bytes }) ++ range_text options (at + front_len bytes) (drop (front_len bytes) bytes)
  unfolding range_text
  run_first at bytes long =
      let n = front_len bytes in
      ap (flat_map (run_line options.place)) (opens (shortest_run options) at bytes (omega arith) long)
      ∙ flat_map-cons (run_line options.place) (record { at = at; bytes = take n bytes }) (long_runs (shortest_run options) (at + n) (drop n bytes))

  pub none_put : (at : ℕ) (bytes page : List ℕ) → HasPut options at bytes page page 0
  none_put at bytes page = record {
    lines = [];
    put = sym (append-nil page);
    rest = ap (λ (n : ℕ). range_text options n bytes) (let e : at ≡ at + 0 = omega arith in e);
  }

  module _ (at used : ℕ) (bytes old page : List ℕ) (h : HasPut options at bytes old page used) where
    pub skip_put : (k : ℕ) → Skips (shortest_run options) (drop used bytes) k → HasPut options at bytes old page (used + k)
    skip_put k skips = record {
      lines = h.lines;
      put = h.put;
      rest = h.rest ∙ ap (λ (l : List ℕ). h.lines ++ l)
          (skip_first (at + used) k (drop used bytes) skips
          ∙ ap (λ (n : ℕ). range_text options n (drop k (drop used bytes))) (let e : at + used + k ≡ at + (used + k) = omega arith in e)
          ∙ ap (range_text options (at + (used + k))) (drop-drop k used bytes));
    }

    pub run_put : (n m : ℕ) (next : List ℕ) → m ≡ n → n ≡ front_len (drop used bytes) → shortest_run options ≤ n
        → next ≡ page ++ run_line options.place (record { at = at + used; bytes = take m (drop used bytes) }) → HasPut options at bytes old next (used + n)
    run_put n m next same is long more =
        let rest = drop used bytes in
        let line = run_line options.place (record { at = at + used; bytes = take m rest }) in
        record {
          lines = h.lines ++ line;
          put = more ∙ ap (λ (l : List ℕ). l ++ line) h.put ∙ append_assoc old h.lines line;
          rest = h.rest ∙ ap (λ (l : List ℕ). h.lines ++ l)
              (run_first (at + used) rest (omega (arith, is, long))
              ∙ ap (λ (k : ℕ). run_line options.place (record { at = at + used; bytes = take k rest }) ++ range_text options (at + used + front_len rest) (drop (front_len rest) rest)) (let e : front_len rest ≡ m = omega (arith, same, is) in e)
              ∙ ap (λ (k : ℕ). line ++ range_text options (at + used + k) (drop k rest)) (sym is)
              ∙ ap (λ (k : ℕ). line ++ range_text options k (drop n rest)) (let e : at + used + n ≡ at + (used + n) = omega arith in e)
              ∙ ap (λ (l : List ℕ). line ++ range_text options (at + (used + n)) l) (drop-drop n used bytes))
              ∙ sym (append_assoc h.lines line (range_text options (at + (used + n)) (drop (used + n) bytes)));
        }

    -- what follows was put too
    pub all_put : (next : List ℕ) → next ≡ page ++ range_text options (at + used) (rest_of bytes used) → next ≡ old ++ range_text options at bytes
    all_put next more =
        more ∙ ap (λ (l : List ℕ). page ++ range_text options (at + used) l) (rest_is bytes used)
        ∙ ap (λ (l : List ℕ). l ++ range_text options (at + used) (drop used bytes)) h.put
        ∙ append_assoc old h.lines (range_text options (at + used) (drop used bytes))
        ∙ ap (λ (l : List ℕ). old ++ l) (sym h.rest)

    -- no run is left
    pub end_put : length (drop used bytes) < shortest_run options → page ≡ old ++ range_text options at bytes
    end_put few =
        h.put ∙ ap (λ (l : List ℕ). old ++ l)
        (sym (append-nil h.lines) ∙ ap (λ (l : List ℕ). h.lines ++ l) (sym (text_none options (at + used) (drop used bytes) few)) ∙ sym h.rest)

    -- some of what follows was put
    pub more_put : (n : ℕ) (next : List ℕ) → HasPut options (at + used) (rest_of bytes used) page next n → HasPut options at bytes old next (used + n)
    more_put n next k = record {
      lines = h.lines ++ k.lines;
      put = k.put ∙ ap (λ (l : List ℕ). l ++ k.lines) h.put ∙ append_assoc old h.lines k.lines;
      rest = h.rest ∙ ap (λ (l : List ℕ). h.lines ++ l)
          (ap (range_text options (at + used)) (sym (rest_is bytes used)) ∙ k.rest
          ∙ ap (λ (l : List ℕ). k.lines ++ range_text options (at + used + n) (drop n l)) (rest_is bytes used)
          ∙ ap (λ (p : ℕ). k.lines ++ range_text options p (drop n (drop used bytes))) (let e : at + used + n ≡ at + (used + n) = omega arith in e)
          ∙ ap (λ (l : List ℕ). k.lines ++ range_text options (at + (used + n)) l) (drop-drop n used bytes))
          ∙ sym (append_assoc h.lines k.lines (range_text options (at + (used + n)) (drop (used + n) bytes)));
    }

    -- what the list held stands after a refusal
    pub refused_put : (e : ElfError) (next : List ℕ) → WantsMemory page next e → WantsMemory old next e
    refused_put e next wants = (extends_both {T = Unit} (Err e) old page next h.lines [] h.put (tt, wants)).1

    -- the last call puts what follows
    pub rest_put : {T : Type 0} (r : Result T ElfError) (next : List ℕ) → OnOk r (next ≡ page ++ range_text options (at + used) (rest_of bytes used))
        → OnOk r (next ≡ old ++ range_text options at bytes)
    rest_put (Ok x) next more = all_put next more
    rest_put (Err e) next more = more

    pub rest_refused : {T : Type 0} (r : Result T ElfError) (next : List ℕ) → IfErr r (WantsMemory page next) → IfErr r (WantsMemory old next)
    rest_refused (Ok x) next wants = wants
    rest_refused (Err e) next wants = refused_put e next wants

  -- ---- A search in what follows

  module _ (at used : ℕ) (bytes old page : List ℕ) (h : HasPut options at bytes old page used) where
    module _ (least : ℕ) (is_least : least ≡ shortest_run options) where
      -- what was passed over
      pub skipped_put : (k n : ℕ) → Skips least (drop used bytes) k → used + k ≡ n → HasPut options at bytes old page n
      skipped_put k n skips is =
          subst (HasPut options at bytes old page) is (skip_put at used bytes old page h k (subst (λ (m : ℕ). Skips m (drop used bytes) k) is_least skips))

      -- a run that was found
      found_put : (k n m : ℕ) (next : List ℕ) → Skips least (drop used bytes) k → m ≡ n → n ≡ front_len (drop (used + k) bytes) → least ≤ n
          → next ≡ page ++ run_line options.place (record { at = at + (used + k); bytes = take m (drop (used + k) bytes) })
          → HasPut options at bytes old next (used + k + n)
      found_put k n m next skips same is long more =
          run_put at (used + k) bytes old page (skipped_put k (used + k) skips refl) n m next same is (omega (arith, long, is_least)) more

      -- the last of a search
      pub last_put : (k : ℕ) → used ≤ length bytes → Skips least (rest_of bytes used) k → length bytes - (used + k) < least → page ≡ old ++ range_text options at bytes
      last_put k within skips few =
          let passes = subst (λ (l : List ℕ). Skips least l k) (rest_is bytes used) skips in
          end_put at (used + k) bytes old page (skipped_put k (used + k) passes refl) (omega (arith, few, is_least, length-drop (used + k) bytes))

      pub search_within : (k n : ℕ) → used ≤ length bytes → k + n ≤ length (rest_of bytes used) → used + k + n ≤ length bytes
      search_within k n within inside =
          let rest = ap length (rest_is bytes used) in
          omega (arith, within, inside, rest, length-drop used bytes)

      pub search_put : (k n m : ℕ) (next : List ℕ) → used ≤ length bytes → Skips least (rest_of bytes used) k
          → (k + least ≤ length (rest_of bytes used) → least ≤ n) → (k + least ≤ length (rest_of bytes used) → n ≡ front_len (drop k (rest_of bytes used)))
          → least ≤ length bytes - (used + k) → m ≡ n
          → next ≡ page ++ run_line options.place (record { at = at + (used + k); bytes = take m (drop (used + k) bytes) })
          → HasPut options at bytes old next (used + k + n)
      search_put k n m next within skips long len enough same more =
          let rest = ap length (rest_is bytes used) in
          let there : k + least ≤ length (rest_of bytes used) = omega (arith, within, enough, is_least, rest, length-drop used bytes) in
          let front = ap (λ (l : List ℕ). front_len (drop k l)) (rest_is bytes used) ∙ ap front_len (drop-drop k used bytes) in
          found_put k n m next (subst (λ (l : List ℕ). Skips least l k) (rest_is bytes used) skips) same (len there ∙ front) (long there) more

      -- ---- The runs that the mask of a block shows

      module _ (mask : ℕ) (shown : ShowsBytes mask (64 - used) (drop used bytes)) (from len : ℕ) (f : IsFirstRun least (64 - used) (drop used bytes) (from, len)) where
        -- one that ends in the block
        pub block_put : (m : ℕ) (next : List ℕ) → used + from + len < 64 → m ≡ len
            → next ≡ page ++ run_line options.place (record { at = at + (used + from); bytes = take m (drop (used + from) bytes) })
            → HasPut options at bytes old next (used + from + len)
        block_put m next inside same more =
            let front = ap front_len (drop-drop from used bytes) in
            let ended = f.ended (omega (arith, inside)) in
            found_put from len m next f.skips same (omega (arith, front, ended)) f.long more

        pub block_left : used + from + len < 64 → ShowsBytes (mask / 2 ^ (from + len)) (64 - (used + from + len)) (drop (used + from + len) bytes)
        block_left inside =
            subst (λ (k : ℕ). ShowsBytes (mask / 2 ^ (from + len)) k (drop (used + from + len) bytes)) (let e : 64 - used - (from + len) ≡ 64 - (used + from + len) = omega (arith, inside) in e)
            (subst (λ (k : ℕ). ShowsBytes (mask / 2 ^ (from + len)) (64 - used - (from + len)) (drop k bytes)) (let e : used + (from + len) ≡ used + from + len = omega arith in e)
            (subst (λ (l : List ℕ). ShowsBytes (mask / 2 ^ (from + len)) (64 - used - (from + len)) l) (drop-drop (from + len) used bytes)
            (shown_rest mask (64 - used) (from + len) (drop used bytes) shown f.within)))

        -- one that goes on behind it
        pub over_put : (more m : ℕ) (next : List ℕ) → used ≤ 64 → 64 ≤ used + from + len → more ≡ front_len (rest_of bytes 64) → m ≡ 64 + more - (used + from)
            → next ≡ page ++ run_line options.place (record { at = at + (used + from); bytes = take m (drop (used + from) bytes) })
            → HasPut options at bytes old next (64 + more)
        over_put more m next within past is same put =
            let whole : from + len ≡ 64 - used = omega (arith, f.within, within, past) in
            let on = f.goes_on whole in
            let here = ap front_len (drop-drop from used bytes) in
            let there = ap front_len (drop-drop (64 - used) used bytes) in
            let end : used + (64 - used) ≡ 64 = omega (arith, within) in
            let behind = ap (λ (k : ℕ). front_len (drop k bytes)) end in
            let rest = ap front_len (rest_is bytes 64) in
            let n : len + more ≡ front_len (drop (used + from) bytes) = omega (arith, on, here, there, behind, rest, is) in
            subst (HasPut options at bytes old next) (let e : used + from + (len + more) ≡ 64 + more = omega (arith, whole, within) in e)
            (found_put from (len + more) m next f.skips (let e : m ≡ len + more = omega (arith, same, whole, within) in e) n (let e : least ≤ len + more = omega (arith, f.long) in e) put)
